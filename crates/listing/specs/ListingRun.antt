-- The run of a listing: its lines are followed from the first. The label of a counted block is a turn. Past the last
-- line, or after more lines than there are without a counted label, it is stuck.
use Rattle.std.specs.Prelude.{ℕ, zero, suc, ◌+◌, ◌==◌, Bool, false, if◌then◌else◌, List, [], ◌∷◌, length, Option, None}
use Rattle.std.specs.Prelude.{Some, slice_get}
use Rattle.gossa_base.specs.Words.{low}
use Rattle.ssa_ir.specs.declared.abi.AbiPlace.{AbiPlace}
use Rattle.ssa_ir.specs.declared.abi.AbiPlace.TheVariants.{Reg, Word}
use Rattle.ssa_ir.specs.declared.case.End.TheVariants.{Going, Stuck}
use Rattle.ssa_ir.specs.declared.case.Shown.{Shown}
use Rattle.ssa_ir.specs.ArgumentPlaces.{parameter_places}
use Rattle.ssa_ir.specs.Inputs.{Inputs, argument, junk_word}
use Rattle.ssa_ir.specs.Run.{Callees}
use Rattle.ssa_ir.specs.Showing.{ends}
use Rattle.listing.specs.declared.line.Line.{Line}
use Rattle.listing.specs.declared.code.Code.{Code}
use Rattle.listing.specs.declared.code.Map.{Map}
use Rattle.listing.specs.declared.code.Listing.{Listing}
use Rattle.listing.specs.Frame.{frame_words}
use Rattle.listing.specs.Machine.{Machine, Onward, run_line}

abbrev pub same_place : AbiPlace → AbiPlace → Bool
same_place (Reg r) (Reg s) = r == s
same_place (Word j) (Word k) = j == k
same_place (Reg r) (Word k) = false
same_place (Word j) (Reg s) = false

-- which parameter, from number i on, has this place
abbrev pub parameter_at : ℕ → AbiPlace → List AbiPlace → Option ℕ
parameter_at i p [] = None
parameter_at i p (q ∷ places) = if same_place q p then Some i else parameter_at (suc i) p places

abbrev pub argument_or : Inputs → ℕ → Option ℕ → ℕ
argument_or inputs junk None = junk
argument_or inputs junk (Some i) = argument inputs i

-- the word that stands at the start at an argument place: the parameter's that has it, or else junk
abbrev pub first_word : Inputs → Code → AbiPlace → ℕ → ℕ
first_word inputs code p junk = argument_or inputs junk (parameter_at 0 p (parameter_places code.regs code.sig))

-- before the first line: each parameter stands in its place, and all else is junk. Register Rn has item n of the junk,
-- the flags the low bits of item 31, the frame's words the items from 32 on (outgoing, then the others), and the
-- argument words the items behind those; w is the number of the frame's words. A home without a frame word has the item
-- of its number behind the outgoing words
abbrev pub begun : Inputs → Code → ℕ → Machine
begun inputs code w = record {
  registers = λ r. first_word inputs code (Reg r) (junk_word inputs r);
  flags = low 4 (junk_word inputs 31);
  memory = inputs.memory;
  since = inputs.memory;
  frame = λ i. junk_word inputs (32 + code.out + i);
  outgoing = λ j. junk_word inputs (32 + j);
  arguments = λ j. first_word inputs code (Word j) (junk_word inputs (32 + w + j));
  homes = λ n. junk_word inputs (32 + code.out + n);
  answers = inputs.answers;
}

abbrev pub line_at : Callees → Inputs → Code → Option (List Map) → (turn go : Onward) → Option Line → Onward
line_at callees inputs code maps turn go None i m = ends Stuck
line_at callees inputs code maps turn go (Some line) i m = run_line callees inputs code maps turn go line i m

-- at most k lines up to a counted label, and then the rest of the run
abbrev pub follow : Callees → Inputs → Code → Option (List Map) → (turn : Onward) → (k : ℕ) → Onward
follow callees inputs code maps turn zero i m = ends Stuck
follow callees inputs code maps turn (suc k) i m =
    line_at callees inputs code maps turn (follow callees inputs code maps turn k) (slice_get code.lines i) i m

-- at most n turns, from behind a counted label on
abbrev pub turns : Callees → Inputs → Code → Option (List Map) → (n : ℕ) → Onward
turns callees inputs code maps zero i m = ends Going
turns callees inputs code maps (suc n) i m =
    follow callees inputs code maps (turns callees inputs code maps n) (length code.lines + 1) i m

-- what code shows with a bound of n turns, in a frame of w words
abbrev pub run_code : Callees → Inputs → Code → Option (List Map) → (w n : ℕ) → Shown
run_code callees inputs code maps w n =
    follow callees inputs code maps (turns callees inputs code maps n) (length code.lines + 1) 0 (begun inputs code w)

-- what a function's listing shows with a bound of n turns
abbrev pub run_listing : Callees → Inputs → Listing → ℕ → Shown
run_listing callees inputs l n = run_code callees inputs l.code (Some l.maps) (frame_words l) n
