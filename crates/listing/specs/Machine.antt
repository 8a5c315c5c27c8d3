-- The machine: registers, flags, memory and words of the stack, and what one line does to them.
use Rattle.std.specs.Prelude.{ℕ, suc, ℤ, ◌==◌, Bool, true, false, if◌then◌else◌, List, [], ◌∷◌, map, Option, None, Some}
use Rattle.std.specs.Prelude.{slice_index_or}
use Rattle.gossa_base.specs.declared.ids.BlockId.{BlockId}
use Rattle.gossa_base.specs.Memory.{Memory, changed}
use Rattle.gossa_base.specs.Words.{word_of}
use Rattle.ssa_ir.specs.declared.abi.AbiPlace.{AbiPlace}
use Rattle.ssa_ir.specs.declared.abi.AbiPlace.TheVariants.{Reg as InRegister, Word as InWord}
use Rattle.ssa_ir.specs.declared.case.End.TheVariants.{Returned, Trapped, Exited, Stuck}
use Rattle.ssa_ir.specs.declared.case.Shown.{Shown}
use Rattle.ssa_ir.specs.declared.op.Op.{Op}
use Rattle.ssa_ir.specs.ArgumentPlaces.{result_places}
use Rattle.ssa_ir.specs.Evaluation.{eval}
use Rattle.ssa_ir.specs.Inputs.{Inputs, Answer, symbol_word}
use Rattle.ssa_ir.specs.Edges.{same_block}
use Rattle.ssa_ir.specs.declared.role.Role.{Role}
use Rattle.ssa_ir.specs.declared.role.Role.TheVariants.{Computes, Compares, TakesParameter, TakesAddress, Loads}
use Rattle.ssa_ir.specs.declared.role.Role.TheVariants.{Stores, ChecksNil, Calls, Rests}
use Rattle.ssa_ir.specs.Roles.{role}
use Rattle.ssa_ir.specs.Run.{Callees, put, is_set}
use Rattle.ssa_ir.specs.Showing.{ends, words_at}
use Rattle.listing.specs.declared.line.Line.{Line}
use Rattle.listing.specs.declared.line.Line.TheVariants.{Label, Op as Compute, Move, Nil, Branch, BitBranch, Jump, Call}
use Rattle.listing.specs.declared.line.Line.TheVariants.{Ret, Exit}
use Rattle.listing.specs.declared.line.Operands.{Operands}
use Rattle.listing.specs.declared.line.Place.{Place}
use Rattle.listing.specs.declared.line.Place.TheVariants.{Reg, Out, Arg, Frame, Home, Const, Addr}
use Rattle.listing.specs.declared.code.Code.{Code}
use Rattle.listing.specs.declared.code.Map.{Map}

-- what the machine has at one moment: the words of the registers, the flags, the memory and that from which changes are
-- counted, the frame words, the outgoing words, the argument words, the homes of values that have no frame word yet,
-- and the answers that are left
pub record Machine : Type 0 where
  pub registers : ℕ → ℕ
  pub flags : ℕ
  pub memory : Memory
  pub since : Memory
  pub frame : ℕ → ℕ
  pub outgoing : ℕ → ℕ
  pub arguments : ℕ → ℕ
  pub homes : ℕ → ℕ
  pub answers : List Answer

-- the word at a place, or the constant, or the address of the symbol
abbrev pub word_at : Inputs → Code → Place → Machine → ℕ
word_at inputs code (Reg r) m = m.registers r
word_at inputs code (Out j) m = m.outgoing j
word_at inputs code (Arg j) m = m.arguments j
word_at inputs code (Frame i) m = m.frame i
word_at inputs code (Home v) m = m.homes v.0
word_at inputs code (Const c) m = word_of c
word_at inputs code (Addr s) m = symbol_word inputs (slice_index_or code.syms s [])

-- the machine with a word at a place; a constant and an address stay what they are
abbrev pub with_place : Place → ℕ → Machine → Machine
with_place (Reg r) w m = record m { registers = put m.registers r w }
with_place (Out j) w m = record m { outgoing = put m.outgoing j w }
with_place (Arg j) w m = record m { arguments = put m.arguments j w }
with_place (Frame i) w m = record m { frame = put m.frame i w }
with_place (Home v) w m = record m { homes = put m.homes v.0 w }
with_place (Const c) w m = m
with_place (Addr s) w m = m

abbrev pub moves_from : Inputs → Code → Machine → List (Place × Place) → Machine → Machine
moves_from inputs code before [] m = m
moves_from inputs code before ((to, from) ∷ moves) m =
    moves_from inputs code before moves (with_place to (word_at inputs code from before) m)

-- moves taken at once, each to its first place from its second: every target gets what its source held before
abbrev pub moves_at_once : Inputs → Code → List (Place × Place) → Machine → Machine
moves_at_once inputs code moves m = moves_from inputs code m moves m

-- the word of an operand's register; an absent operand has 0
abbrev pub register_word : Machine → Option ℕ → ℕ
register_word m None = 0
register_word m (Some r) = m.registers r

abbrev pub with_result : Machine → Option ℕ → ℕ → Machine
with_result m None w = m
with_result m (Some r) w = with_place (Reg r) w m

-- the machine with the word that an op computes in the result's register
abbrev pub with_computed : Op → ℤ → Operands → Machine → Machine
with_computed op aux o m = with_result m o.dst (eval op aux (register_word m o.a) (register_word m o.b) 0 m.flags)

-- the machine with the flags that a comparison computes
abbrev pub with_flags : Op → ℤ → Operands → Machine → Machine
with_flags op aux o m = record m { flags = eval op aux (register_word m o.a) (register_word m o.b) 0 m.flags }

-- a computing line whose op has this role, and then the rest of the run; no load or store of the machine is built yet.
-- An address is a move, and a nil check and a call have lines of their own
abbrev pub run_computing : Role → Op → ℤ → Operands → (go : Machine → Shown) → Machine → Shown
run_computing Computes op aux o go m = go (with_computed op aux o m)
run_computing Compares op aux o go m = go (with_flags op aux o m)
run_computing TakesParameter op aux o go m = go m
run_computing TakesAddress op aux o go m = ends Stuck
run_computing Loads op aux o go m = ends Stuck
run_computing Stores op aux o go m = ends Stuck
run_computing ChecksNil op aux o go m = ends Stuck
run_computing Calls op aux o go m = ends Stuck
run_computing Rests op aux o go m = go m

-- where an argument or result stands on the callee's side
abbrev pub own_place : AbiPlace → Place
own_place (InRegister r) = Reg r
own_place (InWord j) = Arg j

-- the words of the result places, at the widths of the results
abbrev pub results : Inputs → Code → Machine → List ℕ
results inputs code m =
    words_at code.sig.results (map (λ p. word_at inputs code (own_place p) m) (result_places code.regs code.sig))

abbrev pub is_label : BlockId → Line → Bool
is_label b (Label c held) = same_block c b
is_label b _ = false

-- the place of a block's label, from place i on
abbrev pub label_from : ℕ → BlockId → List Line → Option ℕ
label_from i b [] = None
label_from i b (line ∷ lines) = if is_label b line then Some i else label_from (suc i) b lines

-- how a run goes on: at a line
abbrev pub Onward : Type 0
Onward = ℕ → Machine → Shown

abbrev pub at_place : Onward → Machine → Option ℕ → Shown
at_place go m None = ends Stuck
at_place go m (Some i) = go i m

-- the run goes to a block's label
abbrev pub jumps : Code → Onward → BlockId → Machine → Shown
jumps code go b m = at_place go m (label_from 0 b code.lines)

-- what the line at place i does, and then the rest of the run: `go` takes it on at a line, and `turn` behind the label
-- of a counted block. The maps are those of the calls, where the code has them, and the callees' signatures tell where
-- their arguments stand. No branch on flags and no call is built yet
abbrev pub run_line : Callees → Inputs → Code → Option (List Map) → (turn go : Onward) → Line → ℕ → Machine → Shown
run_line callees inputs code maps turn go (Label b held) i m = if b.split then go (suc i) m else turn (suc i) m
run_line callees inputs code maps turn go (Compute op aux o note) i m = run_computing (role op) op aux o (go (suc i)) m
run_line callees inputs code maps turn go (Move to from note) i m =
    go (suc i) (with_place to (word_at inputs code from m) m)
run_line callees inputs code maps turn go (Nil r note) i m =
    if m.registers r == 0 then ends (Trapped (changed m.since m.memory)) else go (suc i) m
run_line callees inputs code maps turn go (Branch c b) i m = ends Stuck
run_line callees inputs code maps turn go (BitBranch true r b) i m =
    if is_set (m.registers r) then jumps code go b m else go (suc i) m
run_line callees inputs code maps turn go (BitBranch false r b) i m =
    if is_set (m.registers r) then go (suc i) m else jumps code go b m
run_line callees inputs code maps turn go (Jump b) i m = jumps code go b m
run_line callees inputs code maps turn go (Call s map note) i m = ends Stuck
run_line callees inputs code maps turn go Ret i m = ends (Returned (results inputs code m) (changed m.since m.memory))
run_line callees inputs code maps turn go Exit i m = ends (Exited (changed m.since m.memory))
