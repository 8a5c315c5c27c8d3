-- What a run is given.
use Rattle.std.specs.Prelude.{ℕ, ℤ, pos, negsuc, List, [], ◌∷◌, map, slice_index_or, if◌then◌else◌, nat_eq}
use Rattle.std.specs.FinMap as finite
use Rattle.std.specs.Cmp.Lexicographic.{pointwise}
use Rattle.gossa_base.specs.Memory.{Memory, write_pieces}
use Rattle.gossa_base.specs.Words.{low}
use Rattle.ssa_ir.specs.declared.case.Junk.{Junk}
use Rattle.ssa_ir.specs.declared.case.Piece.{Piece}
use Rattle.ssa_ir.specs.declared.case.Reply.{Reply}
use Rattle.ssa_ir.specs.declared.case.Case.{Case}

-- what a callee answers: its result words (an absent one is 0), the memory that it wrote, what it left in all that
-- holds no result, and the word that the collector puts in each pointer slot outside the call's map
pub record Answer : Type 0 where
  pub words : List ℕ
  pub writes : List (ℕ × List ℕ)
  pub junk : ℕ → ℕ
  pub clobber : ℕ

-- the parameter words (an absent one is 0), the addresses of symbols, the memory, what stands in all else, and the
-- answers to calls, in order
pub record Inputs : Type 0 where
  pub arguments : List ℕ
  pub symbols : List ℕ → ℕ
  pub memory : Memory
  pub junk : ℕ → ℕ
  pub answers : List Answer

-- the word of parameter i. Whatever comes from outside is a word: it is taken modulo 2 to the 64
abbrev pub argument : Inputs → ℕ → ℕ
argument inputs i = low 64 (slice_index_or inputs.arguments i 0)

-- the parameter of this number; none has a number below 0
abbrev pub parameter_word : Inputs → ℤ → ℕ
parameter_word inputs (pos i) = argument inputs i
parameter_word inputs (negsuc i) = 0

-- the word of result i of an answer
abbrev pub answer_word : Answer → ℕ → ℕ
answer_word answer i = low 64 (slice_index_or answer.words i 0)

-- the result of this number; none has a number below 0
abbrev pub result_word : Answer → ℤ → ℕ
result_word answer (pos i) = answer_word answer i
result_word answer (negsuc i) = 0

-- the address of a symbol
abbrev pub symbol_word : Inputs → List ℕ → ℕ
symbol_word inputs name = low 64 (inputs.symbols name)

-- item i of the junk
abbrev pub junk_word : Inputs → ℕ → ℕ
junk_word inputs i = low 64 (inputs.junk i)

abbrev pub pieces_of : List Piece → List (ℕ × List ℕ)
pieces_of pieces = map (λ p. (p.addr, p.bytes)) pieces

-- a junk list goes on with its fill
abbrev pub junk_of : Junk → ℕ → ℕ
junk_of j i = slice_index_or j.words i j.fill

-- the address of a symbol; one that no line gives is 0
abbrev pub symbol_in : List (List ℕ × ℕ) → List ℕ → ℕ
symbol_in [] name = 0
symbol_in ((n, w) ∷ rest) name = if pointwise nat_eq n name then w else symbol_in rest name

abbrev pub answer_of : Reply → Answer
answer_of r = record { words = r.words; writes = pieces_of r.writes; junk = junk_of r.junk; clobber = r.clobber }

-- the inputs that a case gives
abbrev pub inputs_of : Case → Inputs
inputs_of c = record {
  arguments = c.args;
  symbols = symbol_in c.syms;
  memory = write_pieces finite.empty (pieces_of c.mem);
  junk = junk_of c.junk;
  answers = map answer_of c.replies;
}
