-- The run of an SSA function. A turn takes a counted block: its phis at once, its values in order, its control. Blocks
-- on split edges take no turn. A run that would begin one turn more than its bound goes on.
use Rattle.std.specs.Prelude.{ℕ, zero, suc, ◌==◌, Bool, false, if◌then◌else◌, List, [], ◌∷◌, length, slice_get}
use Rattle.std.specs.Prelude.{unwrap_or, Option, None, Some}
use Rattle.gossa_base.specs.declared.ids.ValueId.{ValueId}
use Rattle.gossa_base.specs.declared.ids.BlockId.{BlockId}
use Rattle.gossa_base.specs.Memory.{Memory, write_bytes, write_pieces, changed}
use Rattle.gossa_base.specs.Words.{low}
use Rattle.ssa_ir.specs.declared.op.Op.{Op}
use Rattle.ssa_ir.specs.declared.types.Sig.{Sig}
use Rattle.ssa_ir.specs.declared.func.Value.{Value}
use Rattle.ssa_ir.specs.declared.func.Kind.{Kind}
use Rattle.ssa_ir.specs.declared.func.Kind.TheVariants.{Plain, If, Ret, Exit, Cond, Bit}
use Rattle.ssa_ir.specs.declared.func.Block.{Block}
use Rattle.ssa_ir.specs.declared.func.Func.{Func}
use Rattle.ssa_ir.specs.declared.case.CallShown.{CallShown}
use Rattle.ssa_ir.specs.declared.case.End.TheVariants.{Returned, Trapped, Exited, NoReply, Going, Stuck}
use Rattle.ssa_ir.specs.declared.case.Shown.{Shown}
use Rattle.ssa_ir.specs.Access.{address, loaded, stored}
use Rattle.ssa_ir.specs.Calls.{words_before_memory, shown_call, answered}
use Rattle.ssa_ir.specs.Conditions.{holds}
use Rattle.ssa_ir.specs.Edges.{block_named, edge_number}
use Rattle.ssa_ir.specs.Evaluation.{eval}
use Rattle.ssa_ir.specs.FirstOrder.{first_order}
use Rattle.ssa_ir.specs.Inputs.{Inputs, Answer, parameter_word, symbol_word}
use Rattle.ssa_ir.specs.Lookups.{value_named}
use Rattle.ssa_ir.specs.Phis.{entered}
use Rattle.ssa_ir.specs.declared.role.Role.{Role}
use Rattle.ssa_ir.specs.declared.op_facts.Takes.{Takes}
use Rattle.ssa_ir.specs.declared.op_facts.Takes.TheVariants.{Words, WordsAndMemory, WordsAndFlags, AnyWordsAndMemory}
use Rattle.ssa_ir.specs.declared.op_facts.Takes.TheVariants.{OneAnEdge, ItsCall}
use Rattle.ssa_ir.specs.declared.role.Role.TheVariants.{Computes, Compares, TakesParameter, TakesAddress, Loads}
use Rattle.ssa_ir.specs.declared.role.Role.TheVariants.{Stores, ChecksNil, Calls, Rests}
use Rattle.ssa_ir.specs.OpFacts.{facts}
use Rattle.ssa_ir.specs.Roles.{role}
use Rattle.ssa_ir.specs.Showing.{ends, call_then, words_at}
use Rattle.ssa_ir.specs.Widths.{kept}

-- the signatures of callees, by name
abbrev pub Callees : Type 0
Callees = List ℕ → Option Sig

-- how a function is run: the signatures of its callees; whether its words are whole, as those of a lowered function, or
-- kept at the widths of their types; all values of a block, and the order in which they are taken
pub record Form : Type 0 where
  pub callees : Callees
  pub whole : Bool
  pub values : Block → List Value
  pub order : Block → List Value

-- a function of generic ops, in the first order of each block
abbrev pub generic : Callees → Form
generic callees = record { callees = callees; whole = false; values = λ b. b.values; order = λ b. first_order b.values }

-- what a run has at one moment: the word of each value by its number, the memory, the memory from which changes are
-- counted, and the answers that are left
pub record State : Type 0 where
  pub words : ℕ → ℕ
  pub memory : Memory
  pub since : Memory
  pub answers : List Answer

-- a table of words with another word at one number
abbrev pub put : (ℕ → ℕ) → ℕ → ℕ → ℕ → ℕ
put words n w k = if k == n then w else words k

abbrev pub with_word : State → ℕ → ℕ → State
with_word s n w = record s { words = put s.words n w }

-- the word of argument i; an absent one is 0
abbrev pub operand : (ℕ → ℕ) → List ValueId → ℕ → ℕ
operand words [] i = 0
operand words (a ∷ args) zero = words a.0
operand words (a ∷ args) (suc i) = operand words args i

-- the flags in a word: its low four bits
abbrev pub flags_of : ℕ → ℕ
flags_of w = low 4 w

-- the flags behind the words that an op takes
abbrev pub flags_taken : Takes → (ℕ → ℕ) → List ValueId → ℕ
flags_taken (Words n) words args = 0
flags_taken (WordsAndMemory n) words args = 0
flags_taken (WordsAndFlags n) words args = flags_of (operand words args n)
flags_taken AnyWordsAndMemory words args = 0
flags_taken OneAnEdge words args = 0
flags_taken ItsCall words args = 0

-- the flags that an op reads, of these arguments: those of the last one
abbrev pub flags_word : Op → (ℕ → ℕ) → List ValueId → ℕ
flags_word op words args = flags_taken (facts op).takes words args

-- the word that a value computes
abbrev pub computed : Value → (ℕ → ℕ) → ℕ
computed v words =
    eval v.op v.aux (operand words v.args 0) (operand words v.args 1) (operand words v.args 2)
    (flags_word v.op words v.args)

-- the word of a value's first argument: the pointer of what loads, stores or checks
abbrev pub pointer : Value → (ℕ → ℕ) → ℕ
pointer v words = operand words v.args 0

-- a load's word, and the memory that a store leaves
abbrev pub loaded_word : Value → State → ℕ
loaded_word v s = loaded v.op v.ty s.memory (address v.aux (pointer v s.words))

abbrev pub stored_memory : Value → State → Memory
stored_memory v s =
    write_bytes s.memory (address v.aux (pointer v s.words)) (stored v.op v.elem (operand s.words v.args 1))

-- what a call shows
abbrev pub shown_of : Form → Value → State → CallShown
shown_of form v s =
    let name = unwrap_or v.sym [] in
    shown_call name (form.callees name) (words_before_memory s.words v.args) s.since s.memory

-- behind an answer: the call's selects have their words, what it wrote is written, and changes are counted from then on
abbrev pub with_answer : Form → (block : List Value) → Value → State → Answer → List Answer → State
with_answer form block v s a answers = record {
  words = answered form.whole block v.id a s.words;
  memory = write_pieces s.memory a.writes;
  since = write_pieces s.memory a.writes;
  answers = answers;
}

-- a call takes the next answer, and then comes the rest of the run
abbrev pub takes_answer : Form → (block : List Value) → Value → State → List Answer → (State → Shown) → Shown
takes_answer form block v s [] go = ends NoReply
takes_answer form block v s (a ∷ answers) go = go (with_answer form block v s a answers)

-- a value of this role, among all values of its block, and then the rest of the run
abbrev pub run_role : Form → Inputs → (block : List Value) → Value → Role → State → (State → Shown) → Shown
run_role form inputs block v Computes s go = go (with_word s v.id.0 (computed v s.words))
run_role form inputs block v Compares s go = go (with_word s v.id.0 (computed v s.words))
run_role form inputs block v TakesParameter s go =
    go (with_word s v.id.0 (kept form.whole v.ty (parameter_word inputs v.aux)))
run_role form inputs block v TakesAddress s go = go (with_word s v.id.0 (symbol_word inputs (unwrap_or v.sym [])))
run_role form inputs block v Loads s go = go (with_word s v.id.0 (loaded_word v s))
run_role form inputs block v Stores s go = go (record s { memory = stored_memory v s })
run_role form inputs block v ChecksNil s go =
    if pointer v s.words == 0 then ends (Trapped (changed s.since s.memory)) else go
    (with_word s v.id.0 (pointer v s.words))
run_role form inputs block v Calls s go = call_then (shown_of form v s) (takes_answer form block v s s.answers go)
run_role form inputs block v Rests s go = go s

-- values in order, among all values of their block, and then the rest of the run
abbrev pub run_values : Form → Inputs → (block : List Value) → List Value → State → (State → Shown) → Shown
run_values form inputs block [] s go = go s
run_values form inputs block (v ∷ values) s go =
    run_role form inputs block v (role v.op) s (λ t. run_values form inputs block values t go)

-- the words of the values that a MakeResult names before its memory
abbrev pub result_words : (ℕ → ℕ) → Option Value → List ℕ
result_words words None = []
result_words words (Some v) = words_before_memory words v.args

abbrev pub controlling : List Value → Option ValueId → Option Value
controlling values None = None
controlling values (Some id) = value_named values id

abbrev pub control_word : (ℕ → ℕ) → Option ValueId → ℕ
control_word words None = 0
control_word words (Some id) = words id.0

abbrev pub arrives : (Block → Option ℕ → State → Shown) → Block → ℕ → State → Option Block → Shown
arrives go b j s None = ends Stuck
arrives go b j s (Some t) = go t (Some (edge_number b t j)) s

abbrev pub goes_to : Func → (Block → Option ℕ → State → Shown) → Block → ℕ → State → Option BlockId → Shown
goes_to f go b j s None = ends Stuck
goes_to f go b j s (Some id) = arrives go b j s (block_named f.blocks id)

-- the run goes along the edge to successor j
abbrev pub leaves : Func → (Block → Option ℕ → State → Shown) → Block → ℕ → State → Shown
leaves f go b j s = goes_to f go b j s (slice_get b.succs j)

-- bit 0 of a word
abbrev pub is_set : ℕ → Bool
is_set w = low 1 w == 1

-- how a block of this kind ends, and then the rest of the run; the control of a branch on a condition is a comparison
abbrev pub run_control : Form → Func → (Block → Option ℕ → State → Shown) → Block → Kind → State → Shown
run_control form f go b Plain s = leaves f go b 0 s
run_control form f go b If s = leaves f go b (if is_set (control_word s.words b.control) then 0 else 1) s
run_control form f go b Ret s =
    ends (Returned (words_at f.sig.results (result_words s.words (controlling (form.values b) b.control)))
    (changed s.since s.memory))
run_control form f go b Exit s = ends (Exited (changed s.since s.memory))
run_control form f go b (Cond c) s =
    leaves f go b (if holds c (flags_of (control_word s.words b.control)) then 0 else 1) s
run_control form f go b Bit s = leaves f go b (if is_set (control_word s.words b.control) then 0 else 1) s

-- one block, entered by an edge or from outside, and then the rest of the run
abbrev pub run_block : Form → Inputs → Func → (Block → Option ℕ → State → Shown) → Block → Option ℕ → State → Shown
run_block form inputs f go b edge s =
    run_values form inputs (form.values b) (form.order b) (record s { words = entered (form.values b) edge s.words })
    (run_control form f go b b.kind)

-- through at most k blocks on split edges to a counted block, and then the rest of the run
abbrev pub to_counted : Form → Inputs → Func → (Block → Option ℕ → State → Shown) → ℕ → Block → Option ℕ → State → Shown
to_counted form inputs f go zero b edge s = if b.id.split then ends Stuck else go b edge s
to_counted form inputs f go (suc k) b edge s =
    if b.id.split then run_block form inputs f (to_counted form inputs f go k) b edge s else go b edge s

-- at most n turns, from a counted block on
abbrev pub turns : Form → Inputs → Func → (n : ℕ) → Block → Option ℕ → State → Shown
turns form inputs f zero b edge s = ends Going
turns form inputs f (suc n) b edge s =
    run_block form inputs f (to_counted form inputs f (turns form inputs f n) (length f.blocks)) b edge s

-- before the first turn: no value has a word
abbrev pub begun : Inputs → State
begun inputs = record { words = λ n. 0; memory = inputs.memory; since = inputs.memory; answers = inputs.answers }

abbrev pub run_from : Form → Inputs → Func → ℕ → List Block → Shown
run_from form inputs f n [] = ends Stuck
run_from form inputs f n (b ∷ blocks) = turns form inputs f n b None (begun inputs)

-- what the run of a function shows, with a bound of n turns
abbrev pub run : Form → Inputs → Func → ℕ → Shown
run form inputs f n = run_from form inputs f n f.blocks
