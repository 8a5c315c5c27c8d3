-- Runs with other junk show the same: they show what they show where all junk is 0.
use Rattle.std.proofs.Common.{◌≡◌, ℕ, zero, suc, Bool, cond, eqb, List, [], ◌∷◌, length, map, Option, None, Some}
use Rattle.std.proofs.Common.{slice_get, unwrap_or, refl, ap, sym, ◌∙◌}
use Rattle.gossa_base.specs.declared.ids.BlockId.{BlockId}
use Rattle.ssa_ir.specs.declared.case.Case.{Case}
use Rattle.ssa_ir.specs.declared.case.Piece.{Piece}
use Rattle.ssa_ir.specs.declared.case.Reply.{Reply}
use Rattle.ssa_ir.specs.declared.case.Shown.{Shown}
use Rattle.ssa_ir.specs.declared.func.Value.{Value}
use Rattle.ssa_ir.specs.declared.func.Kind.{Kind}
use Rattle.ssa_ir.specs.declared.func.Kind.TheVariants.{Plain, If, Ret, Exit, Cond, Bit}
use Rattle.ssa_ir.specs.declared.func.Block.{Block}
use Rattle.ssa_ir.specs.declared.func.Func.{Func}
use Rattle.ssa_ir.specs.declared.func.SsaUnit.{SsaUnit}
use Rattle.ssa_ir.specs.declared.role.Role.{Role}
use Rattle.ssa_ir.specs.declared.role.Role.TheVariants.{Computes, Compares, TakesParameter, TakesAddress, Loads}
use Rattle.ssa_ir.specs.declared.role.Role.TheVariants.{Stores, ChecksNil, Calls, Rests}
use Rattle.ssa_ir.specs.Edges.{block_named, edge_number}
use Rattle.ssa_ir.specs.Inputs.{Inputs, Answer, answer_of, inputs_of, parameter_word, pieces_of, symbol_in, symbol_word}
use Rattle.ssa_ir.specs.Lookups.{sig_of}
use Rattle.ssa_ir.specs.Phis.{entered}
use Rattle.ssa_ir.specs.Roles.{role}
use Rattle.ssa_ir.specs.Conditions.{holds}
use Rattle.ssa_ir.specs.Run.{Form, State, generic, with_word, computed, pointer, loaded_word, stored_memory, shown_of}
use Rattle.ssa_ir.specs.Run.{with_answer, takes_answer, control_word, flags_of, is_set, run_role, run_values, arrives}
use Rattle.ssa_ir.specs.Run.{goes_to}
use Rattle.ssa_ir.specs.Run.{leaves, run_control, run_block, to_counted, turns, begun, run_from, run}
use Rattle.ssa_ir.specs.Showing.{call_then}
use Rattle.ssa_ir.specs.Widths.{kept}
use Rattle.ssa_meaning.specs.CaseRun.{case_shown, shown_of_function}
use Rattle.ssa_meaning.specs.RunLaws.{DifferInJunk, told_by}

-- an answer of these words and writes with no junk
abbrev bare : List ℕ → List (ℕ × List ℕ) → Answer
bare words writes = record { words = words; writes = writes; junk = λ i. 0; clobber = 0 }

abbrev bare_answer : Answer → Answer
bare_answer a = bare a.words a.writes

abbrev bare_state : State → State
bare_state s = record s { answers = map bare_answer s.answers }

abbrev bare_inputs : Inputs → Inputs
bare_inputs inputs = record inputs { junk = λ i. 0; answers = map bare_answer inputs.answers }

abbrev Same : (State → Shown) → (State → Shown) → Type 0
Same go plain = (s : State) → go s ≡ plain (bare_state s)

-- two ways to go on from a block
abbrev Onward : Type 0
Onward = Block → Option ℕ → State → Shown

abbrev SameOnward : Onward → Onward → Type 0
SameOnward go plain = (b : Block) (edge : Option ℕ) → Same (go b edge) (plain b edge)

-- ---- a run

either_same : (c : Bool) (a b a' b' : Shown) → a ≡ a' → b ≡ b' → cond c a b ≡ cond c a' b'
either_same c a b a' b' p q = λ i. cond c (p i) (q i)

answer_same : (form : Form) (block : List Value) (v : Value) (s : State) (answers : List Answer)
    (go plain : State → Shown)
    → Same go plain
    → takes_answer form block v s answers go ≡ takes_answer form block v (bare_state s) (map bare_answer answers) plain
answer_same form block v s [] go plain h = refl
answer_same form block v s (a ∷ answers) go plain h = h (with_answer form block v s a answers)

role_same : (form : Form) (inputs : Inputs) (block : List Value) (v : Value) (r : Role) (s : State)
    (go plain : State → Shown)
    → Same go plain → run_role form inputs block v r s go
    ≡ run_role form (bare_inputs inputs) block v r (bare_state s) plain
role_same form inputs block v Computes s go plain h = h (with_word s v.id.0 (computed v s.words))
role_same form inputs block v Compares s go plain h = h (with_word s v.id.0 (computed v s.words))
role_same form inputs block v TakesParameter s go plain h =
    h (with_word s v.id.0 (kept form.whole v.ty (parameter_word inputs v.aux)))
role_same form inputs block v TakesAddress s go plain h =
    h (with_word s v.id.0 (symbol_word inputs (unwrap_or v.sym [])))
role_same form inputs block v Loads s go plain h = h (with_word s v.id.0 (loaded_word v s))
role_same form inputs block v Stores s go plain h = h (record s { memory = stored_memory v s })
role_same form inputs block v ChecksNil s go plain h =
    either_same (eqb (pointer v s.words) 0) _ _ _ _ refl (h (with_word s v.id.0 (pointer v s.words)))
role_same form inputs block v Calls s go plain h =
    ap (call_then (shown_of form v s)) (answer_same form block v s s.answers go plain h)
role_same form inputs block v Rests s go plain h = h s

values_same : (form : Form) (inputs : Inputs) (block values : List Value) (s : State) (go plain : State → Shown)
    → Same go plain
    → run_values form inputs block values s go ≡ run_values form (bare_inputs inputs) block values (bare_state s) plain
values_same form inputs block [] s go plain h = h s
values_same form inputs block (v ∷ values) s go plain h =
    role_same form inputs block v (role v.op) s (λ t. run_values form inputs block values t go)
    (λ t. run_values form (bare_inputs inputs) block values t plain)
    (λ t. values_same form inputs block values t go plain h)

arrives_same : (go plain : Onward) (b : Block) (j : ℕ) (s : State) (t : Option Block)
    → SameOnward go plain → arrives go b j s t ≡ arrives plain b j (bare_state s) t
arrives_same go plain b j s None h = refl
arrives_same go plain b j s (Some t) h = h t (Some (edge_number b t j)) s

goes_to_same : (f : Func) (go plain : Onward) (b : Block) (j : ℕ) (s : State) (id : Option BlockId)
    → SameOnward go plain → goes_to f go b j s id ≡ goes_to f plain b j (bare_state s) id
goes_to_same f go plain b j s None h = refl
goes_to_same f go plain b j s (Some id) h = arrives_same go plain b j s (block_named f.blocks id) h

leaves_same : (f : Func) (go plain : Onward) (b : Block) (j : ℕ) (s : State)
    → SameOnward go plain → leaves f go b j s ≡ leaves f plain b j (bare_state s)
leaves_same f go plain b j s h = goes_to_same f go plain b j s (slice_get b.succs j) h

control_same : (form : Form) (f : Func) (go plain : Onward) (b : Block) (k : Kind) (s : State)
    → SameOnward go plain → run_control form f go b k s ≡ run_control form f plain b k (bare_state s)
control_same form f go plain b Plain s h = leaves_same f go plain b 0 s h
control_same form f go plain b If s h =
    leaves_same f go plain b
    (cond (is_set (control_word s.words b.control)) 0 1) s h
control_same form f go plain b Ret s h = refl
control_same form f go plain b Exit s h = refl
control_same form f go plain b (Cond c) s h =
    leaves_same f go plain b
    (cond (holds c (flags_of (control_word s.words b.control))) 0 1) s h
control_same form f go plain b Bit s h =
    leaves_same f go plain b
    (cond (is_set (control_word s.words b.control)) 0 1) s h

block_same : (form : Form) (inputs : Inputs) (f : Func) (go plain : Onward) → SameOnward go plain
    → SameOnward (run_block form inputs f go) (run_block form (bare_inputs inputs) f plain)
block_same form inputs f go plain h b edge s =
    values_same form inputs (form.values b) (form.order b) (record s { words = entered (form.values b) edge s.words })
    (run_control form f go b b.kind) (run_control form f plain b b.kind)
    (λ t. control_same form f go plain b b.kind t h)

counted_same : (form : Form) (inputs : Inputs) (f : Func) (go plain : Onward) (k : ℕ) → SameOnward go plain
    → SameOnward (to_counted form inputs f go k) (to_counted form (bare_inputs inputs) f plain k)
counted_same form inputs f go plain zero h b edge s = either_same b.id.split _ _ _ _ refl (h b edge s)
counted_same form inputs f go plain (suc k) h b edge s =
    either_same b.id.split _ _ _ _
    (block_same form inputs f (to_counted form inputs f go k) (to_counted form (bare_inputs inputs) f plain k)
    (counted_same form inputs f go plain k h) b edge s)
    (h b edge s)

turns_same : (form : Form) (inputs : Inputs) (f : Func) (n : ℕ)
    → SameOnward (turns form inputs f n) (turns form (bare_inputs inputs) f n)
turns_same form inputs f zero b edge s = refl
turns_same form inputs f (suc n) b edge s =
    block_same form inputs f (to_counted form inputs f (turns form inputs f n) (length f.blocks))
    (to_counted form (bare_inputs inputs) f (turns form (bare_inputs inputs) f n) (length f.blocks))
    (counted_same form inputs f (turns form inputs f n) (turns form (bare_inputs inputs) f n) (length f.blocks)
    (turns_same form inputs f n))
    b edge s

from_same : (form : Form) (inputs : Inputs) (f : Func) (n : ℕ) (blocks : List Block)
    → run_from form inputs f n blocks ≡ run_from form (bare_inputs inputs) f n blocks
from_same form inputs f n [] = refl
from_same form inputs f n (b ∷ blocks) = turns_same form inputs f n b None (begun inputs)

bare_run : (form : Form) (inputs : Inputs) (f : Func) (n : ℕ) → run form inputs f n ≡ run form (bare_inputs inputs) f n
bare_run form inputs f n = from_same form inputs f n f.blocks

-- ---- two cases

-- the answer that is told by its words and its writes
abbrev told_answer : List ℕ × List Piece → Answer
told_answer t = bare t.0 (pieces_of t.1)

bare_replies : (replies : List Reply) → map bare_answer (map answer_of replies) ≡ map told_answer (map told_by replies)
bare_replies [] = refl
bare_replies (r ∷ replies) = ap (λ l. told_answer (told_by r) ∷ l) (bare_replies replies)

same_inputs : (c d : Case) → DifferInJunk c d → bare_inputs (inputs_of c) ≡ bare_inputs (inputs_of d)
same_inputs c d h = λ i. record {
  arguments = h.args i;
  symbols = symbol_in (h.syms i);
  memory = (inputs_of (record c { mem = h.mem i })).memory;
  junk = λ k. 0;
  answers = (bare_replies c.replies ∙ ap (map told_answer) h.replies ∙ sym (bare_replies d.replies)) i;
}

function_same : (u : SsaUnit) (c d : Case) → DifferInJunk c d → (f : Option Func)
    → shown_of_function u c f ≡ shown_of_function u d f
function_same u c d h None = refl
function_same u c d h (Some f) =
    bare_run (generic (sig_of u)) (inputs_of c) f c.bound
    ∙ (λ i. run (generic (sig_of u)) (same_inputs c d h i) f (h.bound i))
    ∙ sym (bare_run (generic (sig_of u)) (inputs_of d) f d.bound)

-- cases that differ in junk alone show the same
pub junk_unseen : (u : SsaUnit) (c d : Case) → DifferInJunk c d → case_shown u c ≡ case_shown u d
junk_unseen u c d h =
    function_same u c d h (slice_get u.funcs c.func)
    ∙ ap (λ i. shown_of_function u d (slice_get u.funcs i)) h.func
