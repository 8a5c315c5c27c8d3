-- Runs with a larger bound: what ended stays as it was.
use Rattle.std.proofs.Common.{◌≡◌, ◌≢◌, ℕ, zero, suc, ◌≤◌, Bool, true, false, cond, eqb, List, [], ◌∷◌, length, Option}
use Rattle.std.proofs.Common.{None, Some, slice_get, unwrap_or, refl, ap, arith}
use Rattle.gossa_base.specs.declared.ids.BlockId.{BlockId}
use Rattle.ssa_ir.specs.declared.case.CallShown.{CallShown}
use Rattle.ssa_ir.specs.declared.case.End.TheVariants.{Going}
use Rattle.ssa_ir.specs.declared.case.Shown.{Shown}
use Rattle.ssa_ir.specs.declared.func.Value.{Value}
use Rattle.ssa_ir.specs.declared.func.Kind.{Kind}
use Rattle.ssa_ir.specs.declared.func.Kind.TheVariants.{Plain, If, Ret, Exit, Cond, Bit}
use Rattle.ssa_ir.specs.declared.func.Block.{Block}
use Rattle.ssa_ir.specs.declared.func.Func.{Func}
use Rattle.ssa_ir.specs.Edges.{block_named, edge_number}
use Rattle.ssa_ir.specs.Inputs.{Inputs, Answer, parameter_word, symbol_word}
use Rattle.ssa_ir.specs.Phis.{entered}
use Rattle.ssa_ir.specs.declared.role.Role.{Role}
use Rattle.ssa_ir.specs.declared.role.Role.TheVariants.{Computes, Compares, TakesParameter, TakesAddress, Loads}
use Rattle.ssa_ir.specs.declared.role.Role.TheVariants.{Stores, ChecksNil, Calls, Rests}
use Rattle.ssa_ir.specs.Roles.{role}
use Rattle.ssa_ir.specs.Conditions.{holds}
use Rattle.ssa_ir.specs.Run.{Form, State, with_word, computed, pointer, loaded_word, stored_memory, shown_of}
use Rattle.ssa_ir.specs.Run.{with_answer, takes_answer, control_word, flags_of, is_set, run_role, run_values, arrives}
use Rattle.ssa_ir.specs.Run.{goes_to}
use Rattle.ssa_ir.specs.Run.{leaves, run_control, run_block, to_counted, turns, begun, run_from, run}
use Rattle.ssa_ir.specs.Showing.{ends, call_then}
use Rattle.ssa_ir.specs.Widths.{kept}

-- where the first ended within its bound, the second is the same
abbrev pub Stays : Shown → Shown → Type 0
Stays a b = a.end ≢ Going → b ≡ a

-- two ways to go on from a block
abbrev Onward : Type 0
Onward = Block → Option ℕ → State → Shown

abbrev StaysOnward : Onward → Onward → Type 0
StaysOnward go more = (b : Block) (edge : Option ℕ) (s : State) → Stays (go b edge s) (more b edge s)

pub stays_either : (c : Bool) (a b a' b' : Shown) → Stays a a' → Stays b b' → Stays (cond c a b) (cond c a' b')
stays_either true a b a' b' p q = p
stays_either false a b a' b' p q = q

-- the same call before both
pub call_stays : (c : CallShown) (a b : Shown) → Stays a b → Stays (call_then c a) (call_then c b)
call_stays c a b p going = ap (call_then c) (p going)

answer_stays : (form : Form) (block : List Value) (v : Value) (s : State) (answers : List Answer)
    (go more : State → Shown)
    → ((t : State) → Stays (go t) (more t))
    → Stays (takes_answer form block v s answers go) (takes_answer form block v s answers more)
answer_stays form block v s [] go more h = λ _. refl
answer_stays form block v s (a ∷ answers) go more h = h (with_answer form block v s a answers)

role_stays : (form : Form) (inputs : Inputs) (block : List Value) (v : Value) (r : Role) (s : State)
    (go more : State → Shown)
    → ((t : State) → Stays (go t) (more t))
    → Stays (run_role form inputs block v r s go) (run_role form inputs block v r s more)
role_stays form inputs block v Computes s go more h = h (with_word s v.id.0 (computed v s.words))
role_stays form inputs block v Compares s go more h = h (with_word s v.id.0 (computed v s.words))
role_stays form inputs block v TakesParameter s go more h =
    h (with_word s v.id.0 (kept form.whole v.ty (parameter_word inputs v.aux)))
role_stays form inputs block v TakesAddress s go more h =
    h (with_word s v.id.0 (symbol_word inputs (unwrap_or v.sym [])))
role_stays form inputs block v Loads s go more h = h (with_word s v.id.0 (loaded_word v s))
role_stays form inputs block v Stores s go more h = h (record s { memory = stored_memory v s })
role_stays form inputs block v ChecksNil s go more h =
    stays_either (eqb (pointer v s.words) 0) _ _ _ _ (λ _. refl) (h (with_word s v.id.0 (pointer v s.words)))
role_stays form inputs block v Calls s go more h =
    call_stays (shown_of form v s) (takes_answer form block v s s.answers go)
    (takes_answer form block v s s.answers more)
    (answer_stays form block v s s.answers go more h)
role_stays form inputs block v Rests s go more h = h s

values_stay : (form : Form) (inputs : Inputs) (block values : List Value) (s : State) (go more : State → Shown)
    → ((t : State) → Stays (go t) (more t))
    → Stays (run_values form inputs block values s go) (run_values form inputs block values s more)
values_stay form inputs block [] s go more h = h s
values_stay form inputs block (v ∷ values) s go more h =
    role_stays form inputs block v (role v.op) s (λ t. run_values form inputs block values t go)
    (λ t. run_values form inputs block values t more) (λ t. values_stay form inputs block values t go more h)

arrives_stays : (go more : Onward) (b : Block) (j : ℕ) (s : State) (t : Option Block)
    → StaysOnward go more → Stays (arrives go b j s t) (arrives more b j s t)
arrives_stays go more b j s None h = λ _. refl
arrives_stays go more b j s (Some t) h = h t (Some (edge_number b t j)) s

goes_to_stays : (f : Func) (go more : Onward) (b : Block) (j : ℕ) (s : State) (id : Option BlockId)
    → StaysOnward go more → Stays (goes_to f go b j s id) (goes_to f more b j s id)
goes_to_stays f go more b j s None h = λ _. refl
goes_to_stays f go more b j s (Some id) h = arrives_stays go more b j s (block_named f.blocks id) h

leaves_stays : (f : Func) (go more : Onward) (b : Block) (j : ℕ) (s : State)
    → StaysOnward go more → Stays (leaves f go b j s) (leaves f more b j s)
leaves_stays f go more b j s h = goes_to_stays f go more b j s (slice_get b.succs j) h

control_stays : (form : Form) (f : Func) (go more : Onward) (b : Block) (k : Kind) (s : State)
    → StaysOnward go more → Stays (run_control form f go b k s) (run_control form f more b k s)
control_stays form f go more b Plain s h = leaves_stays f go more b 0 s h
control_stays form f go more b If s h =
    leaves_stays f go more b (cond (is_set (control_word s.words b.control)) 0 1) s h
control_stays form f go more b Ret s h = λ _. refl
control_stays form f go more b Exit s h = λ _. refl
control_stays form f go more b (Cond c) s h =
    leaves_stays f go more b (cond (holds c (flags_of (control_word s.words b.control))) 0 1) s h
control_stays form f go more b Bit s h =
    leaves_stays f go more b (cond (is_set (control_word s.words b.control)) 0 1) s h

block_stays : (form : Form) (inputs : Inputs) (f : Func) (go more : Onward) → StaysOnward go more
    → StaysOnward (run_block form inputs f go) (run_block form inputs f more)
block_stays form inputs f go more h b edge s =
    values_stay form inputs (form.values b) (form.order b) (record s { words = entered (form.values b) edge s.words })
    (run_control form f go b b.kind) (run_control form f more b b.kind) (λ t. control_stays form f go more b b.kind t h)

counted_stays : (form : Form) (inputs : Inputs) (f : Func) (go more : Onward) (k : ℕ) → StaysOnward go more
    → StaysOnward (to_counted form inputs f go k) (to_counted form inputs f more k)
counted_stays form inputs f go more zero h b edge s =
    stays_either b.id.split _ _ _ _ (λ _. refl) (h b edge s)
counted_stays form inputs f go more (suc k) h b edge s =
    stays_either b.id.split _ _ _ _
    (block_stays form inputs f (to_counted form inputs f go k) (to_counted form inputs f more k)
    (counted_stays form inputs f go more k h) b edge s)
    (h b edge s)

turns_stay : (form : Form) (inputs : Inputs) (f : Func) (n m : ℕ) → n ≤ m
    → StaysOnward (turns form inputs f n) (turns form inputs f m)
turns_stay form inputs f zero m le b edge s = λ going. absurd (going refl)
turns_stay form inputs f (suc n) zero le b edge s = absurd (omega arith)
turns_stay form inputs f (suc n) (suc m) le b edge s =
    block_stays form inputs f (to_counted form inputs f (turns form inputs f n) (length f.blocks))
    (to_counted form inputs f (turns form inputs f m) (length f.blocks))
    (counted_stays form inputs f (turns form inputs f n) (turns form inputs f m) (length f.blocks)
    (turns_stay form inputs f n m (omega arith)))
    b edge s

from_stays : (form : Form) (inputs : Inputs) (f : Func) (n m : ℕ) (blocks : List Block) → n ≤ m
    → Stays (run_from form inputs f n blocks) (run_from form inputs f m blocks)
from_stays form inputs f n m [] le = λ _. refl
from_stays form inputs f n m (b ∷ blocks) le = turns_stay form inputs f n m le b None (begun inputs)

pub ended_stays : (form : Form) (inputs : Inputs) (f : Func) (n m : ℕ) → n ≤ m
    → Stays (run form inputs f n) (run form inputs f m)
ended_stays form inputs f n m le = from_stays form inputs f n m f.blocks le

from_zero : (form : Form) (inputs : Inputs) (f : Func) (blocks : List Block) → 1 ≤ length blocks
    → run_from form inputs f 0 blocks ≡ ends Going
from_zero form inputs f [] some = absurd (omega arith)
from_zero form inputs f (b ∷ blocks) some = refl

pub zero_goes_on : (form : Form) (inputs : Inputs) (f : Func) → 1 ≤ length f.blocks → run form inputs f 0 ≡ ends Going
zero_goes_on form inputs f some = from_zero form inputs f f.blocks some
