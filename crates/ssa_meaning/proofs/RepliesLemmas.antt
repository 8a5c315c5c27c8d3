-- Runs with more replies: what didn't ask for a reply that wasn't there stays as it was.
use Rattle.std.proofs.Common.{◌≡◌, ◌≢◌, ℕ, zero, suc, Bool, true, false, cond, eqb, List, [], ◌∷◌, ◌++◌, length, map}
use Rattle.std.proofs.Common.{Option, None, Some, slice_get, unwrap_or, refl, ap, subst, sym, ◌∙◌}
use Rattle.std.proofs.lemmas.List.{map-append}
use Rattle.gossa_base.specs.declared.ids.BlockId.{BlockId}
use Rattle.ssa_ir.specs.declared.case.CallShown.{CallShown}
use Rattle.ssa_ir.specs.declared.case.Case.{Case}
use Rattle.ssa_ir.specs.declared.case.End.TheVariants.{Going, NoReply}
use Rattle.ssa_ir.specs.declared.case.Shown.{Shown}
use Rattle.ssa_ir.specs.declared.func.Value.{Value}
use Rattle.ssa_ir.specs.declared.func.Kind.{Kind}
use Rattle.ssa_ir.specs.declared.func.Kind.TheVariants.{Plain, If, Ret, Exit, Cond, Bit}
use Rattle.ssa_ir.specs.declared.func.Block.{Block}
use Rattle.ssa_ir.specs.declared.func.Func.{Func}
use Rattle.ssa_ir.specs.declared.func.SsaUnit.{SsaUnit}
use Rattle.ssa_ir.specs.declared.role.Role.{Role}
use Rattle.ssa_ir.specs.declared.role.Role.TheVariants.{Computes, Compares, TakesParameter, TakesAddress, Loads}
use Rattle.ssa_ir.specs.declared.role.Role.TheVariants.{Stores, ChecksNil, Calls, Rests}
use Rattle.ssa_ir.specs.Edges.{block_named, edge_number}
use Rattle.ssa_ir.specs.Inputs.{Inputs, Answer, answer_of, inputs_of, junk_of, parameter_word, symbol_in, symbol_word}
use Rattle.ssa_ir.specs.Lookups.{sig_of}
use Rattle.ssa_ir.specs.Phis.{entered}
use Rattle.ssa_ir.specs.Roles.{role}
use Rattle.ssa_ir.specs.Conditions.{holds}
use Rattle.ssa_ir.specs.Run.{Form, State, generic, with_word, computed, pointer, loaded_word, stored_memory, shown_of}
use Rattle.ssa_ir.specs.Run.{with_answer, takes_answer, control_word, flags_of, is_set, run_role, run_values, arrives}
use Rattle.ssa_ir.specs.Run.{goes_to}
use Rattle.ssa_ir.specs.Run.{leaves, run_control, run_block, to_counted, turns, begun, run_from, run}
use Rattle.ssa_ir.specs.Showing.{call_then}
use Rattle.ssa_ir.specs.Widths.{kept}
use Rattle.ssa_ir.proofs.RunLemmas.{ended_stays}
use Rattle.ssa_meaning.specs.CaseRun.{case_shown, shown_of_function}
use Rattle.ssa_meaning.specs.RunLaws.{GoesFurther, with_more}

-- where the first asked for no reply that wasn't there, the second is the same
abbrev Holds : Shown → Shown → Type 0
Holds a b = a.end ≢ NoReply → b ≡ a

-- a state with more answers behind those that are left
abbrev state_with : State → List Answer → State
state_with s more = record s { answers = s.answers ++ more }

-- two ways to go on from a block
abbrev Onward : Type 0
Onward = Block → Option ℕ → State → Shown

module _ (more : List Answer) where
  abbrev HoldsFrom : (State → Shown) → (State → Shown) → Type 0
  HoldsFrom go longer = (s : State) → Holds (go s) (longer (state_with s more))

  abbrev HoldsOnward : Onward → Onward → Type 0
  HoldsOnward go longer = (b : Block) (edge : Option ℕ) → HoldsFrom (go b edge) (longer b edge)

  either_holds : (c : Bool) (a b a' b' : Shown) → Holds a a' → Holds b b' → Holds (cond c a b) (cond c a' b')
  either_holds true a b a' b' p q = p
  either_holds false a b a' b' p q = q

  -- the same call before both
  call_holds : (c : CallShown) (a b : Shown) → Holds a b → Holds (call_then c a) (call_then c b)
  call_holds c a b p asked = ap (call_then c) (p asked)

  answer_holds : (form : Form) (block : List Value) (v : Value) (s : State) (answers : List Answer)
      (go longer : State → Shown)
      → HoldsFrom go longer
      → Holds (takes_answer form block v s answers go)
      (takes_answer form block v (state_with s more) (answers ++ more) longer)
  answer_holds form block v s [] go longer h = λ asked. absurd (asked refl)
  answer_holds form block v s (a ∷ answers) go longer h = h (with_answer form block v s a answers)

  role_holds : (form : Form) (inputs : Inputs) (block : List Value) (v : Value) (r : Role) (s : State)
      (go longer : State → Shown)
      → HoldsFrom go longer
      → Holds (run_role form inputs block v r s go)
      (run_role form (with_more inputs more) block v r (state_with s more) longer)
  role_holds form inputs block v Computes s go longer h = h (with_word s v.id.0 (computed v s.words))
  role_holds form inputs block v Compares s go longer h = h (with_word s v.id.0 (computed v s.words))
  role_holds form inputs block v TakesParameter s go longer h =
      h (with_word s v.id.0 (kept form.whole v.ty (parameter_word inputs v.aux)))
  role_holds form inputs block v TakesAddress s go longer h =
      h (with_word s v.id.0 (symbol_word inputs (unwrap_or v.sym [])))
  role_holds form inputs block v Loads s go longer h = h (with_word s v.id.0 (loaded_word v s))
  role_holds form inputs block v Stores s go longer h = h (record s { memory = stored_memory v s })
  role_holds form inputs block v ChecksNil s go longer h =
      either_holds (eqb (pointer v s.words) 0) _ _ _ _ (λ _. refl) (h (with_word s v.id.0 (pointer v s.words)))
  role_holds form inputs block v Calls s go longer h =
      call_holds (shown_of form v s) (takes_answer form block v s s.answers go)
      (takes_answer form block v (state_with s more) (s.answers ++ more) longer)
      (answer_holds form block v s s.answers go longer h)
  role_holds form inputs block v Rests s go longer h = h s

  values_hold : (form : Form) (inputs : Inputs) (block values : List Value) (s : State) (go longer : State → Shown)
      → HoldsFrom go longer
      → Holds (run_values form inputs block values s go)
      (run_values form (with_more inputs more) block values (state_with s more) longer)
  values_hold form inputs block [] s go longer h = h s
  values_hold form inputs block (v ∷ values) s go longer h =
      role_holds form inputs block v (role v.op) s (λ t. run_values form inputs block values t go)
      (λ t. run_values form (with_more inputs more) block values t longer)
      (λ t. values_hold form inputs block values t go longer h)

  arrives_holds : (go longer : Onward) (b : Block) (j : ℕ) (s : State) (t : Option Block)
      → HoldsOnward go longer → Holds (arrives go b j s t) (arrives longer b j (state_with s more) t)
  arrives_holds go longer b j s None h = λ _. refl
  arrives_holds go longer b j s (Some t) h = h t (Some (edge_number b t j)) s

  goes_to_holds : (f : Func) (go longer : Onward) (b : Block) (j : ℕ) (s : State) (id : Option BlockId)
      → HoldsOnward go longer → Holds (goes_to f go b j s id) (goes_to f longer b j (state_with s more) id)
  goes_to_holds f go longer b j s None h = λ _. refl
  goes_to_holds f go longer b j s (Some id) h = arrives_holds go longer b j s (block_named f.blocks id) h

  leaves_holds : (f : Func) (go longer : Onward) (b : Block) (j : ℕ) (s : State)
      → HoldsOnward go longer → Holds (leaves f go b j s) (leaves f longer b j (state_with s more))
  leaves_holds f go longer b j s h = goes_to_holds f go longer b j s (slice_get b.succs j) h

  control_holds : (form : Form) (f : Func) (go longer : Onward) (b : Block) (k : Kind) (s : State)
      → HoldsOnward go longer → Holds (run_control form f go b k s) (run_control form f longer b k (state_with s more))
  control_holds form f go longer b Plain s h = leaves_holds f go longer b 0 s h
  control_holds form f go longer b If s h =
      leaves_holds f go longer b
      (cond (is_set (control_word s.words b.control)) 0 1) s h
  control_holds form f go longer b Ret s h = λ _. refl
  control_holds form f go longer b Exit s h = λ _. refl
  control_holds form f go longer b (Cond c) s h =
      leaves_holds f go longer b
      (cond (holds c (flags_of (control_word s.words b.control))) 0 1) s h
  control_holds form f go longer b Bit s h =
      leaves_holds f go longer b
      (cond (is_set (control_word s.words b.control)) 0 1) s h

  block_holds : (form : Form) (inputs : Inputs) (f : Func) (go longer : Onward) → HoldsOnward go longer
      → HoldsOnward (run_block form inputs f go) (run_block form (with_more inputs more) f longer)
  block_holds form inputs f go longer h b edge s =
      values_hold form inputs (form.values b) (form.order b)
      (record s { words = entered (form.values b) edge s.words })
      (run_control form f go b b.kind) (run_control form f longer b b.kind)
      (λ t. control_holds form f go longer b b.kind t h)

  counted_holds : (form : Form) (inputs : Inputs) (f : Func) (go longer : Onward) (k : ℕ) → HoldsOnward go longer
      → HoldsOnward (to_counted form inputs f go k) (to_counted form (with_more inputs more) f longer k)
  counted_holds form inputs f go longer zero h b edge s = either_holds b.id.split _ _ _ _ (λ _. refl) (h b edge s)
  counted_holds form inputs f go longer (suc k) h b edge s =
      either_holds b.id.split _ _ _ _
      (block_holds form inputs f (to_counted form inputs f go k) (to_counted form (with_more inputs more) f longer k)
      (counted_holds form inputs f go longer k h) b edge s)
      (h b edge s)

  turns_hold : (form : Form) (inputs : Inputs) (f : Func) (n : ℕ)
      → HoldsOnward (turns form inputs f n) (turns form (with_more inputs more) f n)
  turns_hold form inputs f zero b edge s = λ _. refl
  turns_hold form inputs f (suc n) b edge s =
      block_holds form inputs f (to_counted form inputs f (turns form inputs f n) (length f.blocks))
      (to_counted form (with_more inputs more) f (turns form (with_more inputs more) f n) (length f.blocks))
      (counted_holds form inputs f (turns form inputs f n) (turns form (with_more inputs more) f n) (length f.blocks)
      (turns_hold form inputs f n))
      b edge s

  from_holds : (form : Form) (inputs : Inputs) (f : Func) (n : ℕ) (blocks : List Block)
      → Holds (run_from form inputs f n blocks) (run_from form (with_more inputs more) f n blocks)
  from_holds form inputs f n [] = λ _. refl
  from_holds form inputs f n (b ∷ blocks) = turns_hold form inputs f n b None (begun inputs)

-- a run that asked for no reply that wasn't there is the same with more of them
pub replied_stays : (form : Form) (inputs : Inputs) (more : List Answer) (f : Func) (n : ℕ)
    → (run form inputs f n).end ≢ NoReply → run form (with_more inputs more) f n ≡ run form inputs f n
replied_stays form inputs more f n = from_holds more form inputs f n f.blocks

-- ---- a case with a greater bound, and with more replies

further_inputs : (c d : Case) (g : GoesFurther c d) → inputs_of d ≡ with_more (inputs_of c) (map answer_of g.more)
further_inputs c d g = λ i. record {
  arguments = g.args i;
  symbols = symbol_in (g.syms i);
  memory = (inputs_of (record c { mem = g.mem i })).memory;
  junk = junk_of (g.junk i);
  answers = (ap (map answer_of) g.replies ∙ map-append answer_of c.replies g.more) i;
}

function_stays : (u : SsaUnit) (c d : Case) → GoesFurther c d → (f : Option Func)
    → (shown_of_function u c f).end ≢ Going → (shown_of_function u c f).end ≢ NoReply
    → shown_of_function u d f ≡ shown_of_function u c f
function_stays u c d g None going asked = refl
function_stays u c d g (Some f) going asked =
    let longer : run (generic (sig_of u)) (inputs_of c) f d.bound ≡ run (generic (sig_of u)) (inputs_of c) f c.bound
    = ended_stays (generic (sig_of u)) (inputs_of c) f c.bound d.bound g.bound going in
    ap (λ (inputs : Inputs). run (generic (sig_of u)) inputs f d.bound) (further_inputs c d g)
    ∙ replied_stays (generic (sig_of u)) (inputs_of c) (map answer_of g.more) f d.bound
    (subst (λ (s : Shown). s.end ≢ NoReply) (sym longer) asked)
    ∙ longer

pub case_stays : (u : SsaUnit) (c d : Case) → GoesFurther c d
    → (case_shown u c).end ≢ Going → (case_shown u c).end ≢ NoReply → case_shown u d ≡ case_shown u c
case_stays u c d g going asked =
    ap (λ i. shown_of_function u d (slice_get u.funcs i)) g.func
    ∙ function_stays u c d g (slice_get u.funcs c.func) going asked
