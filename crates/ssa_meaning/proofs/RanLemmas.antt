-- Parts of runs, put together.
use Rattle.std.proofs.Common.{◌≡◌, List, [], ◌∷◌, ◌++◌, refl, sym, ap}
use Rattle.std.proofs.lemmas.List.{append_assoc}
use Rattle.ssa_ir.specs.declared.case.CallShown.{CallShown}
use Rattle.ssa_ir.specs.declared.case.Shown.{Shown}
use Rattle.ssa_ir.specs.declared.func.Value.{Value}
use Rattle.ssa_ir.specs.Inputs.{Inputs}
use Rattle.ssa_ir.specs.Roles.{role}
use Rattle.ssa_ir.specs.Run.{Form, State, run_role, run_values}
use Rattle.ssa_ir.specs.Showing.{call_then}
use Rattle.ssa_meaning.specs.tables.Ran.{behind}

-- a call that is shown stands behind the calls before it
pub behind_call : (calls : List CallShown) (c : CallShown) (s : Shown) → behind calls (call_then c s)
    ≡ behind (calls ++ c ∷ []) s
behind_call calls c s = ap (λ l. record { calls = l; end = s.end }) (sym (append_assoc calls (c ∷ []) s.calls))

-- values behind values
pub values_append : (form : Form) (inputs : Inputs) (block xs ys : List Value) (s : State) (go : State → Shown)
    → run_values form inputs block (xs ++ ys) s go ≡ run_values form inputs block xs s
    (λ t. run_values form inputs block ys t go)
values_append form inputs block [] ys s go = refl
values_append form inputs block (v ∷ xs) ys s go =
    ap (run_role form inputs block v (role v.op) s) (λ i t. values_append form inputs block xs ys t go i)
