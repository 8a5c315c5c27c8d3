use Rattle.std.proofs.Common.{◌≡◌, ℕ, List, Result, Ok, Err, IfOk, get_or, refl, ap, subst, sym, ◌∙◌}
use Rattle.std.proofs.lemmas.Option.{get_or_from_slice_get}
use Rattle.ssa_check.specs.declared.refusal.Fault.{Fault}
use Rattle.ssa_check.specs.Failing.{FirstFault}
use Rattle.ssa_ir.specs.declared.func.Func.{Func}
use Rattle.ssa_ir.specs.declared.func.SsaUnit.{SsaUnit}
use Rattle.gossa_core.specs.Refused.{outcome_of_fault}
use Rattle.gossa_core.specs.Unmade.{Unchecked}
use Rattle.gossa_core.proofs.top.name_fault.Goals as goal

-- told by the name of its function, or by want of memory for that name
told : {E : Type 0} (u : SsaUnit) (fault : Fault) (h : FirstFault u fault) (name : Result (List ℕ) E)
    → IfOk name (λ n. n ≡ h.func.sig.name) → Unchecked u (outcome_of_fault fault name)
told u fault h (Ok n) e = record { fault = fault; first = h; func = e; check = refl; at = refl }
told u fault h (Err _) e = tt

pub returns : goal.returns
returns c =
    let found : Func = c.index-as_slice-fault.result in
    let number = c.args.fault.func in
    let same : found ≡ c.requires.func =
    c.index-as_slice-fault.is ∙ ap (λ l. get_or l number found) c.as_slice.ensures
    ∙ get_or_from_slice_get c.args.unit.now.funcs number c.requires.func found c.requires.is_its in
    subst (Unchecked c.args.unit.now) (sym c.of_fault.ensures)
    (told c.args.unit.now c.args.fault c.requires c.same_name.result
    (subst (λ (f : Func). IfOk c.same_name.result (λ n. n ≡ f.sig.name)) same c.same_name.ensures))
