use Rattle.std.proofs.Common.{◌≡◌, ◌∙◌, MatchOption, not, ap, sym, subst}
use Rattle.ssa_check.specs.declared.refusal.Check.TheVariants.{Callee}
use Rattle.ssa_check.specs.CalleeCheck.{callee_holds}
use Rattle.ssa_check.specs.Failing.{Meets, LeastPlace}
use Rattle.ssa_check.specs.tables.Lowest.{lowest_value}
use Rattle.ssa_check.proofs.CalleeLemmas.{callee_place}
use Rattle.ssa_check.proofs.callees.callee_fault.Goals as goal

pub returns : goal.returns
returns c =
    let u = c.args.unit.now in
    let f = c.args.tables.now in
    let lowest : c.lowest_value.result ≡ lowest_value (λ b v. not (callee_holds u f b v)) f
    = c.lowest_value.ensures ∙ ap (lowest_value (λ b v. not (callee_holds u f b v))) c.func-func.ensures.func in
    subst (λ o. MatchOption o (Meets Callee u f) (LeastPlace Callee u f)) (sym c.value_place.ensures)
    (callee_place u f c.lowest_value.result lowest)
