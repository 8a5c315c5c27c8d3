use Rattle.std.proofs.Common.{MatchOption, not, subst, sym}
use Rattle.std.proofs.lemmas.Bool.{not-true, not_from_false}
use Rattle.ssa_check.specs.declared.refusal.Check.TheVariants.{PhiArity}
use Rattle.ssa_check.specs.Failing.{Meets, LeastPlace}
use Rattle.ssa_check.specs.ValueChecks.{phi_holds}
use Rattle.ssa_check.proofs.PlaceLemmas.{value_place}
use Rattle.ssa_check.proofs.arity.phi_fault.Goals as goal

pub returns : goal.returns
returns c = λ u.
    let f = c.args.func.now in
    let place = value_place PhiArity u f (λ b v. not (phi_holds f b v)) (λ none. none) (λ b none. none)
    (λ b v. not-true (phi_holds f b v)) (λ b v. not_from_false (phi_holds f b v)) in
    subst (λ o. MatchOption o (Meets PhiArity u f) (LeastPlace PhiArity u f)) (sym c.value_place.ensures)
    (place c.lowest_value.result c.lowest_value.ensures)
