use Rattle.std.proofs.Common.{MatchOption, not, subst, sym}
use Rattle.std.proofs.lemmas.Bool.{not-true, not_from_false}
use Rattle.ssa_check.specs.declared.refusal.Check.TheVariants.{Arity}
use Rattle.ssa_check.specs.Failing.{Meets, LeastPlace}
use Rattle.ssa_check.specs.ValueChecks.{arity_holds}
use Rattle.ssa_check.proofs.PlaceLemmas.{value_place}
use Rattle.ssa_check.proofs.arity.arity_fault.Goals as goal

pub returns : goal.returns
returns c = λ u.
    let f = c.args.func.now in
    let place = value_place Arity u f (λ b v. not (arity_holds v)) (λ none. none) (λ b none. none)
    (λ b v. not-true (arity_holds v)) (λ b v. not_from_false (arity_holds v)) in
    subst (λ o. MatchOption o (Meets Arity u f) (LeastPlace Arity u f)) (sym c.value_place.ensures)
    (place c.lowest_value.result c.lowest_value.ensures)
