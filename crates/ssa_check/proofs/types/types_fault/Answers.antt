use Rattle.std.proofs.Common.{◌≡◌, ◌∙◌, MatchOption, not, ap, subst, sym}
use Rattle.ssa_check.specs.declared.refusal.Check.TheVariants.{Types}
use Rattle.ssa_check.specs.Failing.{Meets, LeastPlace}
use Rattle.ssa_check.specs.tables.Lowest.{lowest_value}
use Rattle.ssa_check.specs.ValueChecks.{types_hold}
use Rattle.ssa_check.proofs.TypeLemmas.{types_place}
use Rattle.ssa_check.proofs.types.types_fault.Goals as goal

pub returns : goal.returns
returns c = λ u.
    let f = c.args.tables.now in
    let lowest : c.lowest_value.result ≡ lowest_value (λ b v. not (types_hold f v)) f
    = c.lowest_value.ensures ∙ ap (lowest_value (λ b v. not (types_hold f v))) c.func.ensures.func in
    subst (λ o. MatchOption o (Meets Types u f) (LeastPlace Types u f)) (sym c.value_place.ensures)
    (types_place u f c.lowest_value.result lowest)
