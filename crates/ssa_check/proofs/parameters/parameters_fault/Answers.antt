use Rattle.std.proofs.Common.{MatchOption, not, subst, sym, ap, ◌∙◌, true≢false}
use Rattle.std.proofs.lemmas.Bool.{not-true, not_from_false}
use Rattle.ssa_check.specs.declared.refusal.Check.TheVariants.{ArgOrInit}
use Rattle.ssa_check.specs.Failing.{Meets, LeastPlace}
use Rattle.ssa_check.specs.ValueChecks.{arg_or_init_holds}
use Rattle.ssa_check.proofs.ParameterLemmas.{has_init_is}
use Rattle.ssa_check.proofs.PlaceLemmas.{func_place, value_place}
use Rattle.ssa_check.proofs.parameters.parameters_fault.Goals as goal

pub returns-then-is_none : goal.returns-then-is_none
returns-then-is_none c = λ u.
    let f = c.args.func.now in
    let has_none = has_init_is f c.in_ok-table.table.init c.in_ok-table.ensures.init ∙ c.is_none.ensures in
    func_place ArgOrInit u f (has_none ∙ ap not c.if-is_none.true)

pub returns : goal.returns
returns c = λ u.
    let f = c.args.func.now in
    let has_one =
    has_init_is f c.in_ok-table.table.init c.in_ok-table.ensures.init ∙ c.is_none.ensures ∙ ap not c.if-is_none.false in
    let place =
    value_place ArgOrInit u f (λ b v. not (arg_or_init_holds f b v)) (λ none. true≢false (sym has_one ∙ none))
    (λ b none. none)
    (λ b v. not-true (arg_or_init_holds f b v)) (λ b v. not_from_false (arg_or_init_holds f b v)) in
    subst (λ o. MatchOption o (Meets ArgOrInit u f) (LeastPlace ArgOrInit u f)) (sym c.value_place.ensures)
    (place c.lowest_value.result c.lowest_value.ensures)
