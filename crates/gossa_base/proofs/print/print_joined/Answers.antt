use Rattle.std.proofs.Common.{ℕ, List, sym, subst}
use Rattle.std.specs.List.{join_by}
use Rattle.gossa_base.specs.Prefixes.{AddsPrefix}
use Rattle.gossa_base.proofs.PrefixLemmas.{in_front, behind_piece, failed, on_failure}
use Rattle.gossa_base.proofs.print.print_joined.Goals as goal

pub returns-in_err-print-in-Some-clause-prefix : goal.returns-in_err-print-in-Some-clause-prefix
returns-in_err-print-in-Some-clause-prefix g c =
    let before : List ℕ = c.args.out.now.items in
    let after : List ℕ = c.print.new.out.items in
    failed _ _ (subst (λ items. AddsPrefix before after (join_by g.T.Print.text c.args.between.now items))
    (sym c.in-Some.ensures.cases.0)
    (in_front before after (g.T.Print.text c.in-Some.first.now) _ c.in_err-print-in-Some.ensures.prefix))

pub returns-in_ok-print-in-Some-clause-prefix : goal.returns-in_ok-print-in-Some-clause-prefix
returns-in_ok-print-in-Some-clause-prefix g c =
    let before : List ℕ = c.args.out.now.items in
    let after : List ℕ = c.print_led.new.out.items in
    on_failure c.print_led.result c.print_led.ensures.prefix
    (λ p. subst (λ items. AddsPrefix before after (join_by g.T.Print.text c.args.between.now items))
    (sym c.in-Some.ensures.cases.0)
    (behind_piece before _ after (g.T.Print.text c.in-Some.first.now) _ c.in_ok-print-in-Some.ensures.ok p))
