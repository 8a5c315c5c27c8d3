use Rattle.std.proofs.Common.{◌≡◌, ◌++◌, ℕ, List, ap, ◌∙◌, subst}
use Rattle.gossa_base.specs.Prefixes.{AddsPrefix}
use Rattle.gossa_base.proofs.PrefixLemmas.{in_front, behind_piece, failed, on_failure}
use Rattle.ssa_ir.specs.declared.types.Scalar.{Scalar}
use Rattle.ssa_ir.specs.Texts.{group_text, results_text}
use Rattle.ssa_ir.proofs.texts.SigPrint.print.Goals as goal

pub returns-in_err-print-clause-prefix : goal.returns-in_err-print-clause-prefix
returns-in_err-print-clause-prefix c = failed _ _ (in_front _ _ c.args.self.now.name _ c.in_err-print.ensures.prefix)

pub returns-in_err-print_group-clause-prefix : goal.returns-in_err-print_group-clause-prefix
returns-in_err-print_group-clause-prefix c =
    let named : List ℕ = c.print.new.out.items in
    let after : List ℕ = c.print_group.new.out.items in
    failed _ _ (behind_piece _ named after c.args.self.now.name _ c.in_ok-print.ensures.ok
    (in_front named after (group_text c.args.self.now.params) _
    (subst (λ (types : List Scalar). AddsPrefix named after (group_text types)) c.as_slice.ensures
    c.in_err-print_group.ensures.prefix)))

pub returns-clause-prefix : goal.returns-clause-prefix
returns-clause-prefix c =
    let named : List ℕ = c.print.new.out.items in
    let grouped : List ℕ = c.print_group.new.out.items in
    let after : List ℕ = c.print_results.new.out.items in
    let params : grouped ≡ named ++ group_text c.args.self.now.params
    = c.in_ok-print_group.ensures.ok ∙ ap (λ (types : List Scalar). named ++ group_text types) c.as_slice.ensures in
    on_failure c.print_results.result c.print_results.ensures.prefix
    (λ p. behind_piece _ named after c.args.self.now.name _ c.in_ok-print.ensures.ok
    (behind_piece named grouped after (group_text c.args.self.now.params) _ params
    (subst (λ (types : List Scalar). AddsPrefix grouped after (results_text types)) c.as_slice-2.ensures p)))
