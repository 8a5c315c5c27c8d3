use Rattle.std.proofs.Common.{codes}
use Rattle.listing.specs.Text.{reg_text}
use Rattle.gossa_base.proofs.PrefixLemmas.{in_front, behind_piece, failed, on_failure}
use Rattle.listing.proofs.print_line.print_held_value.Goals as goal

pub returns-in_err-print_register-clause-prefix : goal.returns-in_err-print_register-clause-prefix
returns-in_err-print_register-clause-prefix c =
    failed _ _ (behind_piece _ _ _ (codes " ") _ c.in_ok-put.ensures.ok
    (in_front _ _ (reg_text c.args.register) _ c.in_err-print_register.ensures.prefix))

pub returns-clause-prefix : goal.returns-clause-prefix
returns-clause-prefix c =
    on_failure c.print.result c.print.ensures.prefix
    (λ p. behind_piece _ _ _ (codes " ") _ c.in_ok-put.ensures.ok
    (behind_piece _ _ _ (reg_text c.args.register) _ c.in_ok-print_register.ensures.ok
    (behind_piece _ _ _ (codes "=") _ c.in_ok-put-2.ensures.ok
    p)))
