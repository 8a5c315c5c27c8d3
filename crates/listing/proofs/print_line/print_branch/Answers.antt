use Rattle.std.proofs.Common.{codes}
use Rattle.gossa_base.proofs.PrefixLemmas.{behind_piece, on_failure}
use Rattle.listing.proofs.print_line.print_branch.Goals as goal

pub returns-clause-prefix : goal.returns-clause-prefix
returns-clause-prefix c =
    on_failure c.print.result c.print.ensures.prefix
    (λ p. behind_piece _ _ _ (codes "B") _ c.in_ok-put.ensures.ok
    (behind_piece _ _ _ _ _ c.in_ok-print_condition.ensures.ok
    (behind_piece _ _ _ (codes " ") _ c.in_ok-put-2.ensures.ok p)))
