use Rattle.std.proofs.Common.{codes}
use Rattle.gossa_base.specs.Texts.{block_text}
use Rattle.gossa_base.proofs.PrefixLemmas.{in_front, behind_piece, failed, on_failure}
use Rattle.listing.proofs.print_line.print_label.Goals as goal

pub returns-in_err-print-clause-prefix : goal.returns-in_err-print-clause-prefix
returns-in_err-print-clause-prefix c =
    failed _ _ (in_front _ _ (block_text c.args.block.now) _ c.in_err-print.ensures.prefix)

pub returns-clause-prefix : goal.returns-clause-prefix
returns-clause-prefix c =
    on_failure c.print_held.result c.print_held.ensures.prefix
    (λ p. behind_piece _ _ _ (block_text c.args.block.now) _ c.in_ok-print.ensures.ok
    (behind_piece _ _ _ (codes ":") _ c.in_ok-put.ensures.ok p))
