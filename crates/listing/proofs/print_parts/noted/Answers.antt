use Rattle.gossa_base.proofs.PrefixLemmas.{behind_piece, on_failure}
use Rattle.listing.proofs.print_parts.noted.Goals as goal

pub returns-clause-prefix : goal.returns-clause-prefix
returns-clause-prefix c =
    on_failure c.print.result c.print.ensures.prefix
    (λ p. behind_piece _ _ _ c.args.words.now _ c.in_ok-put.ensures.ok
    p)
