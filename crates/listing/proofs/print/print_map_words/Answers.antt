use Rattle.gossa_base.proofs.PrefixLemmas.{behind_piece, on_failure}
use Rattle.listing.proofs.print.print_map_words.Goals as goal

pub returns-clause-prefix : goal.returns-clause-prefix
returns-clause-prefix c =
    on_failure c.print_bits.result c.print_bits.ensures.prefix
    (λ p. behind_piece _ _ _ c.args.name.now _ c.in_ok-put.ensures.ok
    p)
