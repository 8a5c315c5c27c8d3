use Rattle.gossa_base.proofs.PrefixLemmas.{before_item, failed}
use Rattle.listing.specs.Text.{bit_text}
use Rattle.listing.proofs.print.print_each_bit.Goals as goal

pub returns-in_err-put-clause-prefix : goal.returns-in_err-put-clause-prefix
returns-in_err-put-clause-prefix c =
    failed _ _ (before_item bit_text c.args.bits.now c.loop-bit.bit-index _ _ _
    c.loop-bit.invariant c.in_err-put.ensures.kept)
