use Rattle.gossa_base.proofs.PrefixLemmas.{in_item, failed}
use Rattle.gossa_base.proofs.print.print_all.Goals as goal

pub returns-in_err-print-clause-prefix : goal.returns-in_err-print-clause-prefix
returns-in_err-print-clause-prefix g c =
    failed _ _ (in_item g.T.Print.text _ _ _ _ _ _
    c.loop-item-test.true c.item-item.is c.loop-item.invariant c.in_err-print.ensures.prefix)
