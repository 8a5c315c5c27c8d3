use Rattle.std.proofs.Common.{◌++◌}
use Rattle.gossa_base.proofs.PrefixLemmas.{kept, behind_piece, in_item, failed}
use Rattle.gossa_base.proofs.print.print_led.Goals as goal

pub returns-in_err-put-clause-prefix : goal.returns-in_err-put-clause-prefix
returns-in_err-put-clause-prefix g c =
    failed _ _ (in_item (λ item. c.args.lead.now ++ g.T.Print.text item) _ _ _ _ _ _
    c.loop-item-test.true c.item-item.is c.loop-item.invariant (kept _ _ _ c.in_err-put.ensures.kept))

pub returns-in_err-print-clause-prefix : goal.returns-in_err-print-clause-prefix
returns-in_err-print-clause-prefix g c =
    failed _ _ (in_item (λ item. c.args.lead.now ++ g.T.Print.text item) _ _ _ _ _ _
    c.loop-item-test.true c.item-item.is c.loop-item.invariant
    (behind_piece _ _ _ c.args.lead.now _ c.in_ok-put.ensures.ok c.in_err-print.ensures.prefix))
