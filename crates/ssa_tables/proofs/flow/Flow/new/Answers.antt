use Rattle.std.proofs.Common.{arith}
use Rattle.ssa_tables.proofs.FlowLemmas.{preds_found, preds_within}
use Rattle.ssa_tables.proofs.flow.Flow.new.Goals as goal

pub invariant_of-result : goal.invariant_of-result
invariant_of-result c =
    preds_within c.args.func.now c.requires.well_formed c.loop-block.preds.items
    (preds_found c.args.func.now c.args.table.now c.requires.of_func
    c.as_slice-block-items.result.now c.as_slice-block-items.ensures c.loop-block.block-index
    (omega (arith, c.loop-block-test.false)) c.loop-block.preds.items c.loop-block.invariant)

pub returns : goal.returns
returns c =
    preds_found c.args.func.now c.args.table.now c.requires.of_func
    c.as_slice-block-items.result.now c.as_slice-block-items.ensures c.loop-block.block-index
    (omega (arith, c.loop-block-test.false)) c.loop-block.preds.items c.loop-block.invariant
