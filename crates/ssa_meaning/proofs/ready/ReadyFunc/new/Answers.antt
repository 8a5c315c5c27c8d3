use Rattle.std.proofs.Common.{ap, arith, length, sym}
use Rattle.ssa_meaning.proofs.ReadyLemmas.{ReadyAt, all_ready, made_further, ready_at, values_apart}
use Rattle.ssa_meaning.proofs.ready.ReadyFunc.new.Goals as goal

pub ready_block-requires-clause-apart : goal.ready_block-requires-clause-apart
ready_block-requires-clause-apart c =
    values_apart c.args.func.now c.requires c.loop-block.block-index c.block-item.result
    c.as_slice-block-items.result.now c.as_slice-block-items.ensures c.loop-block-test.true (sym c.block-item.is)

pub loop-block-preserved : goal.loop-block-preserved
loop-block-preserved c =
    made_further (ReadyAt c.args.func.now) c.loop-block.blocks.items c.loop-block.block-index
    c.in_ok-ready_block.field-0 c.loop-block.invariant
    (ready_at c.args.func.now c.loop-block.block-index c.block-item.result c.as_slice-block-items.result.now
    c.as_slice-block-items.ensures c.loop-block-test.true (sym c.block-item.is) c.in_ok-ready_block.field-0
    c.in_ok-ready_block.ensures)
    c.push.new.self.items c.in_ok-push.ensures.items

pub returns : goal.returns
returns c =
    all_ready c.args.func.now (record { blocks = c.loop-block.blocks }) c.loop-block.block-index c.loop-block.invariant
    (omega (
      arith,
      c.loop-block-test.false,
      c.loop-block.auto.block-index-end,
      ap (λ l. length l) c.as_slice-block-items.ensures,
    ))
