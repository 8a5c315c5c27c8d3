use Rattle.std.proofs.Common.{◌∙◌, false}
use Rattle.ssa_tables.specs.Blocks.{place_of}
use Rattle.ssa_tables.proofs.FlowLemmas.{one_more}
use Rattle.ssa_tables.proofs.flow.indexes.Goals as goal

pub loop-id-preserved : goal.loop-id-preserved
loop-id-preserved c =
    c.in_ok-push.ensures.items
    ∙ one_more (place_of c.args.table.now) c.args.ids.now c.loop-id.id-index (record { split = false; n = 0 })
    c.loop-id-test.true c.loop-id.indexes.items c.loop-id.invariant c.index.result c.index.ensures
