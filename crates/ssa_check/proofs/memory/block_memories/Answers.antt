use Rattle.std.proofs.Common.{◌∙◌}
use Rattle.ssa_check.specs.tables.MemoryTables.{IsMemoryOf}
use Rattle.ssa_check.proofs.MemoryTableLemmas.{known_more}
use Rattle.ssa_check.proofs.TableLemmas.{same_blocks}
use Rattle.ssa_check.proofs.memory.block_memories.Goals as goal

pub loop-index-preserved : goal.loop-index-preserved
loop-index-preserved c =
    let f = c.args.tables.now in
    let items = c.as_slice-block-items.ensures ∙ same_blocks f c.func-func.result.now c.func-func.ensures.func in
    known_more (IsMemoryOf f) f.blocks c.as_slice-block-items.result.now c.loop-index.memories.items
    c.push.new.self.items c.loop-index.index c.block-item.result c.block_memory.result items c.loop-index-test.true
    c.block-item.is c.block_memory.ensures c.loop-index.invariant c.in_ok-push.ensures.items
