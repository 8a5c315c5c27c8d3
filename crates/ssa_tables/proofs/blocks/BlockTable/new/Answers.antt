use Rattle.std.proofs.Common.{◌∙◌, List, map, subst, sym}
use Rattle.ssa_ir.specs.declared.func.Block.{Block}
use Rattle.ssa_ir.specs.WellFormed.{Differ}
use Rattle.ssa_tables.proofs.BlockTableLemmas.{name_put, same_numbers}
use Rattle.ssa_tables.proofs.blocks.BlockTable.new.Goals as goal

pub loop-block-preserved : goal.loop-block-preserved
loop-block-preserved c =
    c.in_ok-insert.ensures.keys
    ∙ name_put _ same_numbers c.as_slice-block-items.result.now
    (subst (λ (l : List Block). Differ (map (λ b. b.id.n) l)) (sym c.as_slice-block-items.ensures)
    c.requires.blocks_differ)
    c.loop-block.block-index c.block-item.result c.loop-block-test.true (sym c.block-item.is)
    c.loop-block.names.keys c.loop-block.invariant
