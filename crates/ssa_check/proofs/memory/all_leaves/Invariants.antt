use Rattle.std.proofs.Common.{◌≡◌, length}
use Rattle.ssa_check.specs.tables.ChainTables.{LeavesOf}
use Rattle.ssa_check.specs.tables.MemoryTables.{EachOf}
use Rattle.ssa_check.proofs.memory.all_leaves.Given as goal

-- what the blocks so far leave
abbrev pub invariant-loop-block : goal.invariant-loop-block
invariant-loop-block l =
    (length l.leaves.items ≡ l.block-index) × EachOf (LeavesOf l.tables) l.tables.blocks l.leaves.items
