use Rattle.std.proofs.Common.{◌≡◌, length}
use Rattle.ssa_check.specs.tables.MemoryTables.{EachOf, IsMemoryOf}
use Rattle.ssa_check.proofs.memory.block_memories.Given as goal

-- what is found of the blocks so far
abbrev pub invariant-loop-index : goal.invariant-loop-index
invariant-loop-index l =
    (length l.memories.items ≡ l.index) × EachOf (IsMemoryOf l.tables) l.tables.blocks l.memories.items
