use Rattle.std.proofs.Common.{◌≡◌, length}
use Rattle.ssa_check.specs.tables.MemorySweeps.{AreShown, all_left}
use Rattle.ssa_check.proofs.memories.passed_memories.Given as goal

-- what is passed so far is shown by paths
abbrev pub invariant-loop : goal.invariant-loop
invariant-loop l = (length l.passed.items ≡ length l.flow) × AreShown l.flow l.leaves l.passed.items

abbrev pub decreases-loop : goal.decreases-loop
decreases-loop l = all_left l.passed.items
