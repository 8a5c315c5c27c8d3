use Rattle.std.proofs.Common.{◌≡◌, take}
use Rattle.ssa_check.specs.tables.MemorySweeps.{met_of}
use Rattle.ssa_check.proofs.memories.met_of.Given as goal

-- what is passed through the blocks so far
abbrev pub invariant-loop-block : goal.invariant-loop-block
invariant-loop-block l = l.met ≡ met_of l.passed (take l.block-index l.blocks)
