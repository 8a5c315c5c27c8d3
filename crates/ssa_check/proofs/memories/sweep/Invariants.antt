use Rattle.ssa_check.specs.tables.MemorySweeps.{Sweeps}
use Rattle.ssa_check.proofs.memories.sweep.Given as goal

-- the blocks so far were swept
abbrev pub invariant-loop-block : goal.invariant-loop-block
invariant-loop-block l = Sweeps l.flow l.leaves l.block l.fn.passed l.passed l.changed
