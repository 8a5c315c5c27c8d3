use Rattle.std.proofs.Common.{◌≡◌, drop, find}
use Rattle.ssa_ir.specs.MemoryChains.{begins_memory}
use Rattle.ssa_check.proofs.chains.first_memory.Given as goal

-- the first of all is the first of those left
abbrev pub invariant-loop-value : goal.invariant-loop-value
invariant-loop-value l = find begins_memory (drop l.value-index l.values) ≡ find begins_memory l.values
