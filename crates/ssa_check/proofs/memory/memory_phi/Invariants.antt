use Rattle.std.proofs.Common.{◌≡◌, drop}
use Rattle.ssa_ir.specs.MemoryChains.{is_memory_phi}
use Rattle.ssa_check.specs.tables.MemoryTables.{first_number}
use Rattle.ssa_check.proofs.memory.memory_phi.Given as goal

-- the first among the values left is the first of all
abbrev pub invariant-loop-value : goal.invariant-loop-value
invariant-loop-value l =
    first_number is_memory_phi (drop l.value-index l.values) ≡ first_number is_memory_phi l.values
