use Rattle.std.proofs.Common.{◌≡◌, drop}
use Rattle.ssa_check.specs.tables.MemoryTables.{first_number, is_start}
use Rattle.ssa_check.proofs.memory.start_memory.Given as goal

-- the first among the values left is the first of all
abbrev pub invariant-loop-value : goal.invariant-loop-value
invariant-loop-value l = first_number is_start (drop l.value-index l.values) ≡ first_number is_start l.values
