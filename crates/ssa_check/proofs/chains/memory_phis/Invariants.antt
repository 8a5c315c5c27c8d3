use Rattle.std.proofs.Common.{◌≡◌, ◌+◌, ◌≤◌, drop, filter, length}
use Rattle.ssa_ir.specs.MemoryChains.{is_memory_phi}
use Rattle.ssa_check.proofs.chains.memory_phis.Given as goal

-- those so far and those left are all
abbrev pub invariant-loop-value : goal.invariant-loop-value
invariant-loop-value l =
    (l.phis ≤ l.value-index)
    × (l.phis + length (filter is_memory_phi (drop l.value-index l.values)) ≡ length (filter is_memory_phi l.values))
