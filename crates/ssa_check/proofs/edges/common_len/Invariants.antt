use Rattle.std.proofs.Common.{◌≡◌, ◌≤◌, ◌+◌, ◌-◌, length, drop}
use Rattle.ssa_check.specs.tables.EdgeTables.{common_len}
use Rattle.ssa_check.proofs.edges.common_len.Given as goal

-- behind those that are alike so far stand the others that are
abbrev pub invariant-loop-len : goal.invariant-loop-len
invariant-loop-len l =
    (l.len ≤ length l.left) × (l.len ≤ length l.right)
    × (l.len + common_len (drop l.len l.left) (drop l.len l.right) ≡ common_len l.left l.right)

abbrev pub decreases-loop-len : goal.decreases-loop-len
decreases-loop-len l = length l.left - l.len
