use Rattle.std.proofs.Common.{◌≡◌, ◌+◌, ◌-◌, ◌≤◌, drop, length}
use Rattle.ssa_ir.specs.Edges.{times_before}
use Rattle.ssa_meaning.proofs.ready.times_before.Given as goal

-- the times counted so far and those behind are all
abbrev pub invariant-loop-index : goal.invariant-loop-index
invariant-loop-index l =
    (l.times + times_before (drop l.index l.ids) (l.len - l.index) l.id ≡ times_before l.ids l.len l.id)
    × (l.times ≤ l.index) × (l.index ≤ length l.ids)

abbrev pub decreases-loop-index : goal.decreases-loop-index
decreases-loop-index l = length l.ids - l.index
