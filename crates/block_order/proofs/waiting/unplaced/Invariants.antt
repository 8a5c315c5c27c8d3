use Rattle.std.proofs.Common.{◌≡◌, ◌+◌, ◌≤◌, drop}
use Rattle.block_order.specs.tables.Waiting as spec
use Rattle.block_order.proofs.waiting.unplaced.Given as goal

-- those so far, and those that are left
abbrev pub invariant-loop-index : goal.invariant-loop-index
invariant-loop-index l =
    (l.count + spec.unplaced l.placed (drop l.index-index l.indexes) ≡ spec.unplaced l.placed l.indexes)
    × (l.count ≤ l.index-index)
