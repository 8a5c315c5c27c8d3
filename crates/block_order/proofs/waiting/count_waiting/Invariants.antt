use Rattle.std.proofs.Common.{◌≡◌, length, map, take}
use Rattle.block_order.specs.tables.Dependencies.{dependencies}
use Rattle.block_order.specs.tables.Waiting.{unplaced}
use Rattle.block_order.proofs.WaiterLemmas.{WaitSoFar}
use Rattle.block_order.proofs.waiting.count_waiting.Given as goal

-- the values so far are counted, and wait
abbrev pub invariant-loop-index : goal.invariant-loop-index
invariant-loop-index l =
    (length l.waiters ≡ length l.values)
    × (l.counts.items ≡ map (λ v. unplaced l.placed (dependencies l.values v)) (take l.index l.values))
    × WaitSoFar l.values l.waiters l.index
