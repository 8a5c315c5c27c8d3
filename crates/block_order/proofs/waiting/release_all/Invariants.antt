use Rattle.std.proofs.Common.{◌≡◌, ℕ, ◌+◌, length, slice_index, take}
use Rattle.block_order.specs.tables.Waiting.{AreReady, occurs}
use Rattle.block_order.proofs.waiting.release_all.Given as goal

-- those so far are told
abbrev pub invariant-loop-waiter : goal.invariant-loop-waiter
invariant-loop-waiter l =
    (length l.counts.items ≡ length l.initial.counts.items)
    × ((k : ℕ) → slice_index l.counts.items k + occurs k (take l.waiter-index l.waiters)
    ≡ slice_index l.initial.counts.items k)
    × AreReady l.values l.placed l.counts.items l.ready
