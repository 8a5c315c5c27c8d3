use Rattle.std.proofs.Common.{◌≡◌, length, take}
use Rattle.block_order.specs.tables.Waiting.{with_waiters}
use Rattle.block_order.proofs.waiters.Waiters.put_all.Given as goal

-- it waits for those so far
abbrev pub invariant-loop-index : goal.invariant-loop-index
invariant-loop-index l =
    (l.self ≡ with_waiters l.initial.self (take l.index-index l.awaited) l.waiter)
    × (length l.self ≡ length l.initial.self)
