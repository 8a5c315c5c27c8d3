use Rattle.std.proofs.Common.{◌≡◌, take}
use Rattle.block_order.specs.tables.Placing.{place_all}
use Rattle.block_order.specs.tables.Waiting.{IsWaiting}
use Rattle.block_order.proofs.waiting.place_item.Given as goal

-- the selects so far are placed
abbrev pub invariant-loop-index : goal.invariant-loop-index
invariant-loop-index l =
    (l.placed.items ≡ place_all l.initial.placed.items (take l.index-index l.item.selects.items))
    × IsWaiting l.values l.waiters l.placed.items l.counts.items l.ready
