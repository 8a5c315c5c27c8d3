use Rattle.std.proofs.Common.{length}
use Rattle.block_order.specs.tables.Placing.{Begins, open_from}
use Rattle.block_order.specs.tables.Waiting.{IsWaiting}
use Rattle.block_order.proofs.order.go_on.Given as goal

abbrev pub decreases-loop-index : goal.decreases-loop-index
decreases-loop-index l = length (open_from l.placed.items 0 l.values)

-- the items so far begin the first order, and what isn't placed waits
abbrev pub invariant-loop-index : goal.invariant-loop-index
invariant-loop-index l =
    Begins l.values l.items.items l.placed.items × IsWaiting l.values l.waiters l.placed.items l.counts.items l.ready
