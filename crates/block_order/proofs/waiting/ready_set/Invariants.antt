use Rattle.std.proofs.Common.{◌≡◌, ℕ, nat_lt, ◌&&◌}
use Rattle.std.specs.BTreeSet.{contains}
use Rattle.std.specs.Ordering.{nat_cmp}
use Rattle.block_order.specs.tables.Waiting.{may_start}
use Rattle.block_order.proofs.waiting.ready_set.Given as goal

-- those so far that may start
abbrev pub invariant-loop-index : goal.invariant-loop-index
invariant-loop-index l =
    (k : ℕ) → contains nat_cmp l.ready k ≡ (nat_lt k l.index && may_start l.values l.placed l.counts k)
