use Rattle.std.proofs.Common.{◌≡◌, [], length}
use Rattle.std.specs.List.{All}
use Rattle.block_order.proofs.waiters.Waiters.none.Given as goal

-- none waits for those so far
abbrev pub invariant-loop : goal.invariant-loop
invariant-loop l = All (λ list. list.items ≡ []) l.lists.items × (length l.lists.items ≡ l.counter)
