use Rattle.std.proofs.Common.{◌≡◌, map, subst}
use Rattle.block_order.specs.tables.Dependencies.{dependencies}
use Rattle.block_order.specs.tables.Waiting.{AreCounts, unplaced}
use Rattle.block_order.proofs.PlacingLemmas.{phis_begin}
use Rattle.block_order.proofs.WaitingLemmas.{counts_begin}
use Rattle.block_order.proofs.order.first_order_of.Goals as goal

pub go_on-requires-clause-begins : goal.go_on-requires-clause-begins
go_on-requires-clause-begins c =
    phis_begin c.args.values.now c.in_ok-items.items.items c.in_ok-placed.placed.items c.requires
    c.in_ok-items.ensures.each
    c.in_ok-items.ensures.phis c.in_ok-placed.ensures

pub go_on-requires-clause-counted : goal.go_on-requires-clause-counted
go_on-requires-clause-counted c =
    let flags = c.as_slice.result.now in
    let counts = c.in_ok-counts.counts.items in
    subst (λ bs. AreCounts c.args.values.now bs counts) c.as_slice.ensures.value
    (counts_begin c.args.values.now flags counts
    (subst (λ vs. counts ≡ map (λ v. unplaced flags (dependencies vs v)) vs) c.in_ok-block.ensures
    c.in_ok-counts.ensures.counts))
