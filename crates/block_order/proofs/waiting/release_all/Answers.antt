use Rattle.std.proofs.Common.{ℕ, ◌-◌, ◌<◌, List, length, slice_index, get_or, ap, ◌∙◌, arith}
use Rattle.std.proofs.lemmas.List.{length-set}
use Rattle.block_order.proofs.WaitingLemmas.{released_more, some_left}
use Rattle.block_order.proofs.waiting.release_all.Goals as goal

pub release-requires-clause-some : goal.release-requires-clause-some
release-requires-clause-some c =
    let xs : List ℕ = c.args.waiters.now in
    let t : ℕ = c.loop-waiter.waiter-index in
    let w : ℕ = get_or xs t 0 in
    some_left xs t (slice_index c.loop-waiter.counts.items w) (slice_index c.args.counts.now.items w)
    c.loop-waiter-test.true
    (c.loop-waiter.invariant.1 w) (c.requires.some w)

pub loop-waiter-preserved : goal.loop-waiter-preserved
loop-waiter-preserved c =
    let xs : List ℕ = c.args.waiters.now in
    let t : ℕ = c.loop-waiter.waiter-index in
    let w : ℕ = get_or xs t 0 in
    let counts : List ℕ = c.loop-waiter.counts.items in
    let here : w < length counts =
    omega (arith, c.requires.within t 0 c.loop-waiter-test.true, c.loop-waiter.invariant.0) in
    let some : 0 < slice_index counts w =
    some_left xs t (slice_index counts w) (slice_index c.args.counts.now.items w) c.loop-waiter-test.true
    (c.loop-waiter.invariant.1 w) (c.requires.some w) in (
      ap length c.in_ok-release.ensures.counts ∙ length-set counts w (slice_index counts w - 1)
          ∙ c.loop-waiter.invariant.0,
      λ k. released_more xs counts c.release.new.counts.items t k (slice_index c.args.counts.now.items k)
          c.loop-waiter-test.true here some
          c.in_ok-release.ensures.counts (c.loop-waiter.invariant.1 k),
      c.in_ok-release.ensures.ready,
    )
