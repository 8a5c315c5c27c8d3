use Rattle.std.proofs.Common.{◌≡◌, ℕ, ◌+◌, ◌<◌, ◌≤◌, Bool, true, false, List, length, slice_index, subst, sym, ap, ◌∙◌}
use Rattle.std.specs.List.{All}
use Rattle.std.proofs.lemmas.Bool.{both_ways}
use Rattle.block_order.specs.tables.Dependencies.{is_at}
use Rattle.block_order.specs.tables.Waiting.{AreReady, IsWaiting, occurs}
use Rattle.block_order.proofs.WaitingLemmas.{enough, flag_stays, placed_waiting}
use Rattle.block_order.proofs.waiting.place.Goals as goal

pub returns-then-not-set_flag-clause-waiting : goal.returns-then-not-set_flag-clause-waiting
returns-then-not-set_flag-clause-waiting c =
    let flags : List Bool = c.args.placed.now.items in
    let stays : c.set_flag.new.placed.items ≡ flags =
    c.set_flag.ensures.set
    ∙ flag_stays flags c.args.index
    (λ h. let is : c.set_flag.result ≡ true = c.set_flag.ensures.was.1 h in both_ways c.set_flag.result
    c.if-not-set_flag.true is) in
    subst (λ bs. IsWaiting c.args.values.now c.args.waiters.now bs c.args.counts.now.items c.args.ready.now) (sym stays)
    c.requires

pub release_all-requires-clause-some : goal.release_all-requires-clause-some
release_all-requires-clause-some c =
    let flags : List Bool = c.args.placed.now.items in
    let lists : List (List ℕ) = c.args.waiters.now in
    let was : (c.args.index < length flags) × (is_at flags c.args.index ≡ false) =
    c.set_flag.ensures.was.0 c.if-not-set_flag.false in
    subst (λ ws. (k : ℕ) → occurs k ws ≤ slice_index c.args.counts.now.items k) (sym c.of.ensures.value)
    (enough c.args.values.now lists flags c.args.counts.now.items c.args.ready.now c.args.index c.requires was.0 was.1
    (subst (All (λ x. x < length lists)) c.of.ensures.value c.of.ensures.within))

pub returns-clause-waiting : goal.returns-clause-waiting
returns-clause-waiting c =
    let flags : List Bool = c.args.placed.now.items in
    let left : List ℕ = c.release_all.new.counts.items in
    let was : (c.args.index < length flags) × (is_at flags c.args.index ≡ false) =
    c.set_flag.ensures.was.0 c.if-not-set_flag.false in
    placed_waiting c.args.values.now c.args.waiters.now flags c.set_flag.new.placed.items c.args.counts.now.items left
    c.args.ready.now
    c.release_all.new.ready c.args.index c.requires was.0 was.1 c.set_flag.ensures.set c.in_ok-release_all.ensures.sized
    (λ k. ap (λ ws. slice_index left k + occurs k ws) (sym c.of.ensures.value) ∙ c.in_ok-release_all.ensures.counts k)
    (subst (λ bs. AreReady c.args.values.now bs left c.release_all.new.ready) c.as_slice.ensures.value
    c.in_ok-release_all.ensures.ready)
