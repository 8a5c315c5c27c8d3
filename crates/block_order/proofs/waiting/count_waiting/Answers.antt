use Rattle.std.proofs.Common.{◌≡◌, ℕ, ◌<◌, ◌≤◌, List, [], ◌∷◌, ◌++◌, length, map, replicate, take, slice_get, Some}
use Rattle.std.proofs.Common.{subst}
use Rattle.std.proofs.Common.{sym, ap, ◌∙◌, arith}
use Rattle.std.specs.List.{All}
use Rattle.std.proofs.lemmas.List.{length-replicate, map_more}
use Rattle.std.proofs.lemmas.Option.{slice_get-get_or}
use Rattle.ssa_ir.specs.declared.func.Value.{Value}
use Rattle.block_order.specs.tables.Dependencies.{dependencies}
use Rattle.block_order.specs.tables.Waiting.{AreWaiters, unplaced, with_waiters}
use Rattle.block_order.proofs.WaiterLemmas.{all_wait, dependencies_within, none_wait, wait_more}
use Rattle.block_order.proofs.waiting.count_waiting.Goals as goal

pub loop-index-init : goal.loop-index-init
loop-index-init c =
    let none : List ℕ = [] in
    let no_waiters : c.args.waiters.now ≡ replicate (length c.values-values.result.now) none =
    c.requires ∙ ap (λ (b : List Value). replicate (length b) none) (sym c.values-values.ensures) in (
      ap length no_waiters ∙ length-replicate (length c.values-values.result.now) none,
      c.new-counts.ensures.items,
      none_wait c.values-values.result.now c.args.waiters.now no_waiters,
    )

pub put_all-requires-clause-awaited : goal.put_all-requires-clause-awaited
put_all-requires-clause-awaited c =
    let values : List Value = c.values-values.result.now in
    let v : Value = c.index-values-index.result in
    let awaited : c.as_slice.result.now ≡ dependencies values v =
    c.as_slice.ensures.value ∙ c.in_ok-awaited.ensures ∙ ap (λ b. dependencies b v) (sym c.values-values.ensures) in
    subst (λ n. All (λ k. k < n) c.as_slice.result.now) (sym c.loop-index.invariant.0)
    (subst (All (λ k. k < length values)) (sym awaited) (dependencies_within values v))

pub loop-index-preserved : goal.loop-index-preserved
loop-index-preserved c =
    let values : List Value = c.values-values.result.now in
    let i : ℕ = c.loop-index.index in
    let v : Value = c.index-values-index.result in
    let count : Value → ℕ = λ u. unplaced c.args.placed.now (dependencies values u) in
    let found : c.in_ok-awaited.awaited.items ≡ dependencies values v =
    c.in_ok-awaited.ensures ∙ ap (λ b. dependencies b v) (sym c.values-values.ensures) in
    let at : slice_get values i ≡ Some v =
    slice_get-get_or values i v c.loop-index-test.true ∙ ap Some (sym c.index-values-index.is) in
    let lists : c.put_all.new.self ≡ with_waiters c.loop-index.waiters (dependencies values v) i =
    c.in_ok-put_all.ensures.lists ∙ ap (λ ws. with_waiters c.loop-index.waiters ws i)
    (c.as_slice.ensures.value ∙ found) in
    let counted : c.unplaced.result ≡ count v =
    c.unplaced.ensures ∙ ap (unplaced c.args.placed.now) (c.as_slice-in-loop-index.ensures.value ∙ found) in (
      c.in_ok-put_all.ensures.sized ∙ c.loop-index.invariant.0,
      c.in_ok-push.ensures.items
          ∙ ap (λ ns. ns ++ c.unplaced.result ∷ []) c.loop-index.invariant.1
          ∙ ap (λ n. map count (take i values) ++ n ∷ []) (counted ∙ ap count c.index-values-index.is)
          ∙ sym (map_more count values i v c.loop-index-test.true),
      wait_more values c.loop-index.waiters c.put_all.new.self i v c.loop-index.invariant.0 at lists
          c.loop-index.invariant.2,
    )

pub returns-clause-waiters : goal.returns-clause-waiters
returns-clause-waiters c =
    let all : length c.values-values.result.now ≤ c.loop-index.index = omega arith in
    subst (λ (b : List Value). AreWaiters b c.loop-index.waiters) c.values-values.ensures
    (all_wait c.values-values.result.now c.loop-index.waiters c.loop-index.index c.loop-index.invariant.0 all
    c.loop-index.invariant.2)
