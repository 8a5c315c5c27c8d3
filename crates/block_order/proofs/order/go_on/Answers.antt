use Rattle.std.proofs.Common.{◌≡◌, List, Bool, Some, None, subst, sym, ap, ◌∙◌}
use Rattle.std.proofs.Common.{arith}
use Rattle.ssa_ir.specs.declared.func.Value.{Value}
use Rattle.block_order.specs.declared.order.Item.{Item}
use Rattle.block_order.specs.tables.Placing.{Begins, next_from}
use Rattle.block_order.specs.tables.Waiting.{AreReady}
use Rattle.block_order.proofs.PlacingLemmas.{all_placed_now, fewer, next_within, one_more}
use Rattle.block_order.proofs.WaitingLemmas.{first_is_next}
use Rattle.block_order.proofs.order.go_on.Goals as goal

pub loop-index-init : goal.loop-index-init
loop-index-init c = (
  c.requires.begins,
  record {
    flagged = c.requires.begins.flagged;
    waiters = c.requires.waiters;
    counted = c.requires.counted;
    ready =
        subst (λ bs. AreReady c.args.values.now bs c.args.counts.items c.in_ok-ready.ready) c.as_slice.ensures.value
        (subst (λ ns. AreReady c.args.values.now c.as_slice.result.now ns c.in_ok-ready.ready)
        c.as_slice-2.ensures.value
        c.in_ok-ready.ensures);
  },
)

pub item_at-requires : goal.item_at-requires
item_at-requires c =
    let values : List Value = c.args.values.now in
    let flags : List Bool = c.loop-index.placed.items in
    let next : next_from values flags 0 values ≡ Some c.in-Some.index =
    first_is_next values c.args.waiters.now flags c.loop-index.counts.items c.loop-index.ready c.first_of.result
    c.loop-index.invariant.1 c.first_of.ensures
    ∙ c.in-Some.is in
    omega (arith, next_within values flags 0 values c.in-Some.index next)

pub loop-index-smaller : goal.loop-index-smaller
loop-index-smaller c =
    let values : List Value = c.args.values.now in
    let flags : List Bool = c.loop-index.placed.items in
    let item : Item = c.in_ok-item.item in
    let next : next_from values flags 0 values ≡ Some item.value =
    first_is_next values c.args.waiters.now flags c.loop-index.counts.items c.loop-index.ready c.first_of.result
    c.loop-index.invariant.1 c.first_of.ensures
    ∙ c.in-Some.is ∙ ap Some (sym c.in_ok-item.ensures.value) in
    omega (
      arith,
      fewer values c.loop-index.items.items flags c.place_item.new.placed.items item c.loop-index.invariant.0
          c.in_ok-item.ensures.item next c.in_ok-place_item.ensures.placed,
    )

pub loop-index-preserved : goal.loop-index-preserved
loop-index-preserved c =
    let values : List Value = c.args.values.now in
    let flags : List Bool = c.loop-index.placed.items in
    let item : Item = c.in_ok-item.item in
    let next : next_from values flags 0 values ≡ Some item.value =
    first_is_next values c.args.waiters.now flags c.loop-index.counts.items c.loop-index.ready c.first_of.result
    c.loop-index.invariant.1 c.first_of.ensures
    ∙ c.in-Some.is ∙ ap Some (sym c.in_ok-item.ensures.value) in (
      subst (λ items. Begins values items c.place_item.new.placed.items) (sym c.in_ok-push.ensures.items)
          (one_more values c.loop-index.items.items flags c.place_item.new.placed.items item c.requires.apart
          c.loop-index.invariant.0
          c.in_ok-item.ensures.item next c.in_ok-place_item.ensures.placed),
      c.in_ok-place_item.ensures.waiting,
    )

pub returns : goal.returns
returns c =
    let values : List Value = c.args.values.now in
    let flags : List Bool = c.loop-index.placed.items in
    let none : next_from values flags 0 values ≡ None =
    first_is_next values c.args.waiters.now flags c.loop-index.counts.items c.loop-index.ready c.first_of.result
    c.loop-index.invariant.1 c.first_of.ensures
    ∙ c.in_default.is in
    all_placed_now values c.loop-index.items.items flags c.loop-index.invariant.0 none
