use Rattle.std.proofs.Common.{◌≡◌, ◌-◌, List, false, slice_set, ℕ, sym, ap, ◌∙◌}
use Rattle.block_order.specs.tables.Waiting.{may_start}
use Rattle.block_order.proofs.WaitingLemmas.{released_none}
use Rattle.block_order.proofs.waiting.release.Goals as goal

pub returns-else-may_start-clause-ready : goal.returns-else-may_start-clause-ready
returns-else-may_start-clause-ready c =
    let counts : List ℕ = slice_set c.args.counts.now.items c.args.waiter (c.index_mut.result.now - 1) in
    let none : may_start c.args.values.now c.args.placed.now counts c.args.waiter ≡ false =
    ap (λ ns. may_start c.args.values.now c.args.placed.now ns c.args.waiter) (sym c.as_slice.ensures.value)
    ∙ sym c.may_start.ensures ∙ c.if-may_start.false in
    released_none c.args.values.now c.args.placed.now c.args.counts.now.items c.args.ready.now c.args.waiter
    (c.index_mut.result.now - 1)
    c.requires.some c.requires.ready none
