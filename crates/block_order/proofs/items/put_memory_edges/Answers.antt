use Rattle.std.proofs.Common.{◌≡◌, ◌<◌, length, Some, sym, ◌∙◌, arith}
use Rattle.block_order.specs.tables.ItemGraph.{first_taker}
use Rattle.block_order.proofs.ItemSteps.{taker_within}
use Rattle.block_order.proofs.items.put_memory_edges.Goals as goal

pub overflow_add-node : goal.overflow_add-node
overflow_add-node c =
    let taker : first_taker c.args.values.now c.in-Some.memory ≡ Some c.in-Some-copied.first =
    sym (c.requires.firsts c.in-Some.memory) ∙ sym c.get.ensures.value ∙ sym c.copied.ensures ∙ c.in-Some-copied.is in
    let within : c.in-Some-copied.first < length c.args.values.now =
    taker_within c.args.values.now c.in-Some.memory c.in-Some-copied.first taker in
    omega (arith, within, c.requires.fits)
