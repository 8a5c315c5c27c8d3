use Rattle.std.proofs.Common.{◌≡◌, nat_eq, take}
use Rattle.gossa_base.specs.declared.ids.ValueId.{ValueId}
use Rattle.indexmap.specs.IndexMap.{get}
use Rattle.block_order.specs.tables.ItemGraph.{first_taker}
use Rattle.block_order.proofs.items.first_takers.Given as goal

-- the first takers among the values so far
abbrev pub invariant-loop-index : goal.invariant-loop-index
invariant-loop-index l = (m : ValueId) → get nat_eq l.firsts m.0 ≡ first_taker (take l.index l.values) m
