use Rattle.std.proofs.Common.{◌≡◌, nat_eq, take}
use Rattle.gossa_base.specs.declared.ids.ValueId.{ValueId}
use Rattle.indexmap.specs.IndexMap.{get}
use Rattle.block_order.specs.tables.Dependencies.{index_of}
use Rattle.block_order.proofs.block_values.index_table.Given as goal

-- the indexes of the values so far
abbrev pub invariant-loop-index : goal.invariant-loop-index
invariant-loop-index l = (id : ValueId) → get nat_eq l.table id.0 ≡ index_of (take l.index l.values) id
