-- The first order of a block as indexes into its values.
use Rattle.std.specs.Prelude.{◌≡◌, ℕ, List, ◌∷◌, Some, slice_get, filter_map}
use Rattle.std.specs.List.{All, flat_map}
use Rattle.ssa_ir.specs.declared.func.Value.{Value}
use Rattle.ssa_ir.specs.FirstOrder.{followers_of, first_order}
use Rattle.block_order.specs.declared.order.Item.{Item}

-- the values at these indexes
abbrev pub values_at : List Value → List ℕ → List Value
values_at values indexes = filter_map (slice_get values) indexes

-- the value of an item, and what stands with it
abbrev pub item_values : List Value → Item → List Value
item_values values item = values_at values (item.value ∷ item.selects.items)

-- an item is a value of the block and, where it is a call, the call's selects by index
pub record IsItem (values : List Value) (item : Item) : Type 0 where
  pub value : Value
  pub at : slice_get values item.value ≡ Some value
  pub selects : values_at values item.selects.items ≡ followers_of values value value.op

-- items that are the first order of these values
pub record AreInFirstOrder (values : List Value) (items : List Item) : Type 0 where
  pub order : flat_map (item_values values) items ≡ first_order values
  pub each : All (IsItem values) items
