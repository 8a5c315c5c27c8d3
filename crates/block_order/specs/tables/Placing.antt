-- Which values of a block are placed, by a flag for each, and which comes next.
use Rattle.std.specs.Prelude.{◌≡◌, ℕ, suc, Bool, true, not, ◌&&◌, if◌then◌else◌, List, [], ◌∷◌, ◌++◌}
use Rattle.std.specs.Prelude.{length, slice_get, slice_set, fold, Option, None, Some}
use Rattle.std.specs.List.{All, flat_map}
use Rattle.ssa_ir.specs.declared.func.Value.{Value}
use Rattle.ssa_ir.specs.FirstOrder.{first_order, has_value, placed_next}
use Rattle.ssa_ir.specs.OpKinds.{is_follower, is_phi}
use Rattle.block_order.specs.declared.order.Item.{Item}
use Rattle.block_order.specs.Items.{IsItem, item_values}
use Rattle.block_order.specs.tables.Dependencies.{all_placed, is_at}

-- whether a value begins an item behind the phis
abbrev pub is_other : Value → Bool
is_other v = not (is_follower v.op) && not (is_phi v.op)

-- whether the value at index i has still to be placed as an item
abbrev pub is_open : List Bool → ℕ → Value → Bool
is_open flags i v = is_other v && not (is_at flags i)

-- those that are so, where the values start at index k
abbrev pub open_from : List Bool → ℕ → List Value → List Value
open_from flags k [] = []
open_from flags k (v ∷ values) =
    if is_open flags k v then v ∷ open_from flags (suc k) values else open_from flags (suc k) values

-- whether the value at index i may come next
abbrev pub may_come : (block : List Value) → List Bool → ℕ → Value → Bool
may_come block flags i v = is_open flags i v && all_placed block flags v

-- the index of the first that may
abbrev pub next_from : (block : List Value) → List Bool → ℕ → List Value → Option ℕ
next_from block flags k [] = None
next_from block flags k (v ∷ values) = if may_come block flags k v then Some k else next_from block flags (suc k) values

-- the flags with those at these indexes set
abbrev pub place_all : List Bool → List ℕ → List Bool
place_all flags indexes = fold (λ placed i. slice_set placed i true) flags indexes

-- the flags as an item leaves them
abbrev pub place_item : List Bool → Item → List Bool
place_item flags item = place_all flags (item.value ∷ item.selects.items)

-- the values of items, in order
abbrev pub values_of_items : (block : List Value) → List Item → List Value
values_of_items block items = flat_map (item_values block) items

-- items that begin the first order, and the flags of their values
pub record Begins (block : List Value) (items : List Item) (flags : List Bool) : Type 0 where
  pub each : All (IsItem block) items
  pub flagged : length flags ≡ length block
  pub placed : (j : ℕ) (v : Value) → slice_get block j ≡ Some v
      → has_value (values_of_items block items) v.id ≡ is_at flags j
  pub goes_on : values_of_items block items
      ++ placed_next (length (open_from flags 0 block)) block (values_of_items block items) (open_from flags 0 block)
      ≡ first_order block
