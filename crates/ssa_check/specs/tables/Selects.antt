-- What is noted of the selects of a function: which values a select of type mem names, and the lowest select of each
-- index of a value.
use Rattle.std.specs.Prelude.{◌≡◌, ℕ, ℤ, nat_eq, nat_lt, Bool, false, ◌&&◌, List, [], map, Option, None, Some}
use Rattle.std.specs.Prelude.{if◌then◌else◌}
use Rattle.std.specs.List.{flat_map, fold, list_any}
use Rattle.std.specs.Map.{lookup}
use Rattle.std.specs.Ordering.{int_eq}
use Rattle.gossa_base.specs.declared.ids.ValueId.{ValueId}
use Rattle.ssa_ir.specs.declared.func.Value.{Value}
use Rattle.ssa_ir.specs.FirstOrder.{same_value}
use Rattle.ssa_ir.specs.OpKinds.{is_follower}
use Rattle.ssa_check.specs.declared.callees.SelectKey.{SelectKey}
use Rattle.ssa_check.specs.declared.callees.SelectTable.{SelectTable}
use Rattle.ssa_ir.specs.Classes.{is_memory}
use Rattle.ssa_check.specs.tables.Lowest.{lower_where}

-- what a value names, if it is a select: each of its arguments
abbrev pub picks_by : Value → List (ValueId × Value)
picks_by s = if is_follower s.op then map (λ id. (id, s)) s.args else []

-- what the selects among these values name, each with its select
abbrev pub picks_of : List Value → List (ValueId × Value)
picks_of values = flat_map picks_by values

-- a select of type mem names the value
abbrev pub is_memory_of : ValueId → ValueId × Value → Bool
is_memory_of id pick = same_value id pick.0 && is_memory pick.1

-- a select of this index names the value
abbrev pub is_index_of : ValueId → ℤ → ValueId × Value → Bool
is_index_of id index pick = same_value id pick.0 && int_eq pick.1.aux index

-- the lowest number of the selects of this index of a value
abbrev pub lowest_select : ValueId → ℤ → List (ValueId × Value) → Option ℕ
lowest_select id index picks =
    fold (λ lowest pick. lower_where (is_index_of id index pick) lowest pick.1.id.0) None picks

-- a number that is there is below another one
abbrev pub is_below : Option ℕ → ℕ → Bool
is_below None n = false
is_below (Some m) n = nat_lt m n

-- whether a key is that of an index of a value
abbrev pub is_key : ValueId → ℤ → SelectKey → Bool
is_key id index key = same_value id key.value && int_eq index key.index

-- whether a table says that a select of type mem names the value
abbrev pub says_memory : SelectTable → ValueId → Bool
says_memory t id = list_any (nat_eq id.0) t.memories.keys

-- the lowest select of this index of a value that a table says
abbrev pub says_lowest : SelectTable → ValueId → ℤ → Option ℕ
says_lowest t id index = lookup (is_key id index) t.lowest.entries

-- a table says what is so of these selects
pub record TellsOf (picks : List (ValueId × Value)) (t : SelectTable) : Type 0 where
  pub memory : (id : ValueId) → says_memory t id ≡ list_any (is_memory_of id) picks
  pub lowest : (id : ValueId) (index : ℤ) → says_lowest t id index ≡ lowest_select id index picks
