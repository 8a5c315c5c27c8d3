-- What is noted of the uses of values: which ones values take, and by which ones blocks end, once or more often.
use Rattle.std.specs.Prelude.{◌≡◌, ℕ, nat_eq, Bool, false, ◌&&◌, ◌||◌, List, [], ◌∷◌}
use Rattle.std.specs.List.{flat_map, list_any}
use Rattle.gossa_base.specs.declared.ids.ValueId.{ValueId}
use Rattle.ssa_ir.specs.declared.func.Block.{Block}
use Rattle.ssa_ir.specs.declared.func.Value.{Value}
use Rattle.ssa_ir.specs.FirstOrder.{same_value}
use Rattle.ssa_check.specs.declared.controls.UseTable.{UseTable}
use Rattle.ssa_check.specs.BlockChecks.{controls}

-- whether the number of a value is noted
abbrev pub is_noted : ValueId → List ℕ → Bool
is_noted id numbers = list_any (nat_eq id.0) numbers

-- some of these values takes this one
abbrev pub is_taken : ValueId → List Value → Bool
is_taken id values = list_any (λ v. list_any (same_value id) v.args) values

abbrev pub is_control : ValueId → Block → Bool
is_control id b = controls id b.control

-- more than one item passes a test
abbrev pub several_pass : {X : Type 0} → (X → Bool) → List X → Bool
several_pass test [] = false
several_pass test (x ∷ xs) = (test x && list_any test xs) || several_pass test xs

-- some value of these blocks takes this one, or more than one block ends by it
abbrev pub is_used_among : ValueId → List Block → Bool
is_used_among id blocks = is_taken id (flat_map (λ b. b.values) blocks) || several_pass (is_control id) blocks

-- a table says what is so of these blocks
pub record TellsOf (blocks : List Block) (table : UseTable) : Type 0 where
  pub used : (id : ValueId) → is_noted id table.used.keys ≡ is_used_among id blocks
  pub ends : (id : ValueId) → is_noted id table.ends.keys ≡ list_any (is_control id) blocks
