-- The memory that paths of indexes pass, by what each block leaves.
use Rattle.std.specs.Prelude.{◌≡◌, ◌≢◌, ℕ, ◌<◌, List, [], ◌∷◌, length, Option, None, Some, slice_index_or}
use Rattle.gossa_base.specs.declared.ids.ValueId.{ValueId}
use Rattle.ssa_tables.specs.Blocks.{IsIndexPath}
use Rattle.ssa_check.specs.declared.memories.Leaves.{Leaves}
use Rattle.ssa_check.specs.declared.memories.Leaves.TheVariants.{Through, Known, Unknown}
use Rattle.ssa_check.specs.declared.memories.Passed.{Passed}
use Rattle.ssa_check.specs.declared.memories.Passed.TheVariants.{NoPath, Always, Varies}

-- the memory that a block leaves, where this one came
abbrev pub left_by : Leaves → Option ValueId → Option ValueId
left_by Through memory = memory
left_by (Known id) memory = Some id
left_by Unknown memory = None

-- the memory passed on a path, the newest block first
abbrev pub memory_on : (leaves : List Leaves) → (path : List ℕ) → Option ValueId
memory_on leaves [] = None
memory_on leaves (b ∷ before) = left_by (slice_index_or leaves b Unknown) (memory_on leaves before)

-- some path to block b passes another memory than this one, or none
pub record PassesOther (preds : List (List ℕ)) (leaves : List Leaves) (b : ℕ) (memory : ValueId) : Type 0 where
  pub before : List ℕ
  pub is_path : IsIndexPath preds (b ∷ before)
  pub other : memory_on leaves (b ∷ before) ≢ Some memory

pub record IsReached (preds : List (List ℕ)) (b : ℕ) : Type 0 where
  pub before : List ℕ
  pub is_path : IsIndexPath preds (b ∷ before)

-- what is said of the paths through the end of block b
abbrev pub SaysOf : (preds : List (List ℕ)) → (leaves : List Leaves) → ℕ → Passed → Type 0
SaysOf preds leaves b NoPath = (before : List ℕ) → IsIndexPath preds (b ∷ before) → ⊥
SaysOf preds leaves b (Always memory) =
    IsReached preds b
    × ((before : List ℕ) → IsIndexPath preds (b ∷ before) → memory_on leaves (b ∷ before) ≡ Some memory)
SaysOf preds leaves b Varies = IsReached preds b × ((memory : ValueId) → PassesOther preds leaves b memory)

-- some path to block b had passed another memory than this one before it, or none
pub record CameOther (preds : List (List ℕ)) (leaves : List Leaves) (b : ℕ) (memory : ValueId) : Type 0 where
  pub before : List ℕ
  pub is_path : IsIndexPath preds (b ∷ before)
  pub other : memory_on leaves before ≢ Some memory

-- what is said of the paths to the beginning of block b
abbrev pub SaysBefore : (preds : List (List ℕ)) → (leaves : List Leaves) → ℕ → Passed → Type 0
SaysBefore preds leaves b NoPath = (before : List ℕ) → IsIndexPath preds (b ∷ before) → ⊥
SaysBefore preds leaves b (Always memory) =
    IsReached preds b
    × ((before : List ℕ) → IsIndexPath preds (b ∷ before) → memory_on leaves before ≡ Some memory)
SaysBefore preds leaves b Varies = IsReached preds b × ((memory : ValueId) → CameOther preds leaves b memory)

-- and of those through the end of each block
pub record ArePassedMemories (preds : List (List ℕ)) (leaves : List Leaves) (passed : List Passed) : Type 0 where
  pub says : (b : ℕ) → b < length preds → SaysOf preds leaves b (slice_index_or passed b NoPath)
  pub one_each : length passed ≡ length preds
