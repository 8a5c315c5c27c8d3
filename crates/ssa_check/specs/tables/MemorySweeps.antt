-- How the memory passed on paths is found: at first no path is known, and sweeps over all blocks take in what comes.
use Rattle.std.specs.Prelude.{◌≡◌, ◌≢◌, ℕ, zero, suc, ◌<◌, Bool, true, false, if◌then◌else◌, List, ◌∷◌, length, fold}
use Rattle.std.specs.Prelude.{Option, Some, slice_index_or, slice_set}
use Rattle.std.specs.List.{sum_by}
use Rattle.gossa_base.specs.declared.ids.ValueId.{ValueId}
use Rattle.ssa_ir.specs.FirstOrder.{same_value}
use Rattle.ssa_tables.specs.Blocks.{IsIndexPath, preds_at}
use Rattle.ssa_check.specs.tables.PassedMemories.{memory_on}
use Rattle.ssa_check.specs.declared.memories.Leaves.{Leaves}
use Rattle.ssa_check.specs.declared.memories.Leaves.TheVariants.{Through, Known, Unknown}
use Rattle.ssa_check.specs.declared.memories.Passed.{Passed}
use Rattle.ssa_check.specs.declared.memories.Passed.TheVariants.{NoPath, Always, Varies}

-- ---- what is passed

-- what is passed on the paths of both
abbrev pub met : Passed → Passed → Passed
met NoPath other = other
met (Always m) NoPath = Always m
met (Always m) (Always n) = if same_value m n then Always m else Varies
met (Always m) Varies = Varies
met Varies other = Varies

-- behind a block, where this is passed before it
abbrev pub after : Leaves → Passed → Passed
after Through before = before
after (Known memory) NoPath = NoPath
after (Known memory) (Always m) = Always memory
after (Known memory) Varies = Always memory
after Unknown NoPath = NoPath
after Unknown (Always m) = Varies
after Unknown Varies = Varies

abbrev pub passed_at : List Passed → ℕ → Passed
passed_at passed b = slice_index_or passed b NoPath

-- through one of these blocks
abbrev pub met_of : List Passed → List ℕ → Passed
met_of passed blocks = fold (λ so_far b. met so_far (passed_at passed b)) NoPath blocks

-- to the beginning of a block: to the entry the path of it alone comes with no memory
abbrev pub before_of : (preds : List (List ℕ)) → List Passed → ℕ → Passed
before_of preds passed zero = Varies
before_of preds passed (suc b) = met_of passed (preds_at preds (suc b))

-- through the end of a block: what was, and what comes now
abbrev pub next_of : (preds : List (List ℕ)) → List Leaves → List Passed → ℕ → Passed
next_of preds leaves passed b =
    met (passed_at passed b) (after (slice_index_or leaves b Unknown) (before_of preds passed b))

-- ---- what paths show

-- some path to block b has this memory, by a function of what stands before the block on it
pub record Brings (preds : List (List ℕ)) (had : List ℕ → Option ValueId) (b : ℕ) (memory : Option ValueId) : Type 0
  where
    pub before : List ℕ
    pub is_path : IsIndexPath preds (b ∷ before)
    pub same : had before ≡ memory

-- one is brought
pub record BringsSome (Brought : Option ValueId → Type 0) : Type 0 where
  pub memory : Option ValueId
  pub brought : Brought memory

-- one other than this is brought
pub record BringsOther (Brought : Option ValueId → Type 0) (m : ValueId) : Type 0 where
  pub memory : Option ValueId
  pub brought : Brought memory
  pub other : memory ≢ Some m

-- what is said to be passed is shown by what is brought
abbrev pub Shows : (Option ValueId → Type 0) → Passed → Type 0
Shows Brought NoPath = Unit {0}
Shows Brought (Always m) = Brought (Some m)
Shows Brought Varies = BringsSome Brought × ((m : ValueId) → BringsOther Brought m)

-- at the end of each block
abbrev pub AreShown : (preds : List (List ℕ)) → List Leaves → List Passed → Type 0
AreShown preds leaves passed =
    (b : ℕ) → Shows (Brings preds (λ before. memory_on leaves (b ∷ before)) b) (passed_at passed b)

-- ---- sweeps

-- how often it can still change
abbrev pub changes_left : Passed → ℕ
changes_left NoPath = 2
changes_left (Always m) = 1
changes_left Varies = 0

abbrev pub all_left : List Passed → ℕ
all_left passed = sum_by changes_left passed

-- what comes to a block is taken in, and whether that changed something
abbrev pub Updates : (preds : List (List ℕ)) → List Leaves → ℕ → (old new : List Passed) → Bool → Type 0
Updates preds leaves b old new true =
    (new ≡ slice_set old b (next_of preds leaves old b))
    × (changes_left (next_of preds leaves old b) < changes_left (passed_at old b))
Updates preds leaves b old new false = (new ≡ old) × (next_of preds leaves old b ≡ passed_at old b)

-- nothing new comes to the blocks below a number
abbrev pub IsSettled : (preds : List (List ℕ)) → List Leaves → List Passed → ℕ → Type 0
IsSettled preds leaves passed count = (b : ℕ) → b < count → next_of preds leaves passed b ≡ passed_at passed b

-- a sweep over the blocks below a number, and whether it changed something
pub record Sweeps (preds : List (List ℕ)) (leaves : List Leaves) (count : ℕ)
    (old new : List Passed) (changed : Bool) : Type 0 where
  pub one_each : length new ≡ length old
  pub shown : AreShown preds leaves old → AreShown preds leaves new
  pub fewer_left : changed ≡ true → all_left new < all_left old
  pub settled : changed ≡ false → (new ≡ old) × IsSettled preds leaves old count
