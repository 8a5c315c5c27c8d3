-- What of a block is still to be placed: who waits for whom, for how many each waits, and which may come next.
use Rattle.std.specs.Prelude.{◌≡◌, ℕ, suc, ◌==◌, ◌<◌, ◌≤◌, Bool, true, false, ◌&&◌, if◌then◌else◌, List, [], ◌∷◌, ◌++◌}
use Rattle.std.specs.Prelude.{length, slice_get, slice_index, slice_index_or, slice_set, Option, None, Some}
use Rattle.std.specs.BTreeSet.{BTreeSet, contains}
use Rattle.std.specs.List.{fold}
use Rattle.std.specs.Ordering.{nat_cmp}
use Rattle.ssa_ir.specs.declared.func.Value.{Value}
use Rattle.block_order.specs.tables.Dependencies.{dependencies, is_at}
use Rattle.block_order.specs.tables.Placing.{is_open}

-- the indexes of those that wait for the value at an index, once for each time
abbrev pub waiters_of : (lists : List (List ℕ)) → ℕ → List ℕ
waiters_of lists j = slice_index_or lists j []

-- the lists with one more that waits for j
abbrev pub with_waiter : (lists : List (List ℕ)) → (waiter j : ℕ) → List (List ℕ)
with_waiter lists waiter j = slice_set lists j (waiters_of lists j ++ waiter ∷ [])

-- and with one that waits for all of these
abbrev pub with_waiters : (lists : List (List ℕ)) → List ℕ → (waiter : ℕ) → List (List ℕ)
with_waiters lists awaited waiter = fold (λ ls j. with_waiter ls waiter j) lists awaited

-- how often a number stands in a list
abbrev pub occurs : ℕ → List ℕ → ℕ
occurs k [] = 0
occurs k (x ∷ xs) = if x == k then suc (occurs k xs) else occurs k xs

-- how many of these aren't placed
abbrev pub unplaced : List Bool → List ℕ → ℕ
unplaced flags [] = 0
unplaced flags (j ∷ indexes) = if is_at flags j then unplaced flags indexes else suc (unplaced flags indexes)

abbrev pub starts : List Bool → (counts : List ℕ) → ℕ → Option Value → Bool
starts flags counts k None = false
starts flags counts k (Some v) = is_open flags k v && (slice_index counts k == 0)

-- whether the value at an index has still to be placed as an item and waits for none, by these counts
abbrev pub may_start : List Value → List Bool → (counts : List ℕ) → ℕ → Bool
may_start values flags counts k = starts flags counts k (slice_get values k)

-- a set of just those that may start
abbrev pub AreReady : List Value → List Bool → (counts : List ℕ) → BTreeSet ℕ → Type 0
AreReady values flags counts ready = (k : ℕ) → contains nat_cmp ready k ≡ may_start values flags counts k

-- the least of a set, where there is one
abbrev pub IsFirst : BTreeSet ℕ → Option ℕ → Type 0
IsFirst ready None = (k : ℕ) → contains nat_cmp ready k ≡ false
IsFirst ready (Some i) = (contains nat_cmp ready i ≡ true) × ((k : ℕ) → contains nat_cmp ready k ≡ true → i ≤ k)

-- lists of who waits for whom
pub record AreWaiters (values : List Value) (lists : List (List ℕ)) : Type 0 where
  pub sized : length lists ≡ length values
  pub exact : (j k : ℕ) (v : Value) → j < length values → slice_get values k ≡ Some v
      → occurs k (waiters_of lists j) ≡ occurs j (dependencies values v)

-- each count is that of what a value waits for and isn't placed
pub record AreCounts (values : List Value) (flags : List Bool) (counts : List ℕ) : Type 0 where
  pub sized : length counts ≡ length values
  pub exact : (k : ℕ) (v : Value) → slice_get values k ≡ Some v
      → slice_index counts k ≡ unplaced flags (dependencies values v)

-- what is still to be placed, by the flags of those that are
pub record IsWaiting (values : List Value) (lists : List (List ℕ)) (flags : List Bool) (counts : List ℕ)
    (set : BTreeSet ℕ) : Type 0 where
  pub flagged : length flags ≡ length values
  pub waiters : AreWaiters values lists
  pub counted : AreCounts values flags counts
  pub ready : AreReady values flags counts set
