-- A search: which nodes it has reached, and those of them whose edges it has still to follow.
use Rattle.std.specs.Prelude.{ℕ, suc, ◌+◌, Bool, true, false, if◌then◌else◌, List, [], ◌∷◌, ◌++◌, length}
use Rattle.std.specs.Prelude.{slice_index_or, slice_set}
use Rattle.std.specs.List.{fold}

pub record Reached : Type 0 where
  pub seen : List Bool
  pub waiting : List ℕ

abbrev pub is_seen : Reached → ℕ → Bool
is_seen s k = slice_index_or s.seen k false

abbrev pub reach : Reached → ℕ → Reached
reach s k = if is_seen s k then s else record { seen = slice_set s.seen k true; waiting = s.waiting ++ k ∷ [] }

abbrev pub reach_all : Reached → List ℕ → Reached
reach_all s nodes = fold reach s nodes

-- how many nodes are not reached
abbrev pub unseen : List Bool → ℕ
unseen [] = 0
unseen (true ∷ seen) = unseen seen
unseen (false ∷ seen) = suc (unseen seen)

-- how many nodes' edges are still to be followed, at most
abbrev pub work : Reached → ℕ
work s = unseen s.seen + length s.waiting
