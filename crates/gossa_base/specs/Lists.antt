-- Lists by index: the first element that passes a test, and all that do.
use Rattle.std.specs.Prelude.{ℕ, suc, Bool, if◌then◌else◌, List, [], ◌∷◌, Option, None, Some}

-- the index of the first that passes, where the list starts at index k
abbrev pub first_from : {X : Type 0} → (X → Bool) → ℕ → List X → Option ℕ
first_from test k [] = None
first_from test k (x ∷ xs) = if test x then Some k else first_from test (suc k) xs

-- the indexes of all that pass
abbrev pub indexes_from : {X : Type 0} → (X → Bool) → ℕ → List X → List ℕ
indexes_from test k [] = []
indexes_from test k (x ∷ xs) = if test x then k ∷ indexes_from test (suc k) xs else indexes_from test (suc k) xs
