-- A table of numbers, each once.
use Rattle.std.specs.Prelude.{ℕ, ◌==◌, if◌then◌else◌, List, [], ◌∷◌, ◌++◌}
use Rattle.std.specs.List.{list_any}

-- the numbers with one more behind them, where it isn't among them
abbrev pub with_number : ℕ → List ℕ → List ℕ
with_number n numbers = if list_any (λ m. m == n) numbers then numbers else numbers ++ n ∷ []
