-- How many bytes from the front on stand at consecutive addresses.
use Rattle.std.specs.Prelude.{ℕ, suc, ◌+◌, ◌==◌, if◌then◌else◌, List, [], ◌∷◌}

-- how many of these go on from the byte before them
abbrev pub more_after : ℕ × ℕ → List (ℕ × ℕ) → ℕ
more_after p [] = 0
more_after p (q ∷ changes) = if q.0 == p.0 + 1 then suc (more_after q changes) else 0

abbrev pub run_length : List (ℕ × ℕ) → ℕ
run_length [] = 0
run_length (p ∷ changes) = suc (more_after p changes)
