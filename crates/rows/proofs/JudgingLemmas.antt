-- The first line in which two texts differ, at the end of the shorter one.
use Rattle.std.proofs.Common.{◌≡◌, ℕ, ◌<◌, ◌≤◌, ◌⊎◌, List, [], ◌∷◌, length, drop, min, refl, ap, ◌∙◌, inl, inr, arith}
use Rattle.std.proofs.lemmas.List.{drop_all}
use Rattle.std.proofs.lemmas.Bool.{cases_lt}
use Rattle.rows.specs.Judging.{first_line}

-- nothing more of the other
none_more : (one : List ℕ) → first_line one [] ≡ 1
none_more [] = refl
none_more (x ∷ one) = refl

-- no byte more that both have
pub ended : (one other : List ℕ) (i : ℕ) → min (length one) (length other) ≤ i
    → first_line (drop i one) (drop i other) ≡ 1
ended one other i h = go (cases_lt i (length one))
  where
    go : (i < length one) ⊎ (length one ≤ i) → first_line (drop i one) (drop i other) ≡ 1
    go (inl p) = ap (λ l. first_line (drop i one) l) (drop_all i other (omega arith)) ∙ none_more (drop i one)
    go (inr p) = ap (λ l. first_line l (drop i other)) (drop_all i one p)
