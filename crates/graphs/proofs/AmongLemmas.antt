-- Nodes among others.
use Rattle.std.proofs.Common.{◌≡◌, ℕ, zero, ◌==◌, ◌<◌, ◌⊎◌, inl, inr, true, false, List, [], ◌∷◌, ◌++◌, refl, sym, ◌∙◌}
use Rattle.std.proofs.Common.{arith}
use Rattle.std.specs.List.{All}
use Rattle.std.proofs.lemmas.Bool.{eq-eqb, eqb-true, or_cases, or_left, or_right}
use Rattle.std.proofs.lemmas.List.Elements.{All-tail}
use Rattle.std.proofs.lemmas.List.Folds.{list_any-append}
use Rattle.graphs.specs.Graphs.{among}

pub among_here : (n : ℕ) (nodes : List ℕ) → among (n ∷ nodes) n ≡ true
among_here n nodes = or_left (n == n) (among nodes n) (eq-eqb n n refl)

pub among_later : (n k : ℕ) (nodes : List ℕ) → among nodes k ≡ true → among (n ∷ nodes) k ≡ true
among_later n k nodes h = or_right (n == k) (among nodes k) h

pub among_cases : (n k : ℕ) (nodes : List ℕ) → among (n ∷ nodes) k ≡ true → (n ≡ k) ⊎ (among nodes k ≡ true)
among_cases n k nodes h = from_cases (or_cases (n == k) (among nodes k) h)
  where
    from_cases : ((n == k) ≡ true) ⊎ (among nodes k ≡ true) → (n ≡ k) ⊎ (among nodes k ≡ true)
    from_cases (inl e) = inl (eqb-true n k e)
    from_cases (inr later) = inr later

pub among_front : (front back : List ℕ) (k : ℕ) → among front k ≡ true → among (front ++ back) k ≡ true
among_front front back k h =
    list_any-append (λ n. n == k) front back ∙ or_left (among front k) (among back k) h

pub among_back : (front back : List ℕ) (k : ℕ) → among back k ≡ true → among (front ++ back) k ≡ true
among_back front back k h =
    list_any-append (λ n. n == k) front back ∙ or_right (among front k) (among back k) h

pub among_either : (front back : List ℕ) (k : ℕ) → among (front ++ back) k ≡ true
    → (among front k ≡ true) ⊎ (among back k ≡ true)
among_either front back k h =
    or_cases (among front k) (among back k) (sym (list_any-append (λ n. n == k) front back) ∙ h)

-- among nodes with one more at the end
pub among_last : (front : List ℕ) (n k : ℕ) → among (front ++ n ∷ []) k ≡ true → (among front k ≡ true) ⊎ (n ≡ k)
among_last front n k h = from_either (among_either front (n ∷ []) k h)
  where
    from_one : (n ≡ k) ⊎ (false ≡ true) → n ≡ k
    from_one (inl same) = same
    from_one (inr none) = cc

    from_either : (among front k ≡ true) ⊎ (among (n ∷ []) k ≡ true) → (among front k ≡ true) ⊎ (n ≡ k)
    from_either (inl before) = inl before
    from_either (inr last) = inr (from_one (among_cases n k [] last))

pub among_within : (bound : ℕ) (nodes : List ℕ) → All (λ v. v < bound) nodes → (k : ℕ) → among nodes k ≡ true
    → k < bound
among_within bound [] within k h = cc
among_within bound (n ∷ nodes) within k h =
    from_cases (among_within bound nodes (All-tail (λ v. v < bound) n nodes within) k) (among_cases n k nodes h)
  where
    from_cases : (among nodes k ≡ true → k < bound) → (n ≡ k) ⊎ (among nodes k ≡ true) → k < bound
    from_cases later (inl same) = omega (arith, same, within zero n (omega arith))
    from_cases later (inr here) = later here
