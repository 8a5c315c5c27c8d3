-- What the lowest number of what fails is: one of the failing numbers, and no failing one is below it.
use Rattle.std.proofs.Common.{◌≡◌, ℕ, ◌≤◌, ◌⊎◌, inl, inr, Bool, true, false, nat_lt, if◌then◌else◌, List, [], ◌∷◌}
use Rattle.std.proofs.Common.{Option, None, Some, refl, arith}
use Rattle.std.specs.List.{Any, fold}
use Rattle.std.proofs.lemmas.Bool.{ltb-true, ltb-false}
use Rattle.graphs.proofs.AnyLemmas.{any_cases, any_here, any_later, any_none}
use Rattle.ssa_check.specs.tables.Lowest.{lower_where}

-- the lowest of the numbers that are so, if there is one
abbrev pub IsLowest : Option ℕ → (ℕ → Type 0) → Type 0
IsLowest None Is = (n : ℕ) → Is n → ⊥
IsLowest (Some m) Is = Is m × ((n : ℕ) → Is n → m ≤ n)

-- the same numbers have the same lowest
pub same_lowest : (r : Option ℕ) (A B : ℕ → Type 0) → ((n : ℕ) → A n → B n) → ((n : ℕ) → B n → A n) → IsLowest r A
    → IsLowest r B
same_lowest None A B there back h = λ n b. h n (back n b)
same_lowest (Some m) A B there back h = (there m h.0, λ n b. h.1 n (back n b))

abbrev With : (ℕ → Type 0) → Bool → ℕ → ℕ → Type 0
With Is t n k = Is k ⊎ ((t ≡ true) × (k ≡ n))

lower_is : (m n : ℕ) (Is : ℕ → Type 0) → IsLowest (Some m) Is → (b : Bool) → nat_lt n m ≡ b
    → IsLowest (Some (if b then n else m)) (With Is true n)
lower_is m n Is h true e = (inr (refl, refl), least)
  where
    least : (k : ℕ) → With Is true n k → n ≤ k
    least k (inl so) = omega (arith, h.1 k so, ltb-true n m e)
    least k (inr same) = omega (arith, same.1)
lower_is m n Is h false e = (inl h.0, least)
  where
    least : (k : ℕ) → With Is true n k → m ≤ k
    least k (inl so) = h.1 k so
    least k (inr same) = omega (arith, same.1, ltb-false n m e)

-- one more number, where it counts
lower_where_is : (t : Bool) (r : Option ℕ) (n : ℕ) (Is : ℕ → Type 0) → IsLowest r Is
    → IsLowest (lower_where t r n) (With Is t n)
lower_where_is false r n Is h = same_lowest r Is (With Is false n) (λ k so. inl so) back h
  where
    back : (k : ℕ) → With Is false n k → Is k
    back k (inl so) = so
    back k (inr same) = cc
lower_where_is true None n Is h = (inr (refl, refl), least)
  where
    least : (k : ℕ) → With Is true n k → n ≤ k
    least k (inl so) = absurd (h k so)
    least k (inr same) = omega (arith, same.1)
lower_where_is true (Some m) n Is h = lower_is m n Is h (nat_lt n m) refl

-- the numbers of a list that count
abbrev pub Counts : {X : Type 0} → (X → Bool) → (X → ℕ) → List X → ℕ → Type 0
Counts {X} test number xs k = Any (λ x. (test x ≡ true) × (k ≡ number x)) xs

-- the lowest of a list and what is there
pub fold_lowest : {X : Type 0} (test : X → Bool) (number : X → ℕ) (xs : List X) (r : Option ℕ) (Is : ℕ → Type 0)
    → IsLowest r Is
    → IsLowest (fold (λ lowest x. lower_where (test x) lowest (number x)) r xs) (λ k. Is k ⊎ Counts test number xs k)
fold_lowest test number [] r Is h = same_lowest r Is (λ k. Is k ⊎ Counts test number [] k) (λ k so. inl so) back h
  where
    back : (k : ℕ) → Is k ⊎ Counts test number [] k → Is k
    back k (inl so) = so
    back k (inr some) = absurd (any_none some)
fold_lowest {X} test number (x ∷ xs) r Is h =
    same_lowest (fold (λ lowest y. lower_where (test y) lowest (number y)) (lower_where (test x) r (number x)) xs)
    (λ k. With Is (test x) (number x) k ⊎ Counts test number xs k) (λ k. Is k ⊎ Counts test number (x ∷ xs) k) there
    back
    (fold_lowest test number xs (lower_where (test x) r (number x)) (With Is (test x) (number x))
    (lower_where_is (test x) r (number x) Is h))
  where
    there : (k : ℕ) → With Is (test x) (number x) k ⊎ Counts test number xs k → Is k ⊎ Counts test number (x ∷ xs) k
    there k (inl (inl so)) = inl so
    there k (inl (inr here)) = inr (any_here x xs here)
    there k (inr later) = inr (any_later x xs later)

    back : (k : ℕ) → Is k ⊎ Counts test number (x ∷ xs) k → With Is (test x) (number x) k ⊎ Counts test number xs k
    back k (inl so) = inl (inl so)
    back k (inr some) = from_cases (any_cases x xs some)
      where
        from_cases : ((test x ≡ true) × (k ≡ number x)) ⊎ Counts test number xs k
            → With Is (test x) (number x) k ⊎ Counts test number xs k
        from_cases (inl here) = inl (inr here)
        from_cases (inr later) = inr later
