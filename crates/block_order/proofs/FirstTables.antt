-- Tables of the first index of each key, one element more: an element changes only what its own key is told, and that
-- only where the key is new.
use Rattle.std.proofs.Common.{◌≡◌, ℕ, ◌+◌, ◌<◌, Bool, true, false, if◌then◌else◌, List, length, get_or, take, Option}
use Rattle.std.proofs.Common.{None, Some, refl, sym, ap, ◌∙◌}
use Rattle.std.specs.Option.{option_or}
use Rattle.gossa_base.specs.Lists.{first_from}
use Rattle.gossa_base.proofs.ListPlaces.{first_more, only_where}

or_none : (o : Option ℕ) → option_or o None ≡ o
or_none None = refl
or_none (Some n) = refl

or_some : (o p : Option ℕ) (k : ℕ) → o ≡ Some k → option_or o p ≡ o
or_some o p k e = ap (λ q. option_or q p) e ∙ sym e

-- an element that a key has where it has one before changes nothing
pub first_stays : {X : Type 0} (test : X → Bool) (xs : List X) (i : ℕ) (d : X) (before : Option ℕ) → i < length xs
    → (test (get_or xs i d) ≡ true → (k : ℕ) × (first_from test 0 (take i xs) ≡ Some k))
    → before ≡ first_from test 0 (take i xs) → before ≡ first_from test 0 (take (i + 1) xs)
first_stays {X} test xs i d before within has old =
    old ∙ sym (first_more test xs i d within ∙ by_test (test (get_or xs i d)) has)
  where
    first : Option ℕ
    first = first_from test 0 (take i xs)

    from_some : ((k : ℕ) × (first ≡ Some k)) → option_or first (Some i) ≡ first
    from_some (k, e) = or_some first (Some i) k e

    by_test : (b : Bool) → (b ≡ true → (k : ℕ) × (first ≡ Some k)) → option_or first (only_where b i) ≡ first
    by_test true has = from_some (has refl)
    by_test false has = or_none first

-- the first of a new key
pub first_comes : {X : Type 0} (test : X → Bool) (xs : List X) (i : ℕ) (d : X) (before : Option ℕ) (same : Bool)
    → i < length xs → test (get_or xs i d) ≡ same → (same ≡ true → first_from test 0 (take i xs) ≡ None)
    → before ≡ first_from test 0 (take i xs)
    → (if same then Some i else before) ≡ first_from test 0 (take (i + 1) xs)
first_comes {X} test xs i d before same within is none old =
    by_test same none ∙ ap (λ b. option_or first (only_where b i)) (sym is) ∙ sym (first_more test xs i d within)
  where
    first : Option ℕ
    first = first_from test 0 (take i xs)

    by_test : (b : Bool) → (b ≡ true → first ≡ None)
        → (if b then Some i else before) ≡ option_or first (only_where b i)
    by_test true none = sym (ap (λ o. option_or o (Some i)) (none refl))
    by_test false none = old ∙ sym (or_none first)
