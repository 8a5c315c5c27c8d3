-- What a set of the kit keeps, as a list to which a new key is added last.
use Rattle.std.proofs.Common.{◌≡◌, Bool, false, ◌||◌, List, [], ◌∷◌, ◌++◌, map, refl, ap, ◌∙◌, if◌then◌else◌}
use Rattle.std.specs.Cmp.{IsEquivalence}
use Rattle.std.specs.List.{list_any}
use Rattle.indexmap.specs.IndexSet.{insert_key}

-- a test of what the items of a list give
pub list_any_map : {X Y : Type 0} (f : X → Y) (test : Y → Bool) (xs : List X)
    → list_any test (map f xs) ≡ list_any (λ x. test (f x)) xs
list_any_map f test [] = refl
list_any_map f test (x ∷ xs) = ap (λ b. test (f x) || b) (list_any_map f test xs)

module _ {K : Type 0} (eq : K → K → Bool) (laws : IsEquivalence eq) (key : K) where
  -- a look-up may have its key on either side
  pub list_any-either_side : (keys : List K) → list_any (eq key) keys ≡ list_any (λ k. eq k key) keys
  list_any-either_side [] = refl
  list_any-either_side (k ∷ keys) = λ i. laws.symm key k i || list_any-either_side keys i

  -- a key that isn't there goes last
  pub insert_key-absent : (keys : List K)
      → list_any (λ k. eq k key) keys ≡ false
      → insert_key eq keys key ≡ keys ++ key ∷ []
  insert_key-absent keys absent =
      ap (λ there. if there then keys else keys ++ key ∷ []) (list_any-either_side keys ∙ absent)
