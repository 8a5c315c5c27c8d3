-- The walk back along inner definers: where it ends after all of them they are a chain, and along a chain it does.
use Rattle.std.proofs.Common.{◌≡◌, ◌≢◌, ℕ, zero, suc, ◌+◌, ◌-◌, ◌==◌, ◌<◌, ◌≤◌, ◌⊎◌, inl, inr, nat_eq, eqb, Bool, true}
use Rattle.std.proofs.Common.{false, not, ◌||◌, if◌then◌else◌, List, [], ◌∷◌, ◌++◌, length, filter, get_or, map, find}
use Rattle.std.proofs.Common.{Option, None, Some, is_some, refl, subst, sym, ap, ◌∙◌, arith, append_assoc}
use Rattle.std.specs.List.{All, Contains, IsDistinct, last_or, list_any}
use Rattle.std.specs.Cmp.{nat_eq_equiv}
use Rattle.std.specs.Map.{lookup}
use Rattle.std.specs.Option.{is_none, option_map}
use Rattle.std.specs.Set.{is_member}
use Rattle.std.proofs.lemmas.Bool.{both_ways, eq-eqb, eqb-true, ne_eqb, not-true, or_cases}
use Rattle.std.proofs.lemmas.List.{append-nil, get_or-map, length-append, length-map}
use Rattle.std.proofs.lemmas.List.Folds.{list_any-append}
use Rattle.std.proofs.lemmas.Map.Keys.{IsDistinct-from_apart, IsDistinct-push}
use Rattle.std.proofs.lemmas.Map.Made.{length-le_from_is_member}
use Rattle.std.proofs.lemmas.Option.{get_or_from_slice_get, slice_get-get_or, slice_get_within}
use Rattle.gossa_base.specs.declared.ids.ValueId.{ValueId}
use Rattle.indexmap.specs.IndexMap.{insert_all, insert_entry}
use Rattle.ssa_ir.specs.declared.func.Block.{Block}
use Rattle.ssa_ir.specs.declared.func.Func.{Func}
use Rattle.ssa_ir.specs.declared.func.Value.{Value}
use Rattle.ssa_ir.specs.FirstOrder.{same_memory, same_value}
use Rattle.ssa_ir.specs.WellFormed.{WellFormedFunc}
use Rattle.ssa_check.specs.declared.chains.Link.{Link}
use Rattle.ssa_check.specs.declared.memories.Leaves.TheVariants.{Unknown}
use Rattle.ssa_check.specs.tables.ChainLinks.{chain_end, end_where, ends_after, free_of, if_there, is_taken, leaves_by}
use Rattle.ssa_check.specs.tables.ChainLinks.{link_before, links_of, step_back, taken_pairs}
use Rattle.ssa_check.specs.tables.ChainTables.{LeavesOf}
use Rattle.ssa_ir.specs.MemoryChains.{AreLinked, Chained, IsChain, begins_memory, has_definer, inner_of, is_definer}
use Rattle.ssa_ir.specs.MemoryChains.{is_inner, is_memory_phi, last_definer, taken_by, takes, takes_inner}
use Rattle.ssa_check.proofs.ChainLemmas.{Apart, Lists, free_last, inner_apart, last_free, linked_step, lists, no_repeat}
use Rattle.ssa_check.proofs.ChainLemmas.{one_number, some_last, takes_one}
use Rattle.gossa_base.proofs.ListPlaces.{At, Found, all_at, any_at, at_contains, contains_at, find_any}

-- ---- the first that passes

pub find_there : {X : Type 0} (p : X → Bool) (xs : List X) (x : X) → find p xs ≡ Some x → Contains xs x × (p x ≡ true)
find_there {X} p xs x h =
    let found : (k : ℕ) × At xs k x × (p x ≡ true) = at_place xs h in
    (at_contains xs found.0 x found.1, found.2)
  where
    later : (y : X) (ys : List X) → ((k : ℕ) × At ys k x × (p x ≡ true)) → (k : ℕ) × At (y ∷ ys) k x × (p x ≡ true)
    later y ys (k, at, passes) = (suc k, at, passes)

    at_place : (ys : List X) → find p ys ≡ Some x → (k : ℕ) × At ys k x × (p x ≡ true)
    at_place [] e = cc
    at_place (y ∷ ys) e = by_test (p y) refl (at_place ys) e
      where
        by_test : (b : Bool) → p y ≡ b → (find p ys ≡ Some x → (k : ℕ) × At ys k x × (p x ≡ true))
            → (if b then Some y else find p ys) ≡ Some x → (k : ℕ) × At (y ∷ ys) k x × (p x ≡ true)
        by_test true passes again is = let same : y ≡ x = cc in (zero, ap Some same, sym (ap p same) ∙ passes)
        by_test false passes again is = later y ys (again is)

pub find_nowhere : {X : Type 0} (p : X → Bool) (xs : List X) → find p xs ≡ None → list_any p xs ≡ false
find_nowhere p [] h = refl
find_nowhere {X} p (x ∷ xs) h = by_test (p x) (find_nowhere p xs) h
  where
    by_test : (b : Bool) → (find p xs ≡ None → list_any p xs ≡ false) → (if b then Some x else find p xs) ≡ None
        → (b || list_any p xs) ≡ false
    by_test true again is = cc
    by_test false again is = again is

find_map : {X Y : Type 0} (p : Y → Bool) (g : X → Y) (xs : List X)
    → find p (map g xs) ≡ option_map g (find (λ x. p (g x)) xs)
find_map p g [] = refl
find_map {X} {Y} p g (x ∷ xs) = by_test (p (g x)) (find_map p g xs)
  where
    by_test : (b : Bool) → find p (map g xs) ≡ option_map g (find (λ y. p (g y)) xs)
        → (if b then Some (g x) else find p (map g xs)) ≡ option_map g (if b then Some x else find (λ y. p (g y)) xs)
    by_test true rest = refl
    by_test false rest = rest

any_map : {X Y : Type 0} (p : Y → Bool) (g : X → Y) (xs : List X) → list_any p (map g xs) ≡ list_any (λ x. p (g x)) xs
any_map p g [] = refl
any_map p g (x ∷ xs) = ap (λ b. p (g x) || b) (any_map p g xs)

-- ---- lists of numbers without repeats

abbrev numbers : List Value → List ℕ
numbers values = map (λ v. v.id.0) values

number_at : (values : List Value) (k : ℕ) (v : Value) → At values k v → get_or (numbers values) k v.id.0 ≡ v.id.0
number_at values k v at =
    get_or-map (λ (x : Value). x.id.0) values k v v.id.0 (slice_get_within values k v at)
    ∙ ap (λ (x : Value). x.id.0) (get_or_from_slice_get values k v v at)

-- values of which no two have one number
distinct : (values : List Value)
    → ((i j : ℕ) (v w : Value) → At values i v → At values j w → v.id.0 ≡ w.id.0 → i < j → ⊥)
    → IsDistinct eqb (numbers values)
distinct values differ = IsDistinct-from_apart eqb (numbers values) apart
  where
    some_at : (xs : List Value) (k : ℕ) → k < length xs → (v : Value) × At xs k v
    some_at [] k lt = absurd (omega (arith, lt))
    some_at (x ∷ xs) zero lt = (x, refl)
    some_at (x ∷ xs) (suc k) lt = some_at xs k (omega (arith, lt))

    value_at : (k d : ℕ) → k < length (numbers values)
        → (v : Value) × At values k v × (get_or (numbers values) k d ≡ v.id.0)
    value_at k d lt =
        let inside : k < length values = omega (arith, lt, length-map values (λ (v : Value). v.id.0)) in
        let v : (x : Value) × At values k x = some_at values k inside in (
          v.0,
          v.1,
          get_or-map (λ (x : Value). x.id.0) values k v.0 d inside
              ∙ ap (λ (x : Value). x.id.0) (get_or_from_slice_get values k v.0 v.0 v.1),
        )

    apart : (i j : ℕ) (d : ℕ) → i < j → j < length (numbers values)
        → eqb (get_or (numbers values) i d) (get_or (numbers values) j d) ≡ false
    apart i j d before within =
        let v : (x : Value) × At values i x × (get_or (numbers values) i d ≡ x.id.0) =
        value_at i d (omega (arith, before, within)) in
        let w : (x : Value) × At values j x × (get_or (numbers values) j d ≡ x.id.0) = value_at j d within in
        ne_eqb (get_or (numbers values) i d) (get_or (numbers values) j d)
        (λ same. differ i j v.0 w.0 v.1 w.1 (sym v.2 ∙ same ∙ w.2) before)

-- a number of values is that of one of them
of_number : (values : List Value) (n : ℕ) → list_any (eqb n) (numbers values) ≡ true
    → (v : Value) × Contains values v × (n ≡ v.id.0)
of_number values n h =
    from_found (find_any (λ (v : Value). eqb n v.id.0) values
    (sym (any_map (eqb n) (λ (v : Value). v.id.0) values) ∙ h))
  where
    from_found : Found (λ (v : Value). eqb n v.id.0) values → (v : Value) × Contains values v × (n ≡ v.id.0)
    from_found (k, v, at, same) = (v, at_contains values k v at, eqb-true n v.id.0 same)

has_number : (values : List Value) (v : Value) → Contains values v → list_any (eqb v.id.0) (numbers values) ≡ true
has_number values v there =
    let place : (k : ℕ) × At values k v = contains_at values v there in
    any_map (eqb v.id.0) (λ (x : Value). x.id.0) values
    ∙ any_at (λ (x : Value). eqb v.id.0 x.id.0) values place.0 v place.1 (eq-eqb v.id.0 v.id.0 refl)

all_contain : (xs ys : List Value) → All (Contains ys) xs → (v : Value) → Contains xs v → Contains ys v
all_contain xs ys all v there =
    let place : (k : ℕ) × At xs k v = contains_at xs v there in
    all_at (Contains ys) xs place.0 v all place.1

-- values of different numbers are at most as many as those among which they are
fewer : (xs ys : List Value) → IsDistinct eqb (numbers xs) → All (Contains ys) xs → length xs ≤ length ys
fewer xs ys differ all =
    let counted : length (numbers xs) ≤ length (numbers ys) =
    length-le_from_is_member nat_eq_equiv (numbers xs) (numbers ys) differ within in
    omega (arith, counted, length-map xs (λ (v : Value). v.id.0), length-map ys (λ (v : Value). v.id.0))
  where
    within : (q : ℕ) → is_member eqb (numbers xs) q ≡ true → is_member eqb (numbers ys) q ≡ true
    within q has =
        let v : (x : Value) × Contains xs x × (q ≡ x.id.0) = of_number xs q has in
        subst (λ n. list_any (eqb n) (numbers ys) ≡ true) (sym v.2) (has_number ys v.0 (all_contain xs ys all v.0 v.1))

-- and where they are as many, each of those is one of them
one_of : (xs ys : List Value) → Apart ys → IsDistinct eqb (numbers xs) → All (Contains ys) xs
    → length xs ≡ length ys → (y : Value) → Contains ys y → Contains xs y
one_of xs ys apart differ all as_many y here = by_test (list_any (eqb y.id.0) (numbers xs)) refl
  where
    of_old : (q : ℕ) → list_any (eqb q) (numbers xs) ≡ true → list_any (eqb q) (numbers ys) ≡ true
    of_old q old =
        let v : (x : Value) × Contains xs x × (q ≡ x.id.0) = of_number xs q old in
        subst (λ n. list_any (eqb n) (numbers ys) ≡ true) (sym v.2) (has_number ys v.0 (all_contain xs ys all v.0 v.1))

    of_new : (q : ℕ) → (eqb q y.id.0 ≡ true) ⊎ (false ≡ true) → list_any (eqb q) (numbers ys) ≡ true
    of_new q (inl same) =
        subst (λ n. list_any (eqb n) (numbers ys) ≡ true) (sym (eqb-true q y.id.0 same)) (has_number ys y here)
    of_new q (inr never) = cc

    of_cases : (q : ℕ) → (list_any (eqb q) (numbers xs) ≡ true) ⊎ ((eqb q y.id.0 || false) ≡ true)
        → list_any (eqb q) (numbers ys) ≡ true
    of_cases q (inl old) = of_old q old
    of_cases q (inr new) = of_new q (or_cases (eqb q y.id.0) false new)

    within : (q : ℕ) → is_member eqb (numbers xs ++ y.id.0 ∷ []) q ≡ true → is_member eqb (numbers ys) q ≡ true
    within q has =
        of_cases q (or_cases (list_any (eqb q) (numbers xs)) (eqb q y.id.0 || false)
        (sym (list_any-append (eqb q) (numbers xs) (y.id.0 ∷ [])) ∙ has))

    by_test : (t : Bool) → list_any (eqb y.id.0) (numbers xs) ≡ t → Contains xs y
    by_test true has =
        let v : (x : Value) × Contains xs x × (y.id.0 ≡ x.id.0) = of_number xs y.id.0 has in
        subst (Contains xs) (one_number ys apart v.0 y (all_contain xs ys all v.0 v.1) here (sym v.2)) v.1
    by_test false has =
        let more : IsDistinct eqb (numbers xs ++ y.id.0 ∷ []) =
        IsDistinct-push nat_eq_equiv (numbers xs) y.id.0 differ has in
        let counted : length (numbers xs ++ y.id.0 ∷ []) ≤ length (numbers ys) =
        length-le_from_is_member nat_eq_equiv (numbers xs ++ y.id.0 ∷ []) (numbers ys) more within in
        absurd (omega (
          arith,
          counted,
          as_many,
          length-append (numbers xs) (y.id.0 ∷ []),
          length-map xs (λ (v : Value). v.id.0),
          length-map ys (λ (v : Value). v.id.0),
        ))

all_there : (xs ys : List Value) → Apart ys → IsDistinct eqb (numbers xs) → All (Contains ys) xs
    → length xs ≡ length ys → All (Contains xs) ys
all_there xs ys apart differ all as_many k d lt =
    one_of xs ys apart differ all as_many (get_or ys k d)
    (at_contains ys k (get_or ys k d) (slice_get-get_or ys k d lt))

-- ---- the links of a block

abbrev as_link : Func → Value → Link
as_link f d = record { id = d.id; taken = taken_by f d }

links_are : (f : Func) (values : List Value) → links_of f values ≡ map (as_link f) (filter is_inner values)
links_are f [] = refl
links_are f (v ∷ values) = by_test (is_inner v) (links_are f values)
  where
    by_test : (b : Bool) → links_of f values ≡ map (as_link f) (filter is_inner values)
        → (if b then (as_link f v ∷ []) else []) ++ links_of f values
        ≡ map (as_link f) (if b then v ∷ filter is_inner values else filter is_inner values)
    by_test true rest = ap (λ l. as_link f v ∷ l) rest
    by_test false rest = rest

-- what each takes, by number
abbrev pairs : Func → List Value → List (ℕ × Option ValueId)
pairs f ds = map (λ d. (d.id.0, taken_by f d)) ds

pairs_are : (f : Func) (ds : List Value) → taken_pairs (map (as_link f) ds) ≡ pairs f ds
pairs_are f [] = refl
pairs_are f (d ∷ ds) = ap (λ l. (d.id.0, taken_by f d) ∷ l) (pairs_are f ds)

-- pairs of different numbers are put in as they stand
last_in : (f : Func) (done : List Value) (d : Value) → ((v : Value) → Contains done v → d.id.0 ≢ v.id.0)
    → insert_entry nat_eq (pairs f done) d.id.0 (taken_by f d) ≡ pairs f (done ++ d ∷ [])
last_in f [] d differ = refl
last_in f (e ∷ done) d differ = by_test (nat_eq d.id.0 e.id.0) refl (last_in f done d behind)
  where
    behind : (v : Value) → Contains done v → d.id.0 ≢ v.id.0
    behind v (k, within, is) = differ v (suc k, omega (arith, within), is)

    by_test : (b : Bool) → nat_eq d.id.0 e.id.0 ≡ b
        → insert_entry nat_eq (pairs f done) d.id.0 (taken_by f d) ≡ pairs f (done ++ d ∷ [])
        → (if b then (e.id.0, taken_by f d) ∷ pairs f done
        else (e.id.0, taken_by f e) ∷ insert_entry nat_eq (pairs f done) d.id.0 (taken_by f d))
        ≡ (e.id.0, taken_by f e) ∷ pairs f (done ++ d ∷ [])
    by_test true same rest = absurd (differ e (zero, omega arith, refl) (eqb-true d.id.0 e.id.0 same))
    by_test false same rest = ap (λ l. (e.id.0, taken_by f e) ∷ l) rest

all_in : (f : Func) (ds done : List Value) → Apart (done ++ ds)
    → insert_all nat_eq (pairs f done) (pairs f ds) ≡ pairs f (done ++ ds)
all_in f [] done apart = ap (pairs f) (sym (append-nil done))
all_in f (d ∷ ds) done apart =
    ap (λ l. insert_all nat_eq l (pairs f ds)) (last_in f done d other)
    ∙ all_in f ds (done ++ d ∷ []) (subst Apart (sym joined) apart) ∙ ap (pairs f) joined
  where
    joined : (done ++ d ∷ []) ++ ds ≡ done ++ d ∷ ds
    joined = append_assoc done (d ∷ []) ds

    at_front : (xs : List Value) (k : ℕ) (v : Value) → At xs k v → At (xs ++ d ∷ ds) k v
    at_front [] k v at = cc
    at_front (x ∷ xs) zero v at = at
    at_front (x ∷ xs) (suc k) v at = at_front xs k v at

    at_mid : (xs : List Value) → At (xs ++ d ∷ ds) (length xs) d
    at_mid [] = refl
    at_mid (x ∷ xs) = at_mid xs

    other : (v : Value) → Contains done v → d.id.0 ≢ v.id.0
    other v there same =
        let place : (k : ℕ) × At done k v = contains_at done v there in
        let inside : place.0 < length done = slice_get_within done place.0 v place.1 in
        apart place.0 (length done) v inside (slice_get_within (done ++ d ∷ ds) (length done) d (at_mid done))
        (ap (λ (x : Value). x.id.0)
        (get_or_from_slice_get (done ++ d ∷ ds) place.0 v v (at_front done place.0 v place.1))
        ∙ sym same
        ∙ sym (ap (λ (x : Value). x.id.0) (get_or_from_slice_get (done ++ d ∷ ds) (length done) d v (at_mid done))))

module _ (f : Func) (ds : List Value) (apart : Apart ds) where
  -- what a definer takes is what the table has by its number
  taken_is : (d : Value) → Contains ds d → lookup (nat_eq d.id.0) (pairs f ds) ≡ Some (taken_by f d)
  taken_is d there = from ds (λ v has. one_number ds apart v d has there) (contains_at ds d there)
    where
      from : (xs : List Value) → ((v : Value) → Contains xs v → v.id.0 ≡ d.id.0 → v ≡ d) → ((k : ℕ) × At xs k d)
          → lookup (nat_eq d.id.0) (pairs f xs) ≡ Some (taken_by f d)
      from [] only (k, at) = cc
      from (x ∷ xs) only place = by_test (nat_eq d.id.0 x.id.0) refl (from xs behind) place
        where
          behind : (v : Value) → Contains xs v → v.id.0 ≡ d.id.0 → v ≡ d
          behind v (k, within, is) = only v (suc k, omega (arith, within), is)

          by_test : (b : Bool) → nat_eq d.id.0 x.id.0 ≡ b
              → (((k : ℕ) × At xs k d) → lookup (nat_eq d.id.0) (pairs f xs) ≡ Some (taken_by f d))
              → ((k : ℕ) × At (x ∷ xs) k d)
              → (if b then Some (taken_by f x) else lookup (nat_eq d.id.0) (pairs f xs)) ≡ Some (taken_by f d)
          by_test true same again there =
              let one : x ≡ d = only x (zero, omega arith, refl) (sym (eqb-true d.id.0 x.id.0 same)) in
              ap (λ (v : Value). Some (taken_by f v)) one
          by_test false same again (zero, at) =
              let one : x ≡ d = cc in
              absurd (both_ways (nat_eq d.id.0 x.id.0) same
              (eq-eqb d.id.0 x.id.0 (ap (λ (v : Value). v.id.0) (sym one))))
          by_test false same again (suc k, at) = again (k, at)

  abbrev taken_of : Value → Option Value
  taken_of d = find (λ e. takes f d e.id) ds

  -- a memory is there where a definer has its number
  there_is : (m : ValueId) (xs : List Value)
      → (if is_some (lookup (nat_eq m.0) (pairs f xs)) then Some m else None)
      ≡ option_map (λ v. v.id) (find (λ e. same_value m e.id) xs)
  there_is m [] = refl
  there_is m (x ∷ xs) = by_test (nat_eq m.0 x.id.0) refl (there_is m xs)
    where
      by_test : (b : Bool) → nat_eq m.0 x.id.0 ≡ b
          → (if is_some (lookup (nat_eq m.0) (pairs f xs)) then Some m else None)
          ≡ option_map (λ v. v.id) (find (λ e. same_value m e.id) xs)
          → (if is_some (if b then Some (taken_by f x) else lookup (nat_eq m.0) (pairs f xs)) then Some m else None)
          ≡ option_map (λ v. v.id) (if b then Some x else find (λ e. same_value m e.id) xs)
      by_test true same rest = let one : m ≡ x.id = λ i. record { 0 = eqb-true m.0 x.id.0 same i } in ap Some one
      by_test false same rest = rest

  no_memory : (xs : List Value) → None ≡ option_map (λ (v : Value). v.id) (find (λ e. same_memory None (Some e.id)) xs)
  no_memory [] = refl
  no_memory (x ∷ xs) = no_memory xs

  -- the definer before another in the table
  before_is : (d : Value) → Contains ds d → link_before (pairs f ds) d.id ≡ option_map (λ v. v.id) (taken_of d)
  before_is d there = ap (if_there (pairs f ds)) (taken_is d there) ∙ by_taken (taken_by f d)
    where
      by_taken : (o : Option ValueId)
          → if_there (pairs f ds) (Some o) ≡ option_map (λ v. v.id) (find (λ e. same_memory o (Some e.id)) ds)
      by_taken None = no_memory ds
      by_taken (Some m) = there_is m ds

-- ---- the walk

module _ (f : Func) (b : Block) (apart : Apart (inner_of b)) where
  abbrev table : List (ℕ × Option ValueId)
  table = pairs f (inner_of b)

  -- a chain that ends like this one, and is longer by the steps
  record Longer (steps : ℕ) (d : Value) (rest : List Value) : Type 0 where
    first : Value
    more : List Value
    within : All (Contains (inner_of b)) (first ∷ more)
    chain : IsChain f b (first ∷ more)
    count : length (first ∷ more) ≡ suc steps + length rest
    same_last : last_or (Some first) more ≡ last_or (Some d) rest

  all_cons : (d : Value) (rest : List Value) → Contains (inner_of b) d → All (Contains (inner_of b)) rest
      → All (Contains (inner_of b)) (d ∷ rest)
  all_cons d rest here all zero e lt = here
  all_cons d rest here all (suc k) e lt = all k e (omega (arith, lt))

  before_none : (o : Option Value) → is_none (option_map (λ (v : Value). v.id) o) ≡ true → o ≡ None
  before_none None h = refl
  before_none (Some v) h = cc

  walk_back : (steps : ℕ) (d : Value) (rest : List Value) → Contains (inner_of b) d → All (Contains (inner_of b)) rest
      → AreLinked f d rest → ends_after table steps d.id ≡ true → Longer steps d rest
  walk_back zero d rest here all linked ends =
      let none : taken_of f (inner_of b) apart d ≡ None =
      before_none (taken_of f (inner_of b) apart d) (sym (ap is_none (before_is f (inner_of b) apart d here)) ∙ ends) in
      record {
        first = d;
        more = rest;
        within = all_cons d rest here all;
        chain = (find_nowhere (λ e. takes f d e.id) (inner_of b) none, linked);
        count = omega arith;
        same_last = refl;
      }
  walk_back (suc n) d rest here all linked ends =
      go (taken_of f (inner_of b) apart d) refl
      (sym (ap (λ o. step_back o (ends_after table n)) (before_is f (inner_of b) apart d here)) ∙ ends)
      (λ e inner t goes. walk_back n e (d ∷ rest) inner (all_cons d rest here all) (t, linked) goes)
    where
      longer : (e : Value) → Longer n e (d ∷ rest) → Longer (suc n) d rest
      longer e l = record {
        first = l.first;
        more = l.more;
        within = l.within;
        chain = l.chain;
        count = omega (arith, l.count);
        same_last = l.same_last;
      }

      go : (o : Option Value) → taken_of f (inner_of b) apart d ≡ o
          → step_back (option_map (λ (v : Value). v.id) o) (ends_after table n) ≡ true
          → ((e : Value) → Contains (inner_of b) e → takes f d e.id ≡ true → ends_after table n e.id ≡ true
          → Longer n e (d ∷ rest))
          → Longer (suc n) d rest
      go None is goes again = cc
      go (Some e) is goes again =
          let found : Contains (inner_of b) e × (takes f d e.id ≡ true) =
          find_there (λ x. takes f d x.id) (inner_of b) e is in
          longer e (again e found.0 found.1 goes)

  -- where the walk ends after all of them, they are a chain that ends where it began
  record Ending (d : Value) : Type 0 where
    chain : List Value
    all : Lists f b apart chain
    last : last_definer b chain ≡ Some d.id

  ending : (d : Value) → Contains (inner_of b) d → ends_after table (length (inner_of b) - 1) d.id ≡ true → Ending d
  ending d here ends =
      let l : Longer (length (inner_of b) - 1) d [] =
      walk_back (length (inner_of b) - 1) d [] here (λ k e lt. absurd (omega (arith, lt))) tt ends in
      let some : 0 < length (inner_of b) = omega (arith, here.1) in
      let count : length (l.first ∷ l.more) ≡ length (inner_of b) = omega (arith, l.count, some) in
      let differ : IsDistinct eqb (numbers (l.first ∷ l.more))
      = distinct (l.first ∷ l.more) (no_repeat f b apart l.first l.more l.within l.chain) in
      record {
        chain = l.first ∷ l.more;
        all = record {
          within = l.within;
          whole = all_there (l.first ∷ l.more) (inner_of b) apart differ l.within count;
          in_order = l.chain;
        };
        last = ap (option_map (λ (v : Value). v.id)) l.same_last;
      }

  -- along a chain the walk ends at the first
  module _ (d : Value) (rest : List Value) (all : Lists f b apart (d ∷ rest)) where
    inner : (i : ℕ) (x : Value) → At (d ∷ rest) i x → Contains (inner_of b) x
    inner i x at = all_at (Contains (inner_of b)) (d ∷ rest) i x all.within at

    takes_none : (x : Value) → takes_inner f b x ≡ false → taken_of f (inner_of b) apart x ≡ None
    takes_none x none = by_found (taken_of f (inner_of b) apart x) refl
      where
        by_found : (o : Option Value) → taken_of f (inner_of b) apart x ≡ o → o ≡ None
        by_found None is = refl
        by_found (Some e) is =
            let found : Contains (inner_of b) e × (takes f x e.id ≡ true) =
            find_there (λ y. takes f x y.id) (inner_of b) e is in
            let place : (k : ℕ) × At (inner_of b) k e = contains_at (inner_of b) e found.0 in
            absurd (both_ways (takes_inner f b x) none
            (any_at (λ y. takes f x y.id) (inner_of b) place.0 e place.1 found.1))

    takes_this : (x z : Value) → Contains (inner_of b) z → takes f x z.id ≡ true
        → taken_of f (inner_of b) apart x ≡ Some z
    takes_this x z there t = by_found (taken_of f (inner_of b) apart x) refl
      where
        by_found : (o : Option Value) → taken_of f (inner_of b) apart x ≡ o → o ≡ Some z
        by_found None is =
            let place : (k : ℕ) × At (inner_of b) k z = contains_at (inner_of b) z there in
            absurd (both_ways (takes_inner f b x) (find_nowhere (λ y. takes f x y.id) (inner_of b) is)
            (any_at (λ y. takes f x y.id) (inner_of b) place.0 z place.1 t))
        by_found (Some e) is =
            let found : Contains (inner_of b) e × (takes f x e.id ≡ true) =
            find_there (λ y. takes f x y.id) (inner_of b) e is in
            ap Some (one_number (inner_of b) apart e z found.0 there (takes_one f x e.id z.id found.1 t))

    walk_along : (i : ℕ) (x : Value) → At (d ∷ rest) i x → ends_after table i x.id ≡ true
    walk_along zero x at =
        let one : d ≡ x = cc in
        let none : takes_inner f b x ≡ false = subst (λ v. takes_inner f b v ≡ false) one all.in_order.0 in
        ap is_none (before_is f (inner_of b) apart x (inner zero x at)
        ∙ ap (option_map (λ (v : Value). v.id)) (takes_none x none))
    walk_along (suc i) x at =
        let p : (z : Value) × At (d ∷ rest) i z × (takes f x z.id ≡ true) =
        linked_step f d rest all.in_order.1 i x at in
        ap (λ o. step_back o (ends_after table i))
        (before_is f (inner_of b) apart x (inner (suc i) x at)
        ∙ ap (option_map (λ (v : Value). v.id)) (takes_this x p.0 (inner i p.0 p.1) p.2))
        ∙ walk_along i p.0 p.1

    as_many : length rest ≡ length (inner_of b) - 1
    as_many =
        let differ : IsDistinct eqb (numbers (d ∷ rest)) =
        distinct (d ∷ rest) (no_repeat f b apart d rest all.within all.in_order) in
        let inner_differ : IsDistinct eqb (numbers (inner_of b)) = distinct (inner_of b) apart_at in
        omega (
          arith,
          fewer (d ∷ rest) (inner_of b) differ all.within,
          fewer (inner_of b) (d ∷ rest) inner_differ
              all.whole,
        )
      where
        apart_at : (i j : ℕ) (v w : Value) → At (inner_of b) i v → At (inner_of b) j w → v.id.0 ≡ w.id.0 → i < j → ⊥
        apart_at i j v w at_i at_j same before =
            apart i j v before (slice_get_within (inner_of b) j w at_j)
            (ap (λ (x : Value). x.id.0) (get_or_from_slice_get (inner_of b) i v v at_i) ∙ same
            ∙ sym (ap (λ (x : Value). x.id.0) (get_or_from_slice_get (inner_of b) j w v at_j)))

  -- ---- the first that no other takes

  abbrev is_free : Value → Bool
  is_free d = not (list_any (λ e. takes f e d.id) (inner_of b))

  abbrev free : Option Value
  free = find is_free (inner_of b)

  taken_by_some : (x : Value) → list_any (λ e. takes f e x.id) (inner_of b) ≡ true
      → (y : Value) × Contains (inner_of b) y × (takes f y x.id ≡ true)
  taken_by_some x h = from_found (find_any (λ e. takes f e x.id) (inner_of b) h)
    where
      from_found : Found (λ e. takes f e x.id) (inner_of b)
          → (y : Value) × Contains (inner_of b) y × (takes f y x.id ≡ true)
      from_found (k, y, at, t) = (y, at_contains (inner_of b) k y at, t)

  not_taken : (x y : Value) → is_free x ≡ true → Contains (inner_of b) y → takes f y x.id ≡ true → ⊥
  not_taken x y is there t =
      let place : (k : ℕ) × At (inner_of b) k y = contains_at (inner_of b) y there in
      both_ways (list_any (λ e. takes f e x.id) (inner_of b))
      (not-true (list_any (λ e. takes f e x.id) (inner_of b)) is)
      (any_at (λ e. takes f e x.id) (inner_of b) place.0 y place.1 t)

  -- the last of a chain is free
  last_is_free : (d : Value) (rest : List Value) → Lists f b apart (d ∷ rest) → free ≡ None → ⊥
  last_is_free d rest all none =
      let x : (v : Value) × At (d ∷ rest) (length rest) v = some_last d rest in
      by_test x.0 x.1 (list_any (λ e. takes f e x.0.id) (inner_of b)) refl
    where
      by_test : (x : Value) → At (d ∷ rest) (length rest) x → (t : Bool)
          → list_any (λ e. takes f e x.id) (inner_of b) ≡ t → ⊥
      by_test x at true is =
          let p : (y : Value) × Contains (inner_of b) y × (takes f y x.id ≡ true) = taken_by_some x is in
          last_free f b apart d rest all.within all.in_order all.whole x p.0 at p.1 p.2
      by_test x at false is =
          let there : Contains (inner_of b) x =
          all_at (Contains (inner_of b)) (d ∷ rest) (length rest) x all.within at in
          let place : (k : ℕ) × At (inner_of b) k x = contains_at (inner_of b) x there in
          both_ways (list_any is_free (inner_of b)) (find_nowhere is_free (inner_of b) none)
          (any_at is_free (inner_of b) place.0 x place.1 (ap not is))

  -- ---- what the block leaves

  abbrev end_by : Option Value → Option ValueId
  end_by o = end_where table (length (inner_of b) - 1) (option_map (λ (v : Value). v.id) o)

  not_empty : (c : Chained f b) → 0 < length (inner_of b)
      → (d : Value) × (rest : List Value) × Lists f b apart (d ∷ rest)
  not_empty c some = by_chain c.chain (lists f b apart c)
    where
      by_chain : (chain : List Value) → Lists f b apart chain
          → (d : Value) × (rest : List Value) × Lists f b apart (d ∷ rest)
      by_chain (d ∷ rest) all = (d, rest, all)
      by_chain [] all = absurd (none (inner_of b) some all.whole)
        where
          none : (xs : List Value) → 0 < length xs → All (Contains []) xs → ⊥
          none [] lt whole = omega (arith, lt)
          none (x ∷ xs) lt whole = let here : Contains [] x = whole zero x (omega arith) in omega (arith, here.1)

  leaves_end : has_definer b ≡ true → length (filter is_memory_phi b.values) ≤ 1 → 0 < length (inner_of b)
      → LeavesOf f b (leaves_by (end_by free))
  leaves_end has phi some = by_free free refl
    where
      by_end : (y : Value) → free ≡ Some y → (t : Bool) → ends_after table (length (inner_of b) - 1) y.id ≡ t
          → LeavesOf f b (leaves_by (if t then Some y.id else None))
      by_end y is true ends =
          let e : Ending y = ending y (find_there is_free (inner_of b) y is).0 ends in (
            has,
            record {
              chained = record {
                one_phi = phi;
                chain = e.chain;
                within = e.all.within;
                whole = e.all.whole;
                in_order = e.all.in_order;
              };
              last = e.last;
            },
          )
      by_end y is false ends = (has, never)
        where
          never : Chained f b → ⊥
          never c =
              let p : (d : Value) × (rest : List Value) × Lists f b apart (d ∷ rest) = not_empty c some in
              let found : Contains (inner_of b) y × (is_free y ≡ true) = find_there is_free (inner_of b) y is in
              let at : At (p.0 ∷ p.1) (length p.1) y =
              free_last f b apart p.0 p.1 p.2.within p.2.in_order p.2.whole y found.0
              (λ z there t. not_taken y z found.1 there t) in
              let along : ends_after table (length p.1) y.id ≡ true = walk_along p.0 p.1 p.2 (length p.1) y at in
              both_ways (ends_after table (length (inner_of b) - 1) y.id) ends
              (subst (λ n. ends_after table n y.id ≡ true) (as_many p.0 p.1 p.2) along)

      by_free : (o : Option Value) → free ≡ o → LeavesOf f b (leaves_by (end_by o))
      by_free None is = (has, never)
        where
          never : Chained f b → ⊥
          never c =
              let p : (d : Value) × (rest : List Value) × Lists f b apart (d ∷ rest) = not_empty c some in
              last_is_free p.0 p.1 p.2 is
      by_free (Some y) is = by_end y is (ends_after table (length (inner_of b) - 1) y.id) refl

  abbrev links : List Link
  links = map (as_link f) (inner_of b)

  -- the end that the links give is that of the definers
  end_is : chain_end (links_of f b.values) ≡ end_by free
  end_is =
      ap chain_end (links_are f b.values)
      ∙ (λ i. end_where (entries i) (count i - 1) (free_is i))
    where
      entries : insert_all nat_eq [] (taken_pairs links) ≡ table
      entries = ap (λ l. insert_all nat_eq [] l) (pairs_are f (inner_of b)) ∙ all_in f (inner_of b) [] apart

      count : length links ≡ length (inner_of b)
      count = length-map (inner_of b) (as_link f)

      same_test : (d : Value) → not (is_taken d.id links) ≡ is_free d
      same_test d = ap not (any_map (λ (l : Link). same_memory l.taken (Some d.id)) (as_link f) (inner_of b))

      names : (o : Option Value) → option_map (λ (l : Link). l.id) (option_map (as_link f) o)
          ≡ option_map (λ (v : Value). v.id) o
      names None = refl
      names (Some v) = refl

      free_is : free_of links ≡ option_map (λ (v : Value). v.id) free
      free_is =
          ap (option_map (λ (l : Link). l.id))
          (find_map (λ (l : Link). not (is_taken l.id links)) (as_link f) (inner_of b))
          ∙ names (find (λ (d : Value). not (is_taken d.id links)) (inner_of b))
          ∙ (λ i. option_map (λ (v : Value). v.id) (find (λ d. same_test d i) (inner_of b)))

-- ---- the answers of the check

pub leaves_chain : (f : Func) → WellFormedFunc f → (b : Block) → Contains f.blocks b → has_definer b ≡ true
    → length (filter is_memory_phi b.values) ≤ 1 → 0 < length (links_of f b.values)
    → LeavesOf f b (leaves_by (chain_end (links_of f b.values)))
leaves_chain f well b there has phi some =
    let apart : Apart (inner_of b) = inner_apart f well b there in
    let count : length (links_of f b.values) ≡ length (inner_of b)
    = ap length (links_are f b.values) ∙ length-map (inner_of b) (as_link f) in
    subst (λ o. LeavesOf f b (leaves_by o)) (sym (end_is f b apart))
    (leaves_end f b apart has phi (omega (arith, some, count)))

pub leaves_first : (f : Func) (b : Block) → has_definer b ≡ true → length (filter is_memory_phi b.values) ≤ 1
    → length (links_of f b.values) ≡ 0
    → LeavesOf f b (leaves_by (option_map (λ (v : Value). v.id) (find begins_memory b.values)))
leaves_first f b has phi none =
    by_found (find begins_memory b.values) refl
  where
    empty : (xs : List Value) → length xs ≡ 0 → xs ≡ []
    empty [] h = refl
    empty (x ∷ xs) h = absurd (omega (arith, h))

    no_inner : inner_of b ≡ []
    no_inner = empty (inner_of b) (sym (ap length (links_are f b.values) ∙ length-map (inner_of b) (as_link f)) ∙ none)

    -- a definer that isn't an inner one begins memory
    begins : (xs : List Value) → list_any is_definer xs ≡ true → filter is_inner xs ≡ []
        → list_any begins_memory xs ≡ true
    begins [] any none = cc
    begins (x ∷ xs) any none = by_tests (begins_memory x) (is_inner x) (begins xs) any none
      where
        by_tests : (t u : Bool)
            → (list_any is_definer xs ≡ true → filter is_inner xs ≡ [] → list_any begins_memory xs ≡ true)
            → ((t || u) || list_any is_definer xs) ≡ true
            → (if u then x ∷ filter is_inner xs else filter is_inner xs) ≡ []
            → (t || list_any begins_memory xs) ≡ true
        by_tests true u again h e = refl
        by_tests false true again h e = cc
        by_tests false false again h e = again h e

    by_found : (o : Option Value) → find begins_memory b.values ≡ o
        → LeavesOf f b (leaves_by (option_map (λ (v : Value). v.id) o))
    by_found None is =
        absurd (both_ways (list_any begins_memory b.values) (find_nowhere begins_memory b.values is)
        (begins b.values has no_inner))
    by_found (Some v) is = (
      has,
      record {
        chained = record {
          one_phi = phi;
          chain = [];
          within = λ k d lt. absurd (omega (arith, lt));
          whole =
              subst (λ (xs : List Value). All (Contains []) xs) (sym no_inner) (λ k d lt. absurd (omega (arith, lt)));
          in_order = tt;
        };
        last = ap (option_map (λ (w : Value). w.id)) is;
      },
    )

pub leaves_none : (f : Func) (b : Block) → has_definer b ≡ true → 1 < length (filter is_memory_phi b.values)
    → LeavesOf f b Unknown
leaves_none f b has more = (has, λ c. omega (arith, more, c.one_phi))

-- ---- one step of the walk

pub one_step : (taken : List (ℕ × Option ValueId)) (steps done : ℕ) (id : ValueId) (o : Option ValueId) → done < steps
    → o ≡ link_before taken id → ends_after taken (steps - done) id
    ≡ step_back o (ends_after taken (steps - (done + 1)))
one_step taken steps done id o before is =
    let left : steps - done ≡ suc (steps - (done + 1)) = omega (arith, before) in
    ap (λ n. ends_after taken n id) left ∙ ap (λ p. step_back p (ends_after taken (steps - (done + 1)))) (sym is)

pub no_step : (taken : List (ℕ × Option ValueId)) (steps done : ℕ) (id : ValueId) (o : Option ValueId) → steps ≤ done
    → o ≡ link_before taken id → ends_after taken (steps - done) id ≡ is_none o
no_step taken steps done id o behind is =
    let left : steps - done ≡ 0 = omega (arith, behind) in
    ap (λ n. ends_after taken n id) left ∙ ap is_none (sym is)

-- ---- what calls of std answer

pub none_is : {X : Type 0} (o : Option X) (r : Bool) → is_some o ≡ not r → r ≡ is_none o
none_is None true h = refl
none_is None false h = cc
none_is (Some x) true h = cc
none_is (Some x) false h = refl

pub some_there : (n : ℕ) → (n == 0) ≡ false → 0 < n
some_there zero h = cc
some_there (suc n) h = omega arith
