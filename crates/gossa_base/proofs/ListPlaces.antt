-- Lists by index: which elements stand where, and what tests find.
use Rattle.std.proofs.Common.{◌≡◌, ℕ, zero, suc, ◌+◌, ◌-◌, ◌<◌, ◌⊎◌, inl, inr, Bool, true, false, ◌&&◌, ◌||◌}
use Rattle.std.proofs.Common.{if◌then◌else◌, List, [], ◌∷◌, ◌++◌, length, get_or, take, filter, Bor, Option, None, Some}
use Rattle.std.proofs.Common.{is_some, option_copied, slice_get, refl, subst, sym, ap, ◌∙◌, arith}
use Rattle.std.specs.List.{All, Any, Contains, flat_map, last_or, list_all, list_any}
use Rattle.std.specs.Option.{option_or}
use Rattle.std.specs.Slice.{IsItemAt}
use Rattle.std.proofs.lemmas.Bool.{or_cases, or_left, or_right}
use Rattle.std.proofs.lemmas.List.{length-take-le, take_more}
use Rattle.std.proofs.lemmas.List.Folds.{list_any-append}
use Rattle.std.proofs.lemmas.Option.{get_or_from_slice_get, slice_get-get_or, slice_get_past, slice_get_within}
use Rattle.gossa_base.specs.Lists.{first_from, indexes_from}

-- x stands at index i
abbrev pub At : {X : Type 0} → List X → ℕ → X → Type 0
At xs i x = slice_get xs i ≡ Some x

pub same_at : {X : Type 0} (xs : List X) (i : ℕ) (x y : X) → At xs i x → At xs i y → x ≡ y
same_at xs i x y a b = let e : Some x ≡ Some y = sym a ∙ b in cc

-- x is an element
abbrev pub Stands : {X : Type 0} → List X → X → Type 0
Stands xs x = (k : ℕ) × At xs k x

-- some element that passes
abbrev pub Found : {X : Type 0} → (X → Bool) → List X → Type 0
Found {X} test xs = (i : ℕ) × (x : X) × At xs i x × (test x ≡ true)

pub find_any : {X : Type 0} (test : X → Bool) (xs : List X) → list_any test xs ≡ true → Found test xs
find_any test [] h = cc
find_any test (x ∷ xs) h = from_cases (find_any test xs) (or_cases (test x) (list_any test xs) h)
  where
    later : Found test xs → Found test (x ∷ xs)
    later (i, y, at, passes) = (suc i, y, at, passes)

    from_cases : (list_any test xs ≡ true → Found test xs) → (test x ≡ true) ⊎ (list_any test xs ≡ true)
        → Found test (x ∷ xs)
    from_cases again (inl here) = (zero, x, refl, here)
    from_cases again (inr behind) = later (again behind)

pub any_at : {X : Type 0} (test : X → Bool) (xs : List X) (i : ℕ) (x : X) → At xs i x → test x ≡ true
    → list_any test xs ≡ true
any_at test [] i x at passes = cc
any_at test (y ∷ xs) zero x at passes =
    let same : y ≡ x = cc in or_left (test y) (list_any test xs) (ap test same ∙ passes)
any_at test (y ∷ xs) (suc i) x at passes = or_right (test y) (list_any test xs) (any_at test xs i x at passes)

pub any_filter : {X : Type 0} (test kept : X → Bool) (xs : List X)
    → list_any test (filter kept xs) ≡ list_any (λ x. kept x && test x) xs
any_filter test kept [] = refl
any_filter {X} test kept (x ∷ xs) = by_test (kept x) (any_filter test kept xs)
  where
    by_test : (b : Bool) → list_any test (filter kept xs) ≡ list_any (λ y. kept y && test y) xs
        → list_any test (if b then (x ∷ filter kept xs) else filter kept xs)
        ≡ ((b && test x) || list_any (λ y. kept y && test y) xs)
    by_test true rest = ap (λ r. test x || r) rest
    by_test false rest = rest

-- ---- elements of filtered lists

abbrev KeptAt : {X : Type 0} → (X → Bool) → List X → X → Type 0
KeptAt kept xs x = (i : ℕ) × At xs i x × (kept x ≡ true)

kept_later : {X : Type 0} (kept : X → Bool) (y : X) (xs : List X) (x : X) → KeptAt kept xs x → KeptAt kept (y ∷ xs) x
kept_later kept y xs x (i, at, keeps) = (suc i, at, keeps)

pub filter_at : {X : Type 0} (kept : X → Bool) (xs : List X) (k : ℕ) (x : X) → At (filter kept xs) k x
    → KeptAt kept xs x
filter_at kept [] k x at = cc
filter_at {X} kept (y ∷ xs) k x at = by_test (λ k at. filter_at kept xs k x at) (kept y) refl k at
  where
    by_test : ((k : ℕ) → At (filter kept xs) k x → KeptAt kept xs x) → (b : Bool) → kept y ≡ b
        → (k : ℕ) → At (if b then (y ∷ filter kept xs) else filter kept xs) k x → KeptAt kept (y ∷ xs) x
    by_test again true e zero at = let same : y ≡ x = cc in (zero, at, sym (ap kept same) ∙ e)
    by_test again true e (suc k) at = kept_later kept y xs x (again k at)
    by_test again false e k at = kept_later kept y xs x (again k at)

pub at_filter : {X : Type 0} (kept : X → Bool) (xs : List X) (i : ℕ) (x : X) → At xs i x → kept x ≡ true
    → Stands (filter kept xs) x
at_filter kept [] i x at keeps = cc
at_filter {X} kept (y ∷ xs) zero x at keeps =
    let same : y ≡ x = cc in
    subst (λ b. Stands (if b then (y ∷ filter kept xs) else filter kept xs) x) (sym (ap kept same ∙ keeps)) (zero, at)
at_filter {X} kept (y ∷ xs) (suc i) x at keeps = by_test (kept y) (at_filter kept xs i x at keeps)
  where
    by_test : (b : Bool) → Stands (filter kept xs) x
        → Stands (if b then (y ∷ filter kept xs) else filter kept xs) x
    by_test true (k, there) = (suc k, there)
    by_test false there = there

pub contains_at : {X : Type 0} (xs : List X) (x : X) → Contains xs x → Stands xs x
contains_at xs x (k, within, is) = (k, slice_get-get_or xs k x within ∙ ap Some is)

pub at_contains : {X : Type 0} (xs : List X) (k : ℕ) (x : X) → At xs k x → Contains xs x
at_contains xs k x at = (k, slice_get_within xs k x at, get_or_from_slice_get xs k x x at)

-- an element at an index, from one that a list has by the other look-up
pub at_any : {X : Type 0} (P : X → Type 0) (xs : List X) → Any P xs → (i : ℕ) × (x : X) × At xs i x × P x
at_any P xs (k, x, within, is, p) = (k, x, slice_get-get_or xs k x within ∙ ap Some is, p)

pub any_from_at : {X : Type 0} (P : X → Type 0) (xs : List X) (k : ℕ) (x : X) → At xs k x → P x → Any P xs
any_from_at P xs k x at p = (k, x, slice_get_within xs k x at, get_or_from_slice_get xs k x x at, p)

pub all_at : {X : Type 0} (P : X → Type 0) (xs : List X) (k : ℕ) (x : X) → All P xs → At xs k x → P x
all_at P xs k x all at = subst P (get_or_from_slice_get xs k x x at) (all k x (slice_get_within xs k x at))

-- ---- the first that passes

pub first_at : {X : Type 0} (test : X → Bool) (k : ℕ) (xs : List X) (n : ℕ) → first_from test k xs ≡ Some n
    → (i : ℕ) × (x : X) × (n ≡ k + i) × At xs i x × (test x ≡ true)
first_at test k [] n h = cc
first_at {X} test k (y ∷ xs) n h = by_test (first_at test (suc k) xs n) (test y) refl h
  where
    later : ((i : ℕ) × (x : X) × (n ≡ suc k + i) × At xs i x × (test x ≡ true))
        → (i : ℕ) × (x : X) × (n ≡ k + i) × At (y ∷ xs) i x × (test x ≡ true)
    later (i, x, is, at, passes) = (suc i, x, omega (arith, is), at, passes)

    by_test : (first_from test (suc k) xs ≡ Some n
        → (i : ℕ) × (x : X) × (n ≡ suc k + i) × At xs i x × (test x ≡ true))
        → (b : Bool) → test y ≡ b → (if b then Some k else first_from test (suc k) xs) ≡ Some n
        → (i : ℕ) × (x : X) × (n ≡ k + i) × At (y ∷ xs) i x × (test x ≡ true)
    by_test again true e h = let same : k ≡ n = cc in (zero, y, omega (arith, same), refl, e)
    by_test again false e h = later (again h)

pub first_some : {X : Type 0} (test : X → Bool) (k : ℕ) (xs : List X) (i : ℕ) (x : X) → At xs i x → test x ≡ true
    → (n : ℕ) × (first_from test k xs ≡ Some n)
first_some test k [] i x at passes = cc
first_some test k (y ∷ xs) zero x at passes =
    let same : y ≡ x = cc in
    (k, ap (λ b. if b then Some k else first_from test (suc k) xs) (ap test same ∙ passes))
first_some {X} test k (y ∷ xs) (suc i) x at passes = by_test (test y) (first_some test (suc k) xs i x at passes)
  where
    by_test : (b : Bool) → ((n : ℕ) × (first_from test (suc k) xs ≡ Some n))
        → (n : ℕ) × ((if b then Some k else first_from test (suc k) xs) ≡ Some n)
    by_test true later = (k, refl)
    by_test false later = later

-- where one alone passes, it is the first
pub first_only : {X : Type 0} (test : X → Bool) (xs : List X) (i : ℕ) (x : X) → At xs i x → test x ≡ true
    → ((j : ℕ) (y : X) → At xs j y → test y ≡ true → j ≡ i) → first_from test 0 xs ≡ Some i
first_only {X} test xs i x at passes only = from_some (first_some test 0 xs i x at passes)
  where
    from_some : ((n : ℕ) × (first_from test 0 xs ≡ Some n)) → first_from test 0 xs ≡ Some i
    from_some (n, is) =
        let found : (j : ℕ) × (y : X) × (n ≡ 0 + j) × At xs j y × (test y ≡ true) = first_at test 0 xs n is in
        let same : n ≡ i = omega (arith, found.2, only found.0 found.1 found.3 found.4) in
        is ∙ ap Some same

-- where none was found, no element passes
pub first_none : {X : Type 0} (test : X → Bool) (k : ℕ) (xs : List X) → first_from test k xs ≡ None
    → list_any test xs ≡ false
first_none test k [] h = refl
first_none {X} test k (y ∷ xs) h = by_test (first_none test (suc k) xs) (test y) h
  where
    by_test : (first_from test (suc k) xs ≡ None → list_any test xs ≡ false) → (b : Bool)
        → (if b then Some k else first_from test (suc k) xs) ≡ None → (b || list_any test xs) ≡ false
    by_test again true h = cc
    by_test again false h = again h

-- one more element
abbrev pub only_where : Bool → ℕ → Option ℕ
only_where true i = Some i
only_where false i = None

first_push : {X : Type 0} (test : X → Bool) (k : ℕ) (xs : List X) (x : X)
    → first_from test k (xs ++ x ∷ []) ≡ option_or (first_from test k xs) (only_where (test x) (k + length xs))
first_push test k [] x = by_test (test x)
  where
    by_test : (b : Bool) → (if b then Some k else None) ≡ only_where b (k + zero)
    by_test true = let same : k ≡ k + zero = omega arith in ap Some same
    by_test false = refl
first_push {X} test k (y ∷ xs) x = by_test (test y) (first_push test (suc k) xs x)
  where
    by_test : (b : Bool)
        → first_from test (suc k) (xs ++ x ∷ [])
        ≡ option_or (first_from test (suc k) xs) (only_where (test x) (suc k + length xs))
        → (if b then Some k else first_from test (suc k) (xs ++ x ∷ []))
        ≡ option_or (if b then Some k else first_from test (suc k) xs) (only_where (test x) (k + suc (length xs)))
    by_test true rest = refl
    by_test false rest =
        let same : suc k + length xs ≡ k + suc (length xs) = omega arith in
        rest ∙ ap (λ n. option_or (first_from test (suc k) xs) (only_where (test x) n)) same

-- the first of one more element
pub first_more : {X : Type 0} (test : X → Bool) (xs : List X) (i : ℕ) (d : X) → i < length xs
    → first_from test 0 (take (i + 1) xs) ≡ option_or (first_from test 0 (take i xs))
    (only_where (test (get_or xs i d)) i)
first_more test xs i d within =
    let n : 0 + length (take i xs) ≡ i = omega (arith, length-take-le i xs (omega (arith, within))) in
    ap (first_from test 0) (take_more xs i d within) ∙ first_push test 0 (take i xs) (get_or xs i d)
    ∙ ap (λ k. option_or (first_from test 0 (take i xs)) (only_where (test (get_or xs i d)) k)) n

-- ---- all that pass

-- a test of those elements that pass another is one of their indexes
pub all_by_index : {X : Type 0} (passes p : X → Bool) (q : ℕ → Bool) (k : ℕ) (xs : List X)
    → ((j : ℕ) (x : X) → At xs j x → p x ≡ q (k + j))
    → list_all p (filter passes xs) ≡ list_all q (indexes_from passes k xs)
all_by_index passes p q k [] same = refl
all_by_index {X} passes p q k (y ∷ xs) same =
    by_test (passes y) (all_by_index passes p q (suc k) xs later)
  where
    later : (j : ℕ) (x : X) → At xs j x → p x ≡ q (suc k + j)
    later j x at = let n : k + suc j ≡ suc k + j = omega arith in same (suc j) x at ∙ ap q n

    here : p y ≡ q k
    here = let n : k + zero ≡ k = omega arith in same zero y refl ∙ ap q n

    by_test : (b : Bool) → list_all p (filter passes xs) ≡ list_all q (indexes_from passes (suc k) xs)
        → list_all p (if b then y ∷ filter passes xs else filter passes xs)
        ≡ list_all q (if b then k ∷ indexes_from passes (suc k) xs else indexes_from passes (suc k) xs)
    by_test true rest = λ i. here i && rest i
    by_test false rest = rest

pub all_append : {X : Type 0} (test : X → Bool) (xs ys : List X)
    → list_all test (xs ++ ys) ≡ (list_all test xs && list_all test ys)
all_append test [] ys = refl
all_append test (x ∷ xs) ys =
    ap (λ b. test x && b) (all_append test xs ys) ∙ and_assoc (test x) (list_all test xs) (list_all test ys)
  where
    and_assoc : (a b c : Bool) → (a && (b && c)) ≡ ((a && b) && c)
    and_assoc true b c = refl
    and_assoc false b c = refl

-- ---- lists that are put together

-- what some element gives
pub any_flat_map : {X Y : Type 0} (test : Y → Bool) (f : X → List Y) (xs : List X)
    → list_any test (flat_map f xs) ≡ list_any (λ x. list_any test (f x)) xs
any_flat_map test f [] = refl
any_flat_map test f (x ∷ xs) =
    list_any-append test (f x) (flat_map f xs) ∙ ap (λ r. list_any test (f x) || r) (any_flat_map test f xs)

-- ---- what calls of std answer

-- the last element, behind a first one
pub last_at : {X : Type 0} (x : X) (xs : List X) → last_or (Some x) xs ≡ slice_get (x ∷ xs) (length xs)
last_at x [] = refl
last_at x (y ∷ xs) = last_at y xs

-- the last element
pub last_is : {X : Type 0} (xs : List X) → slice_get xs (length xs - 1) ≡ last_or None xs
last_is [] = refl
last_is (x ∷ xs) =
    let same : suc (length xs) - 1 ≡ length xs = omega arith in ap (slice_get (x ∷ xs)) same ∙ sym (last_at x xs)

pub none_copied : {X : Type 0} (o : Option (Bor X)) → is_some o ≡ false → option_copied o ≡ None
none_copied None h = refl
none_copied (Some x) h = cc

pub some_copied : {X : Type 0} (o : Option (Bor X)) → is_some o ≡ true → (x : X) × (option_copied o ≡ Some x)
some_copied None h = cc
some_copied (Some x) h = (x.now, refl)

-- what `get` of a slice gives
pub item_copied : {X : Type 0} (xs : List X) (i : ℕ) (r : Option (Bor X)) → IsItemAt xs i r
    → option_copied r ≡ slice_get xs i
item_copied xs i None h = sym (slice_get_past xs i h.3)
item_copied xs i (Some x) h = ap Some (h.3.1 x.now) ∙ sym (slice_get-get_or xs i x.now h.3.0)
