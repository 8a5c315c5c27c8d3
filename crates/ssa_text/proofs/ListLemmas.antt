-- Lists in parts, and lists in which no key stands twice.
use Rattle.std.proofs.Common.{◌≡◌, ◌≢◌, ◌==◌, ℕ, ◌+◌, Bool, true, false, ◌||◌, cond, List, [], ◌∷◌, ◌++◌, length, map}
use Rattle.std.proofs.Common.{find, is_some, All, None, Some, refl, sym, ◌∙◌, subst}
use Rattle.std.specs.List.{list_any}
use Rattle.std.proofs.lemmas.Bool.{or_parts, false≢true, eq-eqb}
use Rattle.std.proofs.lemmas.List.{map-append, length-append}
use Rattle.std.proofs.lemmas.List.Elements.{All-nil, All-cons, All-head, All-tail, All-map}
use Rattle.std.proofs.lemmas.List.Quantifiers.{all_pairs_push}
use Rattle.ssa_ir.specs.WellFormed.{Differ}

-- what holds of what a list's items give
pub All-unmap : {X Y : Type 0} (P : Y → Type 0) (f : X → Y) (xs : List X) → All P (map f xs) → All (λ x. P (f x)) xs
All-unmap P f [] h = All-nil (λ x. P (f x))
All-unmap P f (x ∷ xs) h =
    let behind = All-unmap P f xs (All-tail P (f x) (map f xs) h) in
    All-cons (λ y. P (f y)) x xs (All-head P (f x) (map f xs) h) behind

-- what holds of all of a list holds of its front, and of the rest
pub All-front : {X : Type 0} (P : X → Type 0) (xs ys : List X) → All P (xs ++ ys) → All P xs
All-front P [] ys h = All-nil P
All-front P (x ∷ xs) ys h =
    All-cons P x xs (All-head P x (xs ++ ys) h) (All-front P xs ys (All-tail P x (xs ++ ys) h))

pub All-back : {X : Type 0} (P : X → Type 0) (xs ys : List X) → All P (xs ++ ys) → All P ys
All-back P [] ys h = h
All-back P (x ∷ xs) ys h = All-back P xs ys (All-tail P x (xs ++ ys) h)

-- one more item
pub length_push : {X : Type 0} (xs : List X) (x : X) → length (xs ++ x ∷ []) ≡ length xs + 1
length_push xs x = length-append xs (x ∷ [])

-- where no item of a list passes the test of a key, none has that key
pub none_same : {X K : Type 0} (f : X → K) (same : K → Bool) (key : K) → ((k : K) → k ≡ key → same k ≡ true)
    → (xs : List X) → list_any (λ x. same (f x)) xs ≡ false → All (λ x. f x ≢ key) xs
none_same f same key itself [] h = All-nil (λ x. f x ≢ key)
none_same f same key itself (x ∷ xs) h =
    let parts = or_parts (same (f x)) (list_any (λ y. same (f y)) xs) h in
    let here : f x ≢ key = λ e. false≢true (sym parts.0 ∙ itself (f x) e) in
    All-cons (λ y. f y ≢ key) x xs here (none_same f same key itself xs parts.1)

-- a key that differs from all of a list goes last
pub differ_push : {K : Type 0} (keys : List K) (key : K) → Differ keys → All (λ k. k ≢ key) keys
    → Differ (keys ++ key ∷ [])
differ_push keys key differ new = all_pairs_push (λ a b. a ≢ b) keys key differ new

-- an item whose number no other has goes last
pub numbers_differ : {X : Type 0} (number : X → ℕ) (xs : List X) (x : X) → Differ (map number xs)
    → list_any (λ y. number y == number x) xs ≡ false → Differ (map number (xs ++ x ∷ []))
numbers_differ number xs x differ new =
    let n = number x in
    let apart = none_same number (λ m. m == n) n (λ m e. eq-eqb m n e) xs new in
    subst Differ (sym (map-append number xs (x ∷ [])))
    (differ_push (map number xs) n differ (All-map (λ m. m ≢ n) number xs apart))

-- where nothing is found, all fail the test
pub none_found : {X : Type 0} (test : X → Bool) (xs : List X) → find test xs ≡ None → All (λ x. test x ≡ false) xs
none_found test [] h = All-nil (λ x. test x ≡ false)
none_found test (x ∷ xs) h = go (test x) refl h (none_found test xs)
  where
    go : (b : Bool) → test x ≡ b → cond b (Some x) (find test xs) ≡ None
        → (find test xs ≡ None → All (λ y. test y ≡ false) xs) → All (λ y. test y ≡ false) (x ∷ xs)
    go true e some behind = cc
    go false e none behind = All-cons (λ y. test y ≡ false) x xs e (behind none)

-- something is found where an item passes
pub found_by_test : {X : Type 0} (test : X → Bool) (xs : List X) → is_some (find test xs) ≡ list_any test xs
found_by_test test [] = refl
found_by_test test (x ∷ xs) = go (test x) (found_by_test test xs)
  where
    go : (b : Bool) → is_some (find test xs) ≡ list_any test xs
        → is_some (cond b (Some x) (find test xs)) ≡ (b || list_any test xs)
    go true behind = refl
    go false behind = behind

-- two tests that agree on all of a list
pub same_tests : {X : Type 0} (test other : X → Bool) (xs : List X) → All (λ x. test x ≡ other x) xs
    → list_any test xs ≡ list_any other xs
same_tests test other [] h = refl
same_tests {X} test other (x ∷ xs) h =
    let alike = λ (y : X). test y ≡ other y in
    λ i. All-head alike x xs h i || same_tests test other xs (All-tail alike x xs h) i
