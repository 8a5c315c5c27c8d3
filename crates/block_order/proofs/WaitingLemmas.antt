-- The counts of what is waited for, and the set of those that may come next.
use Rattle.std.proofs.Common.{◌≡◌, ℕ, zero, suc, ◌+◌, ◌-◌, ◌==◌, ◌<◌, ◌≤◌, ◌⊎◌, inl, inr, Bool, true, false, ◌&&◌}
use Rattle.std.proofs.Common.{if◌then◌else◌, List, [], ◌∷◌, length, get_or, set, map, take, slice_get}
use Rattle.std.proofs.Common.{slice_index, slice_set, Option, None, Some, nat_cmp}
use Rattle.std.proofs.Common.{refl, subst, sym, ap, ◌∙◌, arith}
use Rattle.std.specs.BTreeSet.{BTreeSet, contains}
use Rattle.std.specs.List.{All, list_all}
use Rattle.std.proofs.lemmas.Bool.{cases_eq, cases_order, eq-eqb, false_from_ne_true}
use Rattle.std.proofs.lemmas.Bool.{ne_eqb}
use Rattle.std.proofs.lemmas.List.{get_or-map, get_or-set_other, get_or-set_same, length-map, length-set}
use Rattle.std.proofs.lemmas.List.{set-get_or, set_past, take_more}
use Rattle.std.proofs.lemmas.Option.{get_or_from_slice_get, slice_get_within}
use Rattle.ssa_ir.specs.declared.func.Value.{Value}
use Rattle.block_order.specs.tables.Dependencies.{dependencies, is_at}
use Rattle.block_order.specs.tables.Placing.{is_open, may_come, next_from}
use Rattle.block_order.specs.tables.Waiting.{AreCounts, AreReady, IsFirst, IsWaiting, may_start, occurs}
use Rattle.block_order.specs.tables.Waiting.{starts}
use Rattle.block_order.specs.tables.Waiting.{unplaced, waiters_of}
use Rattle.gossa_base.proofs.ListPlaces.{At}
use Rattle.block_order.proofs.WaiterLemmas.{occurs_push}

-- ---- a count that falls

and_false : (b : Bool) → (b && false) ≡ false
and_false true = refl
and_false false = refl

-- a count that isn't 0 starts nothing
waits_on : (values : List Value) (flags : List Bool) (counts : List ℕ) (k : ℕ) → 0 < slice_index counts k
    → may_start values flags counts k ≡ false
waits_on values flags counts k some = go (slice_get values k)
  where
    none : (slice_index counts k == 0) ≡ false
    none = ne_eqb (slice_index counts k) 0 (λ e. absurd (omega (arith, e, some)))

    go : (o : Option Value) → starts flags counts k o ≡ false
    go None = refl
    go (Some v) = ap (λ b. is_open flags k v && b) none ∙ and_false (is_open flags k v)

-- another count that changes plays no part
start_same : (values : List Value) (flags : List Bool) (counts : List ℕ) (w x k : ℕ) → (k ≡ w → ⊥)
    → may_start values flags (slice_set counts w x) k ≡ may_start values flags counts k
start_same values flags counts w x k other = go (slice_get values k)
  where
    go : (o : Option Value) → starts flags (slice_set counts w x) k o ≡ starts flags counts k o
    go None = refl
    go (Some v) = ap (λ n. is_open flags k v && (n == 0)) (get_or-set_other counts w k x 0 other)

pub released_none : (values : List Value) (flags : List Bool) (counts : List ℕ) (ready : BTreeSet ℕ) (w x : ℕ)
    → 0 < slice_index counts w → AreReady values flags counts ready
    → may_start values flags (slice_set counts w x) w ≡ false
    → AreReady values flags (slice_set counts w x) ready
released_none values flags counts ready w x some are not_yet k = from_cases (cases_eq k w)
  where
    from_cases : (k ≡ w) ⊎ (k ≡ w → ⊥) → contains nat_cmp ready k ≡ may_start values flags (slice_set counts w x) k
    from_cases (inl same) =
        are k ∙ ap (may_start values flags counts) same ∙ waits_on values flags counts w some
        ∙ sym (ap (may_start values flags (slice_set counts w x)) same ∙ not_yet)
    from_cases (inr other) = are k ∙ sym (start_same values flags counts w x k other)

-- ---- all waiters of a value

abbrev one_where : Bool → ℕ
one_where true = 1
one_where false = 0

occurs_take : (k n : ℕ) (xs : List ℕ) → occurs k (take n xs) ≤ occurs k xs
occurs_take k zero xs = omega arith
occurs_take k (suc n) [] = omega arith
occurs_take k (suc n) (x ∷ xs) = by_test (x == k) (occurs_take k n xs)
  where
    by_test : (b : Bool) → occurs k (take n xs) ≤ occurs k xs
        → (if b then suc (occurs k (take n xs)) else occurs k (take n xs)) ≤
        (if b then suc (occurs k xs) else occurs k xs)
    by_test true again = omega (arith, again)
    by_test false again = again

occurs_more : (k : ℕ) (xs : List ℕ) (t : ℕ) → t < length xs
    → occurs k (take (t + 1) xs) ≡ occurs k (take t xs) + one_where (get_or xs t 0 == k)
occurs_more k xs t within =
    ap (occurs k) (take_more xs t 0 within) ∙ occurs_push k (take t xs) (get_or xs t 0)
    ∙ ap (λ n. occurs k (take t xs) + n) (by_test (get_or xs t 0 == k))
  where
    by_test : (b : Bool) → (if b then 1 else 0) ≡ one_where b
    by_test true = refl
    by_test false = refl

-- the next waiter's count isn't 0
pub some_left : (xs : List ℕ) (t n m : ℕ) → t < length xs → n + occurs (get_or xs t 0) (take t xs) ≡ m
    → occurs (get_or xs t 0) xs ≤ m → 0 < n
some_left xs t n m within so_far all =
    let w : ℕ = get_or xs t 0 in
    let one : one_where (w == w) ≡ 1 = ap one_where (eq-eqb w w refl) in
    omega (arith, so_far, all, occurs_take w (t + 1) xs, occurs_more w xs t within, one)

pub released_more : (xs counts after : List ℕ) (t k m : ℕ) → t < length xs → get_or xs t 0 < length counts
    → 0 < slice_index counts (get_or xs t 0)
    → after ≡ slice_set counts (get_or xs t 0) (slice_index counts (get_or xs t 0) - 1)
    → slice_index counts k + occurs k (take t xs) ≡ m → slice_index after k + occurs k (take (t + 1) xs) ≡ m
released_more xs counts after t k m within here some is so_far = from_cases (cases_eq w k)
  where
    w : ℕ
    w = get_or xs t 0

    from_cases : (w ≡ k) ⊎ (w ≡ k → ⊥) → slice_index after k + occurs k (take (t + 1) xs) ≡ m
    from_cases (inl same) =
        let one : one_where (w == k) ≡ 1 = ap one_where (eq-eqb w k same) in
        let less : slice_index after k ≡ slice_index counts w - 1 =
        ap (λ ns. slice_index ns k) is ∙ ap (slice_index (slice_set counts w (slice_index counts w - 1))) (sym same)
        ∙ get_or-set_same counts w (slice_index counts w - 1) 0 here in
        let was : slice_index counts w ≡ slice_index counts k = ap (slice_index counts) same in
        omega (arith, so_far, some, less, was, one, occurs_more k xs t within)
    from_cases (inr other) =
        let none : one_where (w == k) ≡ 0 = ap one_where (ne_eqb w k other) in
        let stays : slice_index after k ≡ slice_index counts k =
        ap (λ ns. slice_index ns k) is ∙ get_or-set_other counts w k (slice_index counts w - 1) 0
        (λ e. other (sym e)) in
        omega (arith, so_far, stays, none, occurs_more k xs t within)

-- ---- a value that is placed

-- a flag that is set, or isn't there, stays
pub flag_stays : (flags : List Bool) (i : ℕ) → ((i < length flags) × (is_at flags i ≡ false) → ⊥)
    → slice_set flags i true ≡ flags
flag_stays flags i never = from_cases (cases_order i (length flags))
  where
    by_flag : (b : Bool) → is_at flags i ≡ b → i < length flags → slice_set flags i true ≡ flags
    by_flag true e within = ap (slice_set flags i) (sym e) ∙ set-get_or flags i false
    by_flag false e within = absurd (never (within, e))

    from_cases : (i ≡ length flags) ⊎ ((i < length flags) ⊎ (length flags < i)) → slice_set flags i true ≡ flags
    from_cases (inl same) = set_past flags i true (omega (arith, same))
    from_cases (inr (inl within)) = by_flag (is_at flags i) refl within
    from_cases (inr (inr past)) = set_past flags i true (omega (arith, past))

-- each time that it was waited for counts one less
unplaced_set : (flags : List Bool) (j : ℕ) (ds : List ℕ) → j < length flags → is_at flags j ≡ false
    → unplaced flags ds ≡ unplaced (slice_set flags j true) ds + occurs j ds
unplaced_set flags j [] within open_ = omega arith
unplaced_set flags j (d ∷ ds) within open_ = from_cases (cases_eq d j) (unplaced_set flags j ds within open_)
  where
    after : List Bool
    after = slice_set flags j true

    Sum : Bool → Bool → Bool → Type 0
    Sum a b e =
        (if a then unplaced flags ds else suc (unplaced flags ds))
        ≡ (if b then unplaced after ds else suc (unplaced after ds)) + (if e then suc (occurs j ds) else occurs j ds)

    by_tests : (a b e : Bool) → is_at flags d ≡ a → is_at after d ≡ b → (d == j) ≡ e → Sum a b e
        → Sum (is_at flags d) (is_at after d) (d == j)
    by_tests a b e p q r h =
        subst (λ x. Sum x (is_at after d) (d == j)) (sym p)
        (subst (λ x. Sum a x (d == j)) (sym q) (subst (λ x. Sum a b x) (sym r) h))

    both : (a : Bool) → unplaced flags ds ≡ unplaced after ds + occurs j ds → Sum a a false
    both true again = again
    both false again = omega (arith, again)

    from_cases : (d ≡ j) ⊎ (d ≡ j → ⊥) → unplaced flags ds ≡ unplaced after ds + occurs j ds
        → Sum (is_at flags d) (is_at after d) (d == j)
    from_cases (inl same) again =
        by_tests false true true (ap (is_at flags) same ∙ open_)
        (ap (is_at after) same ∙ get_or-set_same flags j true false within) (eq-eqb d j same) (omega (arith, again))
    from_cases (inr other) again =
        by_tests (is_at flags d) (is_at flags d) false refl (get_or-set_other flags j d true false other)
        (ne_eqb d j other)
        (both (is_at flags d) again)

-- who waits for it has a count of at least as often
none_occurs : (k n : ℕ) (xs : List ℕ) → All (λ x. x < n) xs → n ≤ k → occurs k xs ≡ 0
none_occurs k n [] all past = refl
none_occurs k n (x ∷ xs) all past =
    ap (λ b. if b then suc (occurs k xs) else occurs k xs)
    (ne_eqb x k (λ e. absurd (omega (arith, e, past, all zero zero (omega arith)))))
    ∙ none_occurs k n xs (λ i d lt. all (suc i) d (omega (arith, lt))) past

abbrev Counted : List Value → List (List ℕ) → List Bool → List ℕ → ℕ → ℕ → Value → Type 0
Counted values lists flags counts j k v =
    slice_index counts k ≡ unplaced (slice_set flags j true) (dependencies values v) + occurs k (waiters_of lists j)

counted_at : (values : List Value) (lists : List (List ℕ)) (flags : List Bool) (counts : List ℕ) (ready : BTreeSet ℕ)
    (j k : ℕ) (v : Value)
    → IsWaiting values lists flags counts ready → j < length flags → is_at flags j ≡ false → At values k v
    → Counted values lists flags counts j k v
counted_at values lists flags counts ready j k v state within open_ at =
    state.counted.exact k v at ∙ unplaced_set flags j (dependencies values v) within open_
    ∙ ap (λ n. unplaced (slice_set flags j true) (dependencies values v) + n)
    (sym (state.waiters.exact j k v (omega (arith, within, state.flagged)) at))

none_there : (values : List Value) (k : ℕ) → slice_get values k ≡ None → length values ≤ k
none_there [] k e = omega arith
none_there (v ∷ values) zero e = cc
none_there (v ∷ values) (suc k) e = omega (arith, none_there values k e)

pub enough : (values : List Value) (lists : List (List ℕ)) (flags : List Bool) (counts : List ℕ) (ready : BTreeSet ℕ)
    (j : ℕ)
    → IsWaiting values lists flags counts ready → j < length flags → is_at flags j ≡ false
    → All (λ x. x < length lists) (waiters_of lists j)
    → (k : ℕ) → occurs k (waiters_of lists j) ≤ slice_index counts k
enough values lists flags counts ready j state within open_ all k = go (slice_get values k) refl
  where
    go : (o : Option Value) → slice_get values k ≡ o → occurs k (waiters_of lists j) ≤ slice_index counts k
    go (Some v) at = omega (arith, counted_at values lists flags counts ready j k v state within open_ at)
    go None at =
        omega (
          arith,
          none_occurs k (length lists) (waiters_of lists j) all
              (omega (arith, none_there values k at, state.waiters.sized)),
        )

-- what is still to be placed, behind a value more
pub placed_waiting : (values : List Value) (lists : List (List ℕ)) (flags after : List Bool) (counts left : List ℕ)
    (ready set : BTreeSet ℕ) (j : ℕ)
    → IsWaiting values lists flags counts ready → j < length flags → is_at flags j ≡ false
    → after ≡ slice_set flags j true
    → length left ≡ length counts
    → ((k : ℕ) → slice_index left k + occurs k (waiters_of lists j) ≡ slice_index counts k)
    → AreReady values after left set → IsWaiting values lists after left set
placed_waiting values lists flags after counts left ready set j state within open_ is sized told are = record {
  flagged = ap length is ∙ length-set flags j true ∙ state.flagged;
  waiters = state.waiters;
  counted = record { sized = sized ∙ state.counted.sized; exact = exact };
  ready = are;
}
  where
    exact : (k : ℕ) (v : Value) → slice_get values k ≡ Some v
        → slice_index left k ≡ unplaced after (dependencies values v)
    exact k v at =
        let counted : Counted values lists flags counts j k v =
        counted_at values lists flags counts ready j k v state within open_ at in
        let same : unplaced after (dependencies values v) ≡ unplaced (slice_set flags j true) (dependencies values v) =
        ap (λ bs. unplaced bs (dependencies values v)) is in
        omega (arith, told k, counted, same)

-- ---- the first that may come next

none_unplaced : (flags : List Bool) (ds : List ℕ) → (unplaced flags ds == 0) ≡ list_all (is_at flags) ds
none_unplaced flags [] = eq-eqb 0 0 refl
none_unplaced flags (d ∷ ds) = by_test (is_at flags d) (none_unplaced flags ds)
  where
    by_test : (b : Bool) → (unplaced flags ds == 0) ≡ list_all (is_at flags) ds
        → ((if b then unplaced flags ds else suc (unplaced flags ds)) == 0) ≡ (b && list_all (is_at flags) ds)
    by_test true again = again
    by_test false again = ne_eqb (suc (unplaced flags ds)) 0 (λ e. absurd (omega (arith, e)))

start_is : (values : List Value) (flags : List Bool) (counts : List ℕ) (k : ℕ) (v : Value)
    → AreCounts values flags counts
    → At values k v → may_start values flags counts k ≡ may_come values flags k v
start_is values flags counts k v counted at =
    ap (starts flags counts k) at
    ∙ ap (λ n. is_open flags k v && (n == 0)) (counted.exact k v at)
    ∙ ap (λ b. is_open flags k v && b) (none_unplaced flags (dependencies values v))

next_none : (block : List Value) (flags : List Bool) (k : ℕ) (values : List Value)
    → ((m : ℕ) (v : Value) → At values m v → may_come block flags (k + m) v ≡ false)
    → next_from block flags k values ≡ None
next_none block flags k [] none = refl
next_none block flags k (v ∷ values) none =
    let n : k + zero ≡ k = omega arith in
    ap (λ b. if b then Some k else next_from block flags (suc k) values)
    (subst (λ m. may_come block flags m v ≡ false) n (none zero v refl))
    ∙ next_none block flags (suc k) values
    (λ m u at. let n : k + suc m ≡ suc k + m = omega arith in subst (λ x. may_come block flags x u ≡ false) n
    (none (suc m) u at))

next_is : (block : List Value) (flags : List Bool) (k : ℕ) (values : List Value) (i j : ℕ) (x : Value) → i ≡ k + j
    → At values j x
    → may_come block flags i x ≡ true
    → ((m : ℕ) (v : Value) → At values m v → k + m < i → may_come block flags (k + m) v ≡ false)
    → next_from block flags k values ≡ Some i
next_is block flags k [] i j x is at may before = cc
next_is block flags k (v ∷ values) i zero x is at may before =
    let same : v ≡ x = cc in
    let n : i ≡ k = omega (arith, is) in
    ap (λ b. if b then Some k else next_from block flags (suc k) values)
    (ap (may_come block flags k) same ∙ ap (λ m. may_come block flags m x) (sym n) ∙ may) ∙ ap Some (sym n)
next_is block flags k (v ∷ values) i (suc j) x is at may before =
    let n : k + zero ≡ k = omega arith in
    ap (λ b. if b then Some k else next_from block flags (suc k) values)
    (subst (λ m. may_come block flags m v ≡ false) n (before zero v refl (omega (arith, is))))
    ∙ next_is block flags (suc k) values i j x (omega (arith, is)) at may
    (λ m u there lt. let n : k + suc m ≡ suc k + m = omega arith in
    subst (λ y. may_come block flags y u ≡ false) n (before (suc m) u there (omega (arith, lt))))

pub first_is_next : (values : List Value) (lists : List (List ℕ)) (flags : List Bool) (counts : List ℕ)
    (ready : BTreeSet ℕ) (o : Option ℕ)
    → IsWaiting values lists flags counts ready → IsFirst ready o → next_from values flags 0 values ≡ o
first_is_next values lists flags counts ready None state none =
    next_none values flags 0 values
    (λ m v at. let n : 0 + m ≡ m = omega arith in
    ap (λ k. may_come values flags k v) n ∙ sym (start_is values flags counts m v state.counted at)
    ∙ sym (state.ready m) ∙ none m)
first_is_next values lists flags counts ready (Some i) state (has, least) = go (slice_get values i) refl
  where
    may : may_start values flags counts i ≡ true
    may = sym (state.ready i) ∙ has

    go : (p : Option Value) → slice_get values i ≡ p → next_from values flags 0 values ≡ Some i
    go None at = let e : false ≡ true = sym (ap (starts flags counts i) at) ∙ may in cc
    go (Some x) at =
        next_is values flags 0 values i i x (omega arith) at
        (sym (start_is values flags counts i x state.counted at) ∙ may)
        (λ m v there lt. false_from_ne_true (may_come values flags (0 + m) v) (λ e.
        let n : 0 + m ≡ m = omega arith in
        let starts_there : contains nat_cmp ready m ≡ true =
        state.ready m ∙ start_is values flags counts m v state.counted there
        ∙ ap (λ k. may_come values flags k v) (sym n) ∙ e in
        absurd (omega (arith, lt, least m starts_there))))

-- ---- the counts at the beginning

pub counts_begin : (values : List Value) (flags : List Bool) (counts : List ℕ)
    → counts ≡ map (λ v. unplaced flags (dependencies values v)) values → AreCounts values flags counts
counts_begin values flags counts is = record {
  sized = ap length is ∙ length-map values (λ (v : Value). unplaced flags (dependencies values v));
  exact = λ k v at.
      ap (λ ns. slice_index ns k) is ∙ get_or-map (λ (u : Value). unplaced flags (dependencies values u)) values k v 0
      (slice_get_within values k v at)
      ∙ ap (λ (u : Value). unplaced flags (dependencies values u)) (get_or_from_slice_get values k v v at);
}
