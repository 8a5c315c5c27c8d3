-- The lists of who waits for whom, and what they count.
use Rattle.std.proofs.Common.{◌≡◌, ℕ, zero, suc, ◌+◌, ◌==◌, ◌<◌, ◌≤◌, ◌⊎◌, inl, inr, Bool, true, false, nat_lt}
use Rattle.std.proofs.Common.{if◌then◌else◌, List, [], ◌∷◌, ◌++◌, length, get_or, replicate, filter_map}
use Rattle.std.proofs.Common.{slice_get, Option, None, Some, refl, subst, sym, ap, ◌∙◌, arith}
use Rattle.std.specs.List.{All, cons_option}
use Rattle.std.proofs.lemmas.Bool.{cases_eq, cases_order, eq-eqb, le-ltb, lt-ltb, ne_eqb}
use Rattle.std.proofs.lemmas.List.{get_or-replicate, get_or-set_other, get_or-set_same, length-set}
use Rattle.std.proofs.lemmas.List.Elements.{All-append}
use Rattle.std.proofs.lemmas.Option.{slice_get_within}
use Rattle.gossa_base.specs.declared.ids.ValueId.{ValueId}
use Rattle.ssa_ir.specs.declared.func.Value.{Value}
use Rattle.ssa_ir.specs.FirstOrder.{same_value}
use Rattle.ssa_ir.specs.OpKinds.{changes_memory}
use Rattle.block_order.specs.tables.Dependencies.{dependencies, index_of, reader_indexes, reads_memory_of}
use Rattle.gossa_base.specs.Lists.{indexes_from}
use Rattle.block_order.specs.tables.Waiting.{AreWaiters, occurs, waiters_of, with_waiter, with_waiters}
use Rattle.gossa_base.proofs.ListPlaces.{At, first_at, same_at}

-- ---- what is waited for stands in the block

args_within : (block : List Value) (args : List ValueId)
    → All (λ k. k < length block) (filter_map (index_of block) args)
args_within block [] = λ k d lt. absurd (omega (arith, lt))
args_within block (a ∷ args) = go (index_of block a) refl (args_within block args)
  where
    rest : List ℕ
    rest = filter_map (index_of block) args

    found : (n : ℕ) → index_of block a ≡ Some n → n < length block
    found n e =
        let at : (i : ℕ) × (x : Value) × (n ≡ 0 + i) × At block i x × (same_value x.id a ≡ true) =
        first_at (λ v. same_value v.id a) 0 block n e in
        omega (arith, at.2, slice_get_within block at.0 at.1 at.3)

    put : (n : ℕ) → n < length block → All (λ k. k < length block) rest → All (λ k. k < length block) (n ∷ rest)
    put n lt all zero d within = lt
    put n lt all (suc k) d within = all k d (omega (arith, within))

    go : (o : Option ℕ) → index_of block a ≡ o → All (λ k. k < length block) rest
        → All (λ k. k < length block) (cons_option (index_of block a) rest)
    go None e all = subst (λ p. All (λ k. k < length block) (cons_option p rest)) (sym e) all
    go (Some n) e all = subst (λ p. All (λ k. k < length block) (cons_option p rest)) (sym e) (put n (found n e) all)

indexes_within : {X : Type 0} (test : X → Bool) (k : ℕ) (xs : List X)
    → All (λ i. i < k + length xs) (indexes_from test k xs)
indexes_within test k [] = λ i d lt. absurd (omega (arith, lt))
indexes_within {X} test k (x ∷ xs) = by_test (test x) (indexes_within test (suc k) xs)
  where
    by_test : (b : Bool) → All (λ i. i < suc k + length xs) (indexes_from test (suc k) xs)
        → All (λ i. i < k + suc (length xs))
        (if b then k ∷ indexes_from test (suc k) xs else indexes_from test (suc k) xs)
    by_test true all zero d within = omega arith
    by_test true all (suc i) d within = omega (arith, all i d (omega (arith, within)))
    by_test false all i d within = omega (arith, all i d within)

pub dependencies_within : (block : List Value) (v : Value) → All (λ k. k < length block) (dependencies block v)
dependencies_within block v =
    All-append (λ k. k < length block) (filter_map (index_of block) v.args)
    (if changes_memory v.op then reader_indexes block v else [])
    (args_within block v.args) (by_test (changes_memory v.op))
  where
    by_test : (b : Bool) → All (λ k. k < length block) (if b then reader_indexes block v else [])
    by_test true =
        λ i d lt. let within : get_or (reader_indexes block v) i d < 0 + length block = indexes_within
        (reads_memory_of v) 0 block i d lt in omega (arith, within)
    by_test false = λ k d lt. absurd (omega (arith, lt))

-- ---- how often one waits

pub occurs_push : (k : ℕ) (xs : List ℕ) (x : ℕ) → occurs k (xs ++ x ∷ []) ≡ occurs k xs + (if x == k then 1 else 0)
occurs_push k [] x = by_test (x == k)
  where
    by_test : (b : Bool) → (if b then suc 0 else 0) ≡ 0 + (if b then 1 else 0)
    by_test true = omega arith
    by_test false = omega arith
occurs_push k (y ∷ xs) x = by_test (y == k) (occurs_push k xs x)
  where
    by_test : (b : Bool) → occurs k (xs ++ x ∷ []) ≡ occurs k xs + (if x == k then 1 else 0)
        → (if b then suc (occurs k (xs ++ x ∷ [])) else occurs k (xs ++ x ∷ []))
        ≡ (if b then suc (occurs k xs) else occurs k xs) + (if x == k then 1 else 0)
    by_test true again = omega (arith, again)
    by_test false again = again

-- one more that waits for d
put_occurs : (lists : List (List ℕ)) (waiter d j k : ℕ) → j < length lists
    → occurs k (waiters_of (with_waiter lists waiter d) j)
    ≡ occurs k (waiters_of lists j) + (if d == j then (if waiter == k then 1 else 0) else 0)
put_occurs lists waiter d j k within = from_cases (cases_eq d j)
  where
    one : ℕ
    one = if waiter == k then 1 else 0

    from_cases : (d ≡ j) ⊎ (d ≡ j → ⊥) → occurs k (waiters_of (with_waiter lists waiter d) j)
        ≡ occurs k (waiters_of lists j) + (if d == j then one else 0)
    from_cases (inl same) =
        ap (λ x. occurs k (waiters_of (with_waiter lists waiter x) j)) same
        ∙ ap (occurs k) (get_or-set_same lists j (waiters_of lists j ++ waiter ∷ []) [] within)
        ∙ occurs_push k (waiters_of lists j) waiter
        ∙ sym (ap (λ b. occurs k (waiters_of lists j) + (if b then one else 0)) (eq-eqb d j same))
    from_cases (inr other) =
        let none : occurs k (waiters_of lists j) ≡ occurs k (waiters_of lists j) + 0 = omega arith in
        ap (occurs k) (get_or-set_other lists d j (waiters_of lists d ++ waiter ∷ []) [] (λ e. other (sym e)))
        ∙ none
        ∙ sym (ap (λ b. occurs k (waiters_of lists j) + (if b then one else 0)) (ne_eqb d j other))

-- one that waits for all of these
pub put_all_occurs : (lists : List (List ℕ)) (awaited : List ℕ) (waiter j k : ℕ) → j < length lists
    → occurs k (waiters_of (with_waiters lists awaited waiter) j)
    ≡ occurs k (waiters_of lists j) + (if waiter == k then occurs j awaited else 0)
put_all_occurs lists [] waiter j k within = by_test (waiter == k)
  where
    by_test : (b : Bool) → occurs k (waiters_of lists j) ≡ occurs k (waiters_of lists j) + (if b then 0 else 0)
    by_test true = omega arith
    by_test false = omega arith
put_all_occurs lists (d ∷ awaited) waiter j k within =
    put_all_occurs (with_waiter lists waiter d) awaited waiter j k
    (omega (arith, within, length-set lists d (waiters_of lists d ++ waiter ∷ [])))
    ∙ ap (λ n. n + (if waiter == k then occurs j awaited else 0)) (put_occurs lists waiter d j k within)
    ∙ by_tests (d == j) (waiter == k)
  where
    by_tests : (a b : Bool)
        → (occurs k (waiters_of lists j) + (if a then (if b then 1 else 0) else 0)) +
        (if b then occurs j awaited else 0)
        ≡ occurs k (waiters_of lists j) + (if b then (if a then suc (occurs j awaited) else occurs j awaited) else 0)
    by_tests true true = omega arith
    by_tests true false = omega arith
    by_tests false true = omega arith
    by_tests false false = omega arith

-- ---- the values so far

-- the values below i wait for what they wait for
abbrev pub WaitSoFar : List Value → (lists : List (List ℕ)) → ℕ → Type 0
WaitSoFar values lists i =
    (j k : ℕ) (v : Value) → j < length values → slice_get values k ≡ Some v
    → occurs k (waiters_of lists j) ≡ (if nat_lt k i then occurs j (dependencies values v) else 0)

pub none_wait : (values : List Value) (lists : List (List ℕ)) → lists ≡ replicate (length values) []
    → WaitSoFar values lists 0
none_wait values lists is j k v within at =
    ap (λ ls. occurs k (waiters_of ls j)) is ∙ ap (occurs k) (get_or-replicate (length values) j [] [] within)
    ∙ sym (ap (λ b. if b then occurs j (dependencies values v) else 0) (le-ltb k 0 (omega arith)))

pub wait_more : (values : List Value) (lists after : List (List ℕ)) (i : ℕ) (x : Value) → length lists ≡ length values
    → slice_get values i ≡ Some x → after ≡ with_waiters lists (dependencies values x) i → WaitSoFar values lists i
    → WaitSoFar values after (i + 1)
wait_more values lists after i x sized here is so_far j k v within at =
    ap (λ ls. occurs k (waiters_of ls j)) is
    ∙ put_all_occurs lists (dependencies values x) i j k (omega (arith, within, sized))
    ∙ ap (λ n. n + (if i == k then occurs j (dependencies values x) else 0)) (so_far j k v within at)
    ∙ from_cases (cases_order k i)
  where
    Goal : Type 0
    Goal =
        (if nat_lt k i then occurs j (dependencies values v) else 0) +
        (if i == k then occurs j (dependencies values x) else 0)
        ≡ (if nat_lt k (i + 1) then occurs j (dependencies values v) else 0)

    sums : (a b c : Bool) (n m : ℕ) → nat_lt k i ≡ a → (i == k) ≡ b → nat_lt k (i + 1) ≡ c
        → (if a then n else 0) + (if b then m else 0) ≡ (if c then n else 0)
        → (if nat_lt k i then n else 0) + (if i == k then m else 0) ≡ (if nat_lt k (i + 1) then n else 0)
    sums a b c n m p q r h =
        (λ t. (if p t then n else 0) + (if q t then m else 0)) ∙ h ∙ sym (ap (λ t. if t then n else 0) r)

    n : ℕ
    n = occurs j (dependencies values v)

    m : ℕ
    m = occurs j (dependencies values x)

    from_cases : (k ≡ i) ⊎ ((k < i) ⊎ (i < k)) → Goal
    from_cases (inl same) =
        let both : x ≡ v = same_at values k x v (ap (slice_get values) same ∙ here) at in
        let equal : m ≡ n = ap (λ y. occurs j (dependencies values y)) both in
        sums false true true n m (le-ltb k i (omega (arith, same))) (eq-eqb i k (sym same))
        (lt-ltb k (i + 1) (omega (arith, same)))
        (omega (arith, equal))
    from_cases (inr (inl before)) =
        sums true false true n m (lt-ltb k i before) (ne_eqb i k (λ e. absurd (omega (arith, e, before))))
        (lt-ltb k (i + 1) (omega (arith, before)))
        (omega arith)
    from_cases (inr (inr behind)) =
        sums false false false n m (le-ltb k i (omega (arith, behind)))
        (ne_eqb i k (λ e. absurd (omega (arith, e, behind)))) (le-ltb k (i + 1) (omega (arith, behind)))
        (omega arith)

pub all_wait : (values : List Value) (lists : List (List ℕ)) (i : ℕ) → length lists ≡ length values → length values ≤ i
    → WaitSoFar values lists i → AreWaiters values lists
all_wait values lists i sized all so_far = record {
  sized = sized;
  exact = λ j k v within at.
      so_far j k v within at
      ∙ ap (λ b. if b then occurs j (dependencies values v) else 0)
      (lt-ltb k i (omega (arith, all, slice_get_within values k v at)));
}
