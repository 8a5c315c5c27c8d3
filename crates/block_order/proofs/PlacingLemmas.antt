-- An item more: the first value that may come next by index is the next one of the first order.
use Rattle.std.proofs.Common.{◌≡◌, ◌≢◌, ℕ, zero, suc, ◌+◌, ◌==◌, ◌<◌, Bool, true, false, not, ◌&&◌, ◌||◌, ◌⊎◌, inl, inr}
use Rattle.std.proofs.Common.{int_lt, if◌then◌else◌, List, [], ◌∷◌, ◌++◌, length, drop, get_or, filter}
use Rattle.std.proofs.Common.{slice_get, slice_set, map, Option, None, Some, refl, sym, subst, ap, ◌∙◌, arith}
use Rattle.std.specs.List.{All, cons_option, list_all, list_any}
use Rattle.std.proofs.lemmas.Bool.{and_parts, cases_eq, eqb-true, eq-eqb, ne_eqb, or_cases}
use Rattle.std.proofs.lemmas.Bool.Decides.{nat_tests}
use Rattle.std.proofs.lemmas.List.{append-nil, append_assoc, drop_more, flat_map_more, get_or-set_other}
use Rattle.std.proofs.lemmas.List.{get_or-set_same, length-map, length-set}
use Rattle.std.proofs.lemmas.List.Elements.{All-push}
use Rattle.std.proofs.lemmas.List.Folds.{list_any-append}
use Rattle.std.proofs.lemmas.Option.{none-some, slice_get-get_or, slice_get_within, some_pair_parts}
use Rattle.gossa_base.specs.declared.ids.ValueId.{ValueId}
use Rattle.ssa_ir.specs.declared.op.Op.{Op}
use Rattle.ssa_ir.specs.declared.op.Op.TheVariants.{Phi}
use Rattle.ssa_ir.specs.declared.func.Value.{Value}
use Rattle.ssa_ir.specs.FirstOrder as order
use Rattle.ssa_ir.specs.FirstOrder.{by_number, first_order, followers_of, has_value, is_ready, next_then, placed_next}
use Rattle.ssa_ir.specs.FirstOrder.{put_by_number, ready_or_later, same_value, selects, split_ready}
use Rattle.ssa_ir.specs.OpKinds.{is_call, is_follower, is_phi}
use Rattle.block_order.specs.declared.order.Item.{Item}
use Rattle.block_order.specs.Items.{AreInFirstOrder, IsItem, item_values, values_at}
use Rattle.block_order.specs.tables.Dependencies.{all_placed, is_at}
use Rattle.block_order.specs.tables.Placing.{Begins, is_open, is_other, may_come, next_from, open_from, place_all}
use Rattle.block_order.specs.tables.Placing.{place_item}
use Rattle.block_order.specs.tables.Placing.{values_of_items}
use Rattle.block_order.specs.Apart.{AreApart, IsApart}
use Rattle.block_order.proofs.DependencyLemmas.{Flagged, ready_by_index}
use Rattle.gossa_base.proofs.ListPlaces.{At, same_at}

-- ---- the first that may come next

-- flags that differ at one index alone, which isn't here, leave the same values open
open_same : (flags after : List Bool) (k : ℕ) (values : List Value)
    → ((j : ℕ) (v : Value) → At values j v → is_open after (k + j) v ≡ is_open flags (k + j) v)
    → open_from after k values ≡ open_from flags k values
open_same flags after k [] same = refl
open_same flags after k (v ∷ values) same =
    ap (λ b. if b then v ∷ open_from after (suc k) values else open_from after (suc k) values) here
    ∙ ap (λ rest. if is_open flags k v then v ∷ rest else rest) (open_same flags after (suc k) values later)
  where
    here : is_open after k v ≡ is_open flags k v
    here = let n : k + zero ≡ k = omega arith in
        ap (λ m. is_open after m v) (sym n) ∙ same zero v refl ∙ ap (λ m. is_open flags m v) n

    later : (j : ℕ) (u : Value) → At values j u → is_open after (suc k + j) u ≡ is_open flags (suc k + j) u
    later j u at = let n : k + suc j ≡ suc k + j = omega arith in
        ap (λ m. is_open after m u) (sym n) ∙ same (suc j) u at ∙ ap (λ m. is_open flags m u) n

-- where none may come next, no open value is ready
pub none_next : (block placed : List Value) (flags : List Bool) (k : ℕ) (values : List Value)
    → Flagged block placed flags
    → next_from block flags k values ≡ None → split_ready block placed (open_from flags k values) ≡ None
none_next block placed flags k [] flagged none = refl
none_next block placed flags k (v ∷ values) flagged none =
    go (is_open flags k v) refl (none_next block placed flags (suc k) values flagged)
  where
    rest : List Value
    rest = open_from flags (suc k) values

    go : (b : Bool) → is_open flags k v ≡ b
        → (next_from block flags (suc k) values ≡ None → split_ready block placed rest ≡ None)
        → split_ready block placed (open_from flags k (v ∷ values)) ≡ None
    go false e again =
        ap (λ b. split_ready block placed (if b then v ∷ rest else rest)) e
        ∙ again (sym (ap (λ b. if (b && all_placed block flags v) then Some k else next_from block flags (suc k) values)
        e) ∙ none)
    go true e again =
        let tested : (if all_placed block flags v then Some k else next_from block flags (suc k) values) ≡ None =
        sym (ap (λ b. if (b && all_placed block flags v) then Some k else next_from block flags (suc k) values) e)
        ∙ none in
        ap (λ b. split_ready block placed (if b then v ∷ rest else rest)) e
        ∙ ap (λ b. ready_or_later v rest b (split_ready block placed rest))
        (ready_by_index block placed flags v flagged)
        ∙ by_test (all_placed block flags v) tested again
      where
        by_test : (b : Bool) → (if b then Some k else next_from block flags (suc k) values) ≡ None
            → (next_from block flags (suc k) values ≡ None → split_ready block placed rest ≡ None)
            → ready_or_later v rest b (split_ready block placed rest) ≡ None
        by_test true t again = cc
        by_test false t again = ap (ready_or_later v rest false) (again t)

-- the flags as the placing of item i leaves them: one open value fewer
abbrev Closes : List Bool → List Bool → ℕ → ℕ → List Value → Type 0
Closes flags after i k values =
    (m : ℕ) (u : Value) → At values m u → is_open after (k + m) u ≡ (is_open flags (k + m) u && not ((k + m) == i))

abbrev Next : (block placed : List Value) → (flags after : List Bool) → (i k : ℕ) → List Value → Type 0
Next block placed flags after i k values =
    (j : ℕ) × (v : Value) × (i ≡ k + j) × At values j v
    × (split_ready block placed (open_from flags k values) ≡ Some (v, open_from after k values))

and_true : (b : Bool) → (b && true) ≡ b
and_true true = refl
and_true false = refl

closes_later : (flags after : List Bool) (i k : ℕ) (v : Value) (values : List Value)
    → Closes flags after i k (v ∷ values)
    → Closes flags after i (suc k) values
closes_later flags after i k v values closes m u at =
    let n : k + suc m ≡ suc k + m = omega arith in
    subst (λ x. is_open after x u ≡ (is_open flags x u && not (x == i))) n (closes (suc m) u at)

closes_here : (flags after : List Bool) (i k : ℕ) (v : Value) (values : List Value)
    → Closes flags after i k (v ∷ values)
    → is_open after k v ≡ (is_open flags k v && not (k == i))
closes_here flags after i k v values closes =
    let n : k + zero ≡ k = omega arith in
    subst (λ x. is_open after x v ≡ (is_open flags x v && not (x == i))) n (closes zero v refl)

-- the first that may come next is the first open value that is ready
pub some_next : (block placed : List Value) (flags after : List Bool) (i k : ℕ) (values : List Value)
    → Flagged block placed flags
    → next_from block flags k values ≡ Some i → Closes flags after i k values → Next block placed flags after i k values
some_next block placed flags after i k [] flagged next closes = cc
some_next block placed flags after i k (v ∷ values) flagged next closes =
    by_open (is_open flags k v) refl
    (λ found. some_next block placed flags after i (suc k) values flagged found
    (closes_later flags after i k v values closes))
  where
    rest : List Value
    rest = open_from flags (suc k) values

    kept : List Value
    kept = open_from after (suc k) values

    Later : Type 0
    Later = next_from block flags (suc k) values ≡ Some i → Next block placed flags after i (suc k) values

    after_here : is_open after k v ≡ (is_open flags k v && not (k == i))
    after_here = closes_here flags after i k v values closes

    from_closed : is_open flags k v ≡ false → Next block placed flags after i (suc k) values
        → Next block placed flags after i k (v ∷ values)
    from_closed e (j, u, is, at, split) = (
      suc j,
      u,
      omega (arith, is),
      at,
      ap (λ b. split_ready block placed (if b then v ∷ rest else rest)) e ∙ split
          ∙ ap (λ b. Some (u, if b then v ∷ kept else kept)) (sym (after_here ∙ ap (λ b. b && not (k == i)) e)),
    )

    from_waiting : is_open flags k v ≡ true → all_placed block flags v ≡ false
        → Next block placed flags after i (suc k) values
        → Next block placed flags after i k (v ∷ values)
    from_waiting e t (j, u, is, at, split) =
        let other : (k == i) ≡ false = ne_eqb k i (λ same. absurd (omega (arith, same, is))) in
        let stays : is_open after k v ≡ true = after_here ∙ (λ x. e x && not (other x)) in (
          suc j,
          u,
          omega (arith, is),
          at,
          ap (λ b. split_ready block placed (if b then v ∷ rest else rest)) e
              ∙ ap (λ b. ready_or_later v rest b (split_ready block placed rest))
              (ready_by_index block placed flags v flagged ∙ t)
              ∙ ap (ready_or_later v rest false) split
              ∙ ap (λ b. Some (u, if b then v ∷ kept else kept)) (sym stays),
        )

    from_ready : is_open flags k v ≡ true → all_placed block flags v ≡ true → k ≡ i
        → Next block placed flags after i k (v ∷ values)
    from_ready e t same =
        let gone : is_open after k v ≡ false = after_here ∙ (λ x. e x && not (eq-eqb k i same x)) in (
          zero,
          v,
          omega (arith, same),
          refl,
          ap (λ b. split_ready block placed (if b then v ∷ rest else rest)) e
              ∙ ap (λ b. ready_or_later v rest b (split_ready block placed rest))
              (ready_by_index block placed flags v flagged ∙ t)
              ∙ ap (λ xs. Some (v, xs)) (sym (open_same flags after (suc k) values (λ m u at. stays_open m u at)))
              ∙ ap (λ b. Some (v, if b then v ∷ kept else kept)) (sym gone),
        )
      where
        stays_open : (m : ℕ) (u : Value) → At values m u → is_open after (suc k + m) u ≡ is_open flags (suc k + m) u
        stays_open m u at =
            let other : ((suc k + m) == i) ≡ false = ne_eqb (suc k + m) i (λ is. absurd (omega (arith, same, is))) in
            closes_later flags after i k v values closes m u at
            ∙ ap (λ b. is_open flags (suc k + m) u && not b) other ∙ and_true (is_open flags (suc k + m) u)

    by_ready : (b : Bool) → all_placed block flags v ≡ b → is_open flags k v ≡ true
        → (if b then Some k else next_from block flags (suc k) values) ≡ Some i → Later
        → Next block placed flags after i k (v ∷ values)
    by_ready true t e found again = let same : k ≡ i = cc in from_ready e t same
    by_ready false t e found again = from_waiting e t (again found)

    by_open : (b : Bool) → is_open flags k v ≡ b → Later → Next block placed flags after i k (v ∷ values)
    by_open false e again =
        from_closed e (again (sym
        (ap (λ b. if (b && all_placed block flags v) then Some k else next_from block flags (suc k) values) e) ∙ next))
    by_open true e again =
        by_ready (all_placed block flags v) refl e
        (sym (ap (λ b. if (b && all_placed block flags v) then Some k else next_from block flags (suc k) values) e)
        ∙ next) again

pub split_length : (block placed xs : List Value) (v : Value) (ys : List Value)
    → split_ready block placed xs ≡ Some (v, ys)
    → length xs ≡ suc (length ys)
split_length block placed [] v ys h = cc
split_length block placed (x ∷ xs) v ys h =
    by_test (is_ready block placed x) (split_ready block placed xs) refl h
    (λ u zs e. split_length block placed xs u zs e)
  where
    some_snd : (a b : Value) (p q : List Value) → ◌≡◌ {A = Option (Value × List Value)} (Some (a, p)) (Some (b, q))
        → p ≡ q
    some_snd a b p q h = (some_pair_parts a b p q h).1

    by_test : (b : Bool) (later : Option (Value × List Value)) → split_ready block placed xs ≡ later
        → ready_or_later x xs b later ≡ Some (v, ys)
        → ((u : Value) (zs : List Value) → split_ready block placed xs ≡ Some (u, zs) → length xs ≡ suc (length zs))
        → suc (length xs) ≡ suc (length ys)
    by_test true later e h again = let same : xs ≡ ys = some_snd x v xs ys h in ap (λ zs. suc (length zs)) same
    by_test false None e h again = cc
    by_test false (Some (u, zs)) e h again =
        let same : x ∷ zs ≡ ys = some_snd u v (x ∷ zs) ys h in
        ap suc (again u zs e ∙ ap length same)

-- ---- flags

abbrev or_true : (b : Bool) → (b || true) ≡ true
or_true true = refl
or_true false = refl

or_false : (b : Bool) → (b || false) ≡ b
or_false true = refl
or_false false = refl

or_assoc : (a b c : Bool) → ((a || b) || c) ≡ (a || (b || c))
or_assoc true b c = refl
or_assoc false b c = refl

-- a flag that is set
pub flag_set : (flags : List Bool) (i j : ℕ) → j < length flags
    → is_at (slice_set flags i true) j ≡ (is_at flags j || (i == j))
flag_set flags i j within = from_cases (cases_eq i j)
  where
    from_cases : (i ≡ j) ⊎ (i ≡ j → ⊥) → is_at (slice_set flags i true) j ≡ (is_at flags j || (i == j))
    from_cases (inl same) =
        ap (λ k. is_at (slice_set flags k true) j) same ∙ get_or-set_same flags j true false within
        ∙ sym (ap (λ b. is_at flags j || b) (eq-eqb i j same) ∙ or_true (is_at flags j))
    from_cases (inr other) =
        get_or-set_other flags i j true false (λ e. other (sym e))
        ∙ sym (ap (λ b. is_at flags j || b) (ne_eqb i j other) ∙ or_false (is_at flags j))

pub place_all_length : (flags : List Bool) (indexes : List ℕ) → length (place_all flags indexes) ≡ length flags
place_all_length flags [] = refl
place_all_length flags (i ∷ indexes) = place_all_length (slice_set flags i true) indexes ∙ length-set flags i true

-- flags that are set
pub flags_set : (flags : List Bool) (indexes : List ℕ) (j : ℕ) → j < length flags
    → is_at (place_all flags indexes) j ≡ (is_at flags j || list_any (λ i. i == j) indexes)
flags_set flags [] j within = sym (or_false (is_at flags j))
flags_set flags (i ∷ indexes) j within =
    flags_set (slice_set flags i true) indexes j (omega (arith, within, length-set flags i true))
    ∙ ap (λ b. b || list_any (λ k. k == j) indexes) (flag_set flags i j within)
    ∙ or_assoc (is_at flags j) (i == j) (list_any (λ k. k == j) indexes)

-- ---- values of different numbers

number_elsewhere : (n : ℕ) (values : List Value) (j : ℕ) (v : Value) → IsApart n values → At values j v → n ≢ v.id.0
number_elsewhere n [] j v h at = cc
number_elsewhere n (u ∷ values) zero v h at = let same : u ≡ v = cc in subst (λ x. n ≢ x.id.0) same h.0
number_elsewhere n (u ∷ values) (suc j) v h at = number_elsewhere n values j v h.1 at

pub same_place : (values : List Value) (i j : ℕ) (u v : Value) → AreApart values → At values i u → At values j v
    → u.id.0 ≡ v.id.0 → i ≡ j
same_place [] i j u v h here there same = cc
same_place (x ∷ values) zero zero u v h here there same = refl
same_place (x ∷ values) zero (suc j) u v h here there same =
    let is : x ≡ u = cc in
    absurd (number_elsewhere x.id.0 values j v h.0 there (ap (λ (y : Value). y.id.0) is ∙ same))
same_place (x ∷ values) (suc i) zero u v h here there same =
    let is : x ≡ v = cc in
    absurd (number_elsewhere x.id.0 values i u h.0 here (ap (λ (y : Value). y.id.0) is ∙ sym same))
same_place (x ∷ values) (suc i) (suc j) u v h here there same = ap suc (same_place values i j u v h.1 here there same)

same_number : (values : List Value) (i j : ℕ) (u v : Value) → AreApart values → At values i u → At values j v
    → same_value u.id v.id ≡ (i == j)
same_number values i j u v h here there = from_cases (cases_eq i j)
  where
    from_cases : (i ≡ j) ⊎ (i ≡ j → ⊥) → same_value u.id v.id ≡ (i == j)
    from_cases (inl same) =
        let is : u ≡ v = same_at values j u v (subst (λ k. At values k u) same here) there in
        eq-eqb u.id.0 v.id.0 (ap (λ (x : Value). x.id.0) is) ∙ sym (eq-eqb i j same)
    from_cases (inr other) =
        ne_eqb u.id.0 v.id.0 (λ e. other (same_place values i j u v h here there e)) ∙ sym (ne_eqb i j other)

-- a value stands among those at some indexes where its own is one of them
has_at : (block : List Value) (indexes : List ℕ) (j : ℕ) (v : Value) → AreApart block → At block j v
    → has_value (values_at block indexes) v.id ≡ list_any (λ i. i == j) indexes
has_at block [] j v h at = refl
has_at block (i ∷ indexes) j v h at = go (slice_get block i) refl (has_at block indexes j v h at)
  where
    later : Bool
    later = list_any (λ k. k == j) indexes

    go : (o : Option Value) → slice_get block i ≡ o → has_value (values_at block indexes) v.id ≡ later
        → has_value (values_at block (i ∷ indexes)) v.id ≡ ((i == j) || later)
    go None there again =
        let other : (i == j) ≡ false =
        ne_eqb i j (λ same. let e : None ≡ Some v = sym there ∙ ap (slice_get block) same
        ∙ at in absurd (none-some v e)) in
        ap (λ o. has_value (cons_option o (values_at block indexes)) v.id) there ∙ again
        ∙ sym (ap (λ b. b || later) other)
    go (Some u) there again =
        ap (λ o. has_value (cons_option o (values_at block indexes)) v.id) there
        ∙ (λ x. same_number block i j u v h there at x || again x)

-- ---- an item's values

all_put : (test : Value → Bool) (v : Value) (values : List Value)
    → list_all test (put_by_number v values) ≡ (test v && list_all test values)
all_put test v [] = refl
all_put test v (u ∷ values) = by_order (int_lt u.aux v.aux) (all_put test v values)
  where
    swap : (a b c : Bool) → (a && (b && c)) ≡ (b && (a && c))
    swap true true c = refl
    swap true false c = refl
    swap false true c = refl
    swap false false c = refl

    by_order : (b : Bool) → list_all test (put_by_number v values) ≡ (test v && list_all test values)
        → list_all test (if b then (u ∷ put_by_number v values) else (v ∷ u ∷ values))
        ≡ (test v && (test u && list_all test values))
    by_order true rest = ap (λ r. test u && r) rest ∙ swap (test u) (test v) (list_all test values)
    by_order false rest = refl

all_by_number : (test : Value → Bool) (values : List Value) → list_all test (by_number values) ≡ list_all test values
all_by_number test [] = refl
all_by_number test (v ∷ values) =
    all_put test v (by_number values) ∙ ap (λ r. test v && r) (all_by_number test values)

abbrev follows : Value → Bool
follows v = is_follower v.op

selects_follow : (id : ValueId) (values : List Value) → list_all follows (filter (selects id) values) ≡ true
selects_follow id [] = refl
selects_follow id (v ∷ values) =
    by_test (is_follower v.op) refl (list_any (same_value id) v.args) (selects_follow id values)
  where
    rest : List Value
    rest = filter (selects id) values

    by_test : (a : Bool) → is_follower v.op ≡ a → (b : Bool) → list_all follows rest ≡ true
        → list_all follows (if (is_follower v.op && b) then v ∷ rest else rest) ≡ true
    by_test true e true again =
        ap (λ a. list_all follows (if (a && true) then v ∷ rest else rest)) e ∙ (λ x. e x && again x)
    by_test true e false again = ap (λ a. list_all follows (if (a && false) then v ∷ rest else rest)) e ∙ again
    by_test false e b again = ap (λ a. list_all follows (if (a && b) then v ∷ rest else rest)) e ∙ again

followers_follow : (block : List Value) (v : Value) → list_all follows (followers_of block v v.op) ≡ true
followers_follow block v = by_test (is_call v.op)
  where
    by_test : (b : Bool) → list_all follows (if b then by_number (filter (selects v.id) block) else []) ≡ true
    by_test true = all_by_number follows (filter (selects v.id) block) ∙ selects_follow v.id block
    by_test false = refl

-- each value at some indexes passes what all of them pass
passes_at : (test : Value → Bool) (block : List Value) (indexes : List ℕ) (j : ℕ) (v : Value) → At block j v
    → list_all test (values_at block indexes) ≡ true → list_any (λ i. i == j) indexes ≡ true → test v ≡ true
passes_at test block [] j v at all among = cc
passes_at test block (i ∷ indexes) j v at all among =
    go (slice_get block i) refl (or_cases (i == j) (list_any (λ k. k == j) indexes) among)
    (λ a b. passes_at test block indexes j v at a b)
  where
    Later : Type 0
    Later = list_all test (values_at block indexes) ≡ true → list_any (λ k. k == j) indexes ≡ true → test v ≡ true

    go : (o : Option Value) → slice_get block i ≡ o → ((i == j) ≡ true) ⊎ (list_any (λ k. k == j) indexes ≡ true)
        → Later → test v ≡ true
    go None there (inl here) again =
        let e : None ≡ Some v = sym there ∙ ap (slice_get block) (eqb-true i j here) ∙ at in absurd (none-some v e)
    go None there (inr later) again =
        again (sym (ap (λ o. list_all test (cons_option o (values_at block indexes))) there) ∙ all) later
    go (Some u) there (inl here) again =
        let is : u ≡ v = same_at block j u v (sym (ap (slice_get block) (eqb-true i j here)) ∙ there) at in
        let both : (test u ≡ true) × (list_all test (values_at block indexes) ≡ true) =
        and_parts (test u) (list_all test (values_at block indexes))
        (sym (ap (λ o. list_all test (cons_option o (values_at block indexes))) there) ∙ all) in
        sym (ap test is) ∙ both.0
    go (Some u) there (inr later) again =
        let both : (test u ≡ true) × (list_all test (values_at block indexes) ≡ true) =
        and_parts (test u) (list_all test (values_at block indexes))
        (sym (ap (λ o. list_all test (cons_option o (values_at block indexes))) there) ∙ all) in
        again both.1 later

-- the values of an item are those that the definition places together
pub item_is : (block : List Value) (item : Item) (v : Value) → IsItem block item → At block item.value v
    → item_values block item ≡ order.item block v
item_is block item v is at =
    let same : is.value ≡ v = same_at block item.value is.value v is.at at in
    ap (λ o. cons_option o (values_at block item.selects.items)) is.at ∙ ap (λ xs. is.value ∷ xs) is.selects
    ∙ ap (order.item block) same

-- ---- one item more

-- a flag behind an item
after_at : (flags after : List Bool) (item : Item) (j : ℕ) → after ≡ place_item flags item → j < length flags
    → is_at after j ≡ (is_at flags j || list_any (λ i. i == j) (item.value ∷ item.selects.items))
after_at flags after item j is within =
    ap (λ bs. is_at bs j) is ∙ flags_set flags (item.value ∷ item.selects.items) j within

closes_item : (block : List Value) (flags after : List Bool) (item : Item) (v : Value) → length flags ≡ length block
    → IsItem block item → after ≡ place_item flags item → Closes flags after item.value 0 block
closes_item block flags after item v flagged is placed m u at =
    let n : 0 + m ≡ m = omega arith in
    subst (λ k. is_open after k u ≡ (is_open flags k u && not (k == item.value))) (sym n) here
  where
    among : Bool
    among = list_any (λ i. i == m) item.selects.items

    all : list_all follows (values_at block item.selects.items) ≡ true
    all = ap (list_all follows) is.selects ∙ followers_follow block is.value

    flag : is_at after m ≡ (is_at flags m || ((item.value == m) || among))
    flag = after_at flags after item m placed (omega (arith, flagged, slice_get_within block m u at))

    turned : (item.value == m) ≡ (m == item.value)
    turned = grind (arith, nat_tests)

    by_among : (b : Bool) → among ≡ b → is_open after m u ≡ (is_open flags m u && not (m == item.value))
    by_among true e =
        let follower : is_follower u.op ≡ true = passes_at follows block item.selects.items m u at all e in
        ap (λ b. (not b && not (is_phi u.op)) && not (is_at after m)) follower
        ∙ sym (ap (λ b. ((not b && not (is_phi u.op)) && not (is_at flags m)) && not (m == item.value)) follower)
    by_among false e =
        ap (λ b. is_other u && not b)
        (flag ∙ ap (λ b. is_at flags m || ((item.value == m) || b)) e ∙ ap (λ b. is_at flags m || (b || false)) turned)
        ∙ parts (is_other u) (is_at flags m) (m == item.value)
      where
        parts : (o f t : Bool) → (o && not (f || (t || false))) ≡ ((o && not f) && not t)
        parts true true t = refl
        parts true false true = refl
        parts true false false = refl
        parts false f t = refl

    here : is_open after m u ≡ (is_open flags m u && not (m == item.value))
    here = by_among among refl

-- the open values grow fewer
pub fewer : (block : List Value) (items : List Item) (flags after : List Bool) (item : Item) → Begins block items flags
    → IsItem block item → next_from block flags 0 block ≡ Some item.value → after ≡ place_item flags item
    → length (open_from flags 0 block) ≡ suc (length (open_from after 0 block))
fewer block items flags after item begins is next placed =
    from_next (some_next block (values_of_items block items) flags after item.value 0 block begins.placed next
    (closes_item block flags after item is.value begins.flagged is placed))
  where
    from_next : Next block (values_of_items block items) flags after item.value 0 block
        → length (open_from flags 0 block) ≡ suc (length (open_from after 0 block))
    from_next (j, v, at, there, split) =
        split_length block (values_of_items block items) (open_from flags 0 block) v (open_from after 0 block) split

-- the items go on with the one that may come next
pub one_more : (block : List Value) (items : List Item) (flags after : List Bool) (item : Item) → AreApart block
    → Begins block items flags → IsItem block item → next_from block flags 0 block ≡ Some item.value
    → after ≡ place_item flags item
    → Begins block (items ++ item ∷ []) after
one_more block items flags after item apart begins is next placed_is = record {
  each = All-push (IsItem block) items item begins.each is;
  flagged = ap length placed_is ∙ place_all_length flags (item.value ∷ item.selects.items) ∙ begins.flagged;
  placed = placed_after;
  goes_on = from_next (some_next block placed flags after item.value 0 block begins.placed next
      (closes_item block flags after item is.value begins.flagged is placed_is));
}
  where
    placed : List Value
    placed = values_of_items block items

    more : values_of_items block (items ++ item ∷ []) ≡ placed ++ item_values block item
    more = sym (flat_map_more (item_values block) [] items item)

    placed_after : (j : ℕ) (v : Value) → slice_get block j ≡ Some v
        → has_value (values_of_items block (items ++ item ∷ [])) v.id ≡ is_at after j
    placed_after j v at =
        ap (λ vs. has_value vs v.id) more
        ∙ list_any-append (λ (u : Value). same_value u.id v.id) placed (item_values block item)
        ∙ (λ x. begins.placed j v at x || has_at block (item.value ∷ item.selects.items) j v apart at x)
        ∙ sym (after_at flags after item j placed_is (omega (arith, begins.flagged, slice_get_within block j v at)))

    from_next : Next block placed flags after item.value 0 block
        → values_of_items block (items ++ item ∷ [])
        ++ placed_next (length (open_from after 0 block)) block (values_of_items block (items ++ item ∷ []))
        (open_from after 0 block) ≡ first_order block
    from_next (j, v, place, at, split) =
        let there : At block item.value v =
        let n : j ≡ item.value = omega (arith, place) in subst (λ k. At block k v) n at in
        let values : item_values block item ≡ order.item block v = item_is block item v is there in
        let before : List Value = open_from flags 0 block in
        let left : List Value = open_from after 0 block in
        let counted : length before ≡ suc (length left) = split_length block placed before v left split in
        let taken : placed_next (length before) block placed before ≡ item_values block item
        ++ placed_next (length left) block (placed ++ item_values block item) left =
        ap (λ k. placed_next k block placed before) counted
        ∙ ap (next_then block (λ u others. placed_next (length left) block (placed ++ order.item block u) others)) split
        ∙ ap (λ vs. vs ++ placed_next (length left) block (placed ++ vs) left) (sym values) in
        ap (λ vs. vs ++ placed_next (length left) block vs left) more
        ∙ append_assoc placed (item_values block item)
        (placed_next (length left) block (placed ++ item_values block item) left)
        ∙ ap (λ vs. placed ++ vs) (sym taken)
        ∙ begins.goes_on

-- where none may come next, the items are the first order
pub all_placed_now : (block : List Value) (items : List Item) (flags : List Bool) → Begins block items flags
    → next_from block flags 0 block ≡ None → AreInFirstOrder block items
all_placed_now block items flags begins none = record {
  order =
      sym (append-nil placed) ∙ ap (λ vs. placed ++ vs) (sym (ended (length (open_from flags 0 block))))
      ∙ begins.goes_on;
  each = begins.each;
}
  where
    placed : List Value
    placed = values_of_items block items

    ended : (k : ℕ) → placed_next k block placed (open_from flags 0 block) ≡ []
    ended zero = refl
    ended (suc k) =
        ap (next_then block (λ v others. placed_next k block (placed ++ order.item block v) others))
        (none_next block placed flags 0 block begins.placed none)

-- ---- the phis

phi_elsewhere : (n : ℕ) (values : List Value) (id : ValueId) → id.0 ≡ n → IsApart n values
    → has_value (filter (λ v. is_phi v.op) values) id ≡ false
phi_elsewhere n [] id same h = refl
phi_elsewhere n (v ∷ values) id same h = by_test (is_phi v.op) (phi_elsewhere n values id same h.1)
  where
    other : same_value v.id id ≡ false
    other = ne_eqb v.id.0 id.0 (λ e. h.0 (sym same ∙ sym e))

    by_test : (b : Bool) → has_value (filter (λ u. is_phi u.op) values) id ≡ false
        → has_value (if b then v ∷ filter (λ u. is_phi u.op) values else filter (λ u. is_phi u.op) values) id ≡ false
    by_test true again = λ x. other x || again x
    by_test false again = again

phis_have : (values : List Value) (j : ℕ) (v : Value) → AreApart values → At values j v
    → has_value (filter (λ u. is_phi u.op) values) v.id ≡ is_phi v.op
phis_have [] j v h at = cc
phis_have (u ∷ values) zero v h at =
    let is : u ≡ v = cc in
    subst (λ w. has_value (filter (λ x. is_phi x.op) (u ∷ values)) w.id ≡ is_phi w.op) is
    (by_test (is_phi u.op) refl (phi_elsewhere u.id.0 values u.id refl h.0))
  where
    rest : List Value
    rest = filter (λ x. is_phi x.op) values

    by_test : (b : Bool) → is_phi u.op ≡ b → has_value rest u.id ≡ false
        → has_value (if is_phi u.op then u ∷ rest else rest) u.id ≡ is_phi u.op
    by_test true e none =
        ap (λ b. has_value (if b then u ∷ rest else rest) u.id) e
        ∙ ap (λ b. b || has_value rest u.id) (eq-eqb u.id.0 u.id.0 refl) ∙ sym e
    by_test false e none = ap (λ b. has_value (if b then u ∷ rest else rest) u.id) e ∙ none ∙ sym e
phis_have (u ∷ values) (suc j) v h at =
    by_test (is_phi u.op) (phis_have values j v h.1 at)
  where
    rest : List Value
    rest = filter (λ x. is_phi x.op) values

    other : same_value u.id v.id ≡ false
    other = ne_eqb u.id.0 v.id.0 (λ e. number_elsewhere u.id.0 values j v h.0 at e)

    by_test : (b : Bool) → has_value rest v.id ≡ is_phi v.op
        → has_value (if b then u ∷ rest else rest) v.id ≡ is_phi v.op
    by_test true again = ap (λ b. b || has_value rest v.id) other ∙ again
    by_test false again = again

abbrev phi_marks : List Value → List Bool
phi_marks values = map (λ v. is_phi v.op) values

mark_at : (values : List Value) (j : ℕ) (v : Value) → At values j v → is_at (phi_marks values) j ≡ is_phi v.op
mark_at [] j v at = cc
mark_at (u ∷ values) zero v at = let is : u ≡ v = cc in ap (λ (w : Value). is_phi w.op) is
mark_at (u ∷ values) (suc j) v at = mark_at values j v at

open_others : (flags : List Bool) (k : ℕ) (values : List Value)
    → ((j : ℕ) (v : Value) → At values j v → is_at flags (k + j) ≡ is_phi v.op)
    → open_from flags k values ≡ filter is_other values
open_others flags k [] marks = refl
open_others flags k (v ∷ values) marks =
    ap (λ b. if b then v ∷ open_from flags (suc k) values else open_from flags (suc k) values) here
    ∙ ap (λ rest. if is_other v then v ∷ rest else rest) (open_others flags (suc k) values later)
  where
    mark : is_at flags k ≡ is_phi v.op
    mark = let n : k ≡ k + zero = omega arith in ap (is_at flags) n ∙ marks zero v refl

    parts : (a b : Bool) → ((not a && not b) && not b) ≡ (not a && not b)
    parts true b = refl
    parts false true = refl
    parts false false = refl

    here : is_open flags k v ≡ is_other v
    here = ap (λ b. is_other v && not b) mark ∙ parts (is_follower v.op) (is_phi v.op)

    later : (j : ℕ) (u : Value) → At values j u → is_at flags (suc k + j) ≡ is_phi u.op
    later j u at = let n : suc k + j ≡ k + suc j = omega arith in ap (is_at flags) n ∙ marks (suc j) u at

-- the phis begin the first order
pub phis_begin : (block : List Value) (items : List Item) (flags : List Bool) → AreApart block
    → All (IsItem block) items
    → values_of_items block items ≡ filter (λ v. is_phi v.op) block → flags ≡ map (λ v. is_phi v.op) block
    → Begins block items flags
phis_begin block items flags apart each phis marked = record {
  each = each;
  flagged = ap length marked ∙ length-map block (λ (v : Value). is_phi v.op);
  placed =
      λ j v at. ap (λ vs. has_value vs v.id) phis ∙ phis_have block j v apart at
      ∙ sym (ap (λ bs. is_at bs j) marked ∙ mark_at block j v at);
  goes_on = (λ x. phis x ++ placed_next (length (others x)) block (phis x) (others x));
}
  where
    others : open_from flags 0 block ≡ filter is_other block
    others =
        open_others flags 0 block
        (λ j v at. let n : 0 + j ≡ j = omega arith in ap (is_at flags) n ∙ ap (λ bs. is_at bs j) marked
        ∙ mark_at block j v at)

-- ---- the phis so far

abbrev pub PhisSoFar : List Value → List Item → ℕ → Type 0
PhisSoFar values items i =
    All (IsItem values) items
    × (values_of_items values items ++ filter (λ v. is_phi v.op) (drop i values) ≡ filter (λ v. is_phi v.op) values)

no_call : (op : Op) → is_phi op ≡ true → is_call op ≡ false
no_call Phi h = refl
no_call _ h = cc

phi_item : (values : List Value) (v : Value) (item : Item) → At values item.value v → is_phi v.op ≡ true
    → item.selects.items ≡ []
    → IsItem values item
phi_item values v item at phi none = record {
  value = v;
  at = at;
  selects =
      ap (values_at values) none ∙ sym
      (ap (λ b. if b then by_number (filter (selects v.id) values) else []) (no_call v.op phi));
}

rest_of : (values : List Value) (i : ℕ) (v : Value) → i < length values → v ≡ get_or values i v
    → filter (λ u. is_phi u.op) (drop i values)
    ≡ (if is_phi v.op then v ∷ filter (λ u. is_phi u.op) (drop (i + 1) values) else filter (λ u. is_phi u.op)
    (drop (i + 1) values))
rest_of values i v within is =
    ap (filter (λ u. is_phi u.op)) (drop_more values i v within ∙ ap (λ u. u ∷ drop (i + 1) values) (sym is))

pub phi_more : (values : List Value) (items : List Item) (i : ℕ) (v : Value) (item : Item) → i < length values
    → v ≡ get_or values i v
    → is_phi v.op ≡ true → item.value ≡ i → item.selects.items ≡ [] → PhisSoFar values items i
    → PhisSoFar values (items ++ item ∷ []) (i + 1)
phi_more values items i v item within is phi value none so_far = (
  All-push (IsItem values) items item so_far.0 (phi_item values v item at phi none),
  ap (λ vs. vs ++ rest) (sym (flat_map_more (item_values values) [] items item))
      ∙ append_assoc (values_of_items values items) (item_values values item) rest
      ∙ ap (λ vs. values_of_items values items ++ (vs ++ rest)) one
      ∙ ap (λ vs. values_of_items values items ++ vs)
      (sym (rest_of values i v within is ∙ ap (λ b. if b then v ∷ rest else rest) phi))
      ∙ so_far.1,
)
  where
    rest : List Value
    rest = filter (λ u. is_phi u.op) (drop (i + 1) values)

    at : At values item.value v
    at = ap (slice_get values) value ∙ slice_get-get_or values i v within ∙ ap Some (sym is)

    one : item_values values item ≡ v ∷ []
    one = ap (λ o. cons_option o (values_at values item.selects.items)) at ∙ ap (λ xs. v ∷ values_at values xs) none

pub no_phi_more : (values : List Value) (items : List Item) (i : ℕ) (v : Value) → i < length values
    → v ≡ get_or values i v
    → is_phi v.op ≡ false → PhisSoFar values items i → PhisSoFar values items (i + 1)
no_phi_more values items i v within is other so_far = (
  so_far.0,
  ap (λ vs. values_of_items values items ++ vs) (sym (rest_of values i v within is
      ∙ ap (λ b. if b then v ∷ filter (λ u. is_phi u.op) (drop (i + 1) values) else filter (λ u. is_phi u.op)
      (drop (i + 1) values)) other))
      ∙ so_far.1,
)

-- ---- where the next one stands

pub next_within : (block : List Value) (flags : List Bool) (k : ℕ) (values : List Value) (i : ℕ)
    → next_from block flags k values ≡ Some i → i < k + length values
next_within block flags k [] i h = cc
next_within block flags k (v ∷ values) i h =
    by_test (may_come block flags k v) h (next_within block flags (suc k) values i)
  where
    by_test : (b : Bool) → (if b then Some k else next_from block flags (suc k) values) ≡ Some i
        → (next_from block flags (suc k) values ≡ Some i → i < suc k + length values) → i < k + suc (length values)
    by_test true h again = let same : k ≡ i = cc in omega (arith, same)
    by_test false h again = omega (arith, again h)
