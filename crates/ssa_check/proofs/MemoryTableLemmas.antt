-- What tables of blocks say after one more block, and what the look-up of an inner definer of a block answers.
use Rattle.std.proofs.Common.{◌≡◌, ℕ, zero, suc, ◌+◌, ◌<◌, ◌⊎◌, inl, inr, Bool, true, false, cond, eqb, not, ◌&&◌, ◌||◌}
use Rattle.std.proofs.Common.{List, [], ◌∷◌, ◌++◌, length, map, filter, find, flat_map, get_or, slice_get, None, Some}
use Rattle.std.proofs.Common.{Contains, drop, slice_index_or, ◌≤◌, refl, sym, ap, subst, ◌∙◌, arith}
use Rattle.std.specs.List.{list_any}
use Rattle.std.proofs.lemmas.Bool.{and_from, and_parts, eq-eqb, eqb-true, false_from_ne_true, or_cases, or_left}
use Rattle.std.proofs.lemmas.Bool.{or_right}
use Rattle.std.proofs.lemmas.List.{get_or-map, length-append, length-map}
use Rattle.std.proofs.lemmas.List.Elements.{Contains-append_left, Contains-append_right}
use Rattle.std.proofs.lemmas.List.Folds.{Any-from_list_any, list_any_at}
use Rattle.std.proofs.lemmas.Option.{none-some, same_Some, slice_get-get_or}
use Rattle.gossa_base.specs.declared.ids.ValueId.{ValueId}
use Rattle.ssa_ir.specs.declared.func.Block.{Block}
use Rattle.ssa_ir.specs.declared.func.Func.{Func}
use Rattle.ssa_ir.specs.declared.func.Value.{Value}
use Rattle.ssa_ir.specs.FirstOrder.{has_value, same_memory, same_value}
use Rattle.ssa_ir.specs.Lookups.{is_numbered, value_of, values_of}
use Rattle.ssa_ir.specs.WellFormed.{Differ, WellFormedFunc}
use Rattle.ssa_ir.specs.MemoryChains.{inner_of, is_inner, taken_by}
use Rattle.ssa_check.specs.declared.memories.Passed.{Passed}
use Rattle.ssa_check.specs.declared.memories.Passed.TheVariants.{NoPath}
use Rattle.ssa_check.specs.tables.MemoryTables.{EachOf, has_inner, is_other, some_other, takes_other}

-- ---- one more block

pushed_at : {X : Type 0} (xs : List X) (x : X) (i : ℕ) (y : X) → slice_get (xs ++ x ∷ []) i ≡ Some y
    → (slice_get xs i ≡ Some y) ⊎ ((i ≡ length xs) × (x ≡ y))
pushed_at [] x zero y is = inr (refl, same_Some x y is)
pushed_at [] x (suc i) y is = absurd (none-some y is)
pushed_at (z ∷ xs) x zero y is = inl is
pushed_at {X} (z ∷ xs) x (suc i) y is = later (pushed_at xs x i y is)
  where
    later : (slice_get xs i ≡ Some y) ⊎ ((i ≡ length xs) × (x ≡ y))
        → (slice_get xs i ≡ Some y) ⊎ ((suc i ≡ length (z ∷ xs)) × (x ≡ y))
    later (inl there) = inl there
    later (inr last) = inr (omega (arith, last.0), last.1)

pub one_more : {X : Type 0} (Says : Block → X → Type 0) (blocks : List Block) (xs : List X) (b : Block) (x : X)
    → slice_get blocks (length xs) ≡ Some b → Says b x → EachOf Says blocks xs → EachOf Says blocks (xs ++ x ∷ [])
one_more {X} Says blocks xs b x at says each = λ i c y at_c got. by_place i c y at_c (pushed_at xs x i y got)
  where
    by_place : (i : ℕ) (c : Block) (y : X) → slice_get blocks i ≡ Some c
        → (slice_get xs i ≡ Some y) ⊎ ((i ≡ length xs) × (x ≡ y)) → Says c y
    by_place i c y at_c (inl there) = each i c y at_c there
    by_place i c y at_c (inr last) =
        let same : b ≡ c = same_Some b c (sym at ∙ ap (slice_get blocks) (sym last.0) ∙ at_c) in
        subst (λ (z : X). Says c z) last.1 (subst (λ (d : Block). Says d x) same says)

-- the same of what a loop has put in so far
pub known_more : {X : Type 0} (Says : Block → X → Type 0) (blocks items : List Block) (xs more : List X) (n : ℕ)
    (b : Block) (x : X) → items ≡ blocks → n < length items → b ≡ get_or items n b → Says b x
    → (length xs ≡ n) × EachOf Says blocks xs
    → more ≡ xs ++ x ∷ [] → (length more ≡ n + 1) × EachOf Says blocks more
known_more {X} Says blocks items xs more n b x same within is says so_far pushed =
    let at : slice_get blocks (length xs) ≡ Some b =
    ap (slice_get blocks) so_far.0 ∙ ap (λ (l : List Block). slice_get l n) (sym same)
    ∙ slice_get-get_or items n b within ∙ ap Some (sym is) in
    let count : length more ≡ n + 1 = omega (arith, ap length pushed, length-append xs (x ∷ []), so_far.0) in
    (count, subst (λ (l : List X). EachOf Says blocks l) (sym pushed) (one_more Says blocks xs b x at says so_far.1))

-- ---- the value of a number

abbrev numbers : List Value → List ℕ
numbers values = map (λ v. v.id.0) values

-- a value that stands among some of different numbers is the one found
find_one : (id : ValueId) (values : List Value) → Differ (numbers values) → (d : Value) → Contains values d
    → d.id.0 ≡ id.0 → find (is_numbered id) values ≡ Some d
find_one id [] differ d (k, within, is) same = absurd (omega (arith, within))
find_one id (v ∷ values) differ d (zero, within, is) same =
    ap (λ (t : Bool). cond t (Some v) (find (is_numbered id) values))
    (eq-eqb v.id.0 id.0 (ap (λ (x : Value). x.id.0) is ∙ same))
    ∙ ap Some is
find_one id (v ∷ values) differ d (suc k, within, is) same =
    ap (λ (t : Bool). cond t (Some v) (find (is_numbered id) values))
    (false_from_ne_true (eqb v.id.0 id.0) (λ also.
    differ zero (suc k) 0 (omega arith) (omega (arith, within, length-map values (λ (x : Value). x.id.0)))
    (eqb-true v.id.0 id.0 also ∙ sym same ∙ sym (ap (λ (x : Value). x.id.0) is)
    ∙ sym (get_or-map (λ (x : Value). x.id.0) values k d 0 (omega (arith, within))))))
    ∙ find_one id values
    (λ i j e before end. differ (suc i) (suc j) e (omega (arith, before)) (omega (arith, end))) d
    (k, omega (arith, within), is) same

in_flat : (blocks : List Block) (b : Block) (d : Value) → Contains blocks b → Contains b.values d
    → Contains (flat_map (λ (x : Block). x.values) blocks) d
in_flat [] b d (k, within, is) there = absurd (omega (arith, within))
in_flat (c ∷ blocks) b d (zero, within, is) there =
    Contains-append_left c.values (flat_map (λ (x : Block). x.values) blocks) d
    (subst (λ (x : Block). Contains x.values d) (sym is) there)
in_flat (c ∷ blocks) b d (suc k, within, is) there =
    Contains-append_right c.values (flat_map (λ (x : Block). x.values) blocks) d
    (in_flat blocks b d (k, omega (arith, within), is) there)

-- ---- inner definers

record InnerAt (values : List Value) (id : ValueId) : Type 0 where
  pub d : Value
  pub there : Contains values d
  pub inner : is_inner d ≡ true
  pub same : d.id.0 ≡ id.0

inner_later : (v : Value) (values : List Value) (id : ValueId) → InnerAt values id → InnerAt (v ∷ values) id
inner_later v values id at =
    record {
      d = at.d;
      there = (suc at.there.0, omega (arith, at.there.1), at.there.2);
      inner = at.inner;
      same = at.same;
    }

-- one of these has this number
abbrev has_id : ValueId → List Value → Bool
has_id id values = list_any (λ d. same_value id d.id) values

inner_at : (id : ValueId) (values : List Value) → has_id id (filter is_inner values) ≡ true → InnerAt values id
inner_at id [] is = cc
inner_at id (v ∷ values) is = go (is_inner v) refl is (inner_at id values)
  where
    by_same : is_inner v ≡ true → (has_id id (filter is_inner values) ≡ true → InnerAt values id)
        → (same_value id v.id ≡ true) ⊎ (has_id id (filter is_inner values) ≡ true)
        → InnerAt (v ∷ values) id
    by_same inner later (inl same) =
        record { d = v; there = (zero, omega arith, refl); inner = inner; same = sym (eqb-true id.0 v.id.0 same) }
    by_same inner later (inr some) = inner_later v values id (later some)

    go : (t : Bool) → is_inner v ≡ t
        → has_id id (cond t (v ∷ filter is_inner values) (filter is_inner values)) ≡ true
        → (has_id id (filter is_inner values) ≡ true → InnerAt values id)
        → InnerAt (v ∷ values) id
    go true inner some later =
        by_same inner later
        (or_cases (same_value id v.id) (has_id id (filter is_inner values)) some)
    go false inner some later = inner_later v values id (later some)

inner_from : (id : ValueId) (values : List Value) (d : Value) → Contains values d → is_inner d ≡ true → d.id.0 ≡ id.0
    → has_id id (filter is_inner values) ≡ true
inner_from id [] d (k, within, is) inner same = absurd (omega (arith, within))
inner_from id (v ∷ values) d (zero, within, is) inner same =
    ap (λ (t : Bool). has_id id (cond t (v ∷ filter is_inner values) (filter is_inner values)))
    (ap is_inner is ∙ inner)
    ∙ or_left (same_value id v.id) (has_id id (filter is_inner values))
    (eq-eqb id.0 v.id.0 (sym same ∙ sym (ap (λ (x : Value). x.id.0) is)))
inner_from id (v ∷ values) d (suc k, within, is) inner same =
    go (is_inner v) (inner_from id values d (k, omega (arith, within), is) inner same)
  where
    go : (t : Bool) → has_id id (filter is_inner values) ≡ true
        → has_id id (cond t (v ∷ filter is_inner values) (filter is_inner values)) ≡ true
    go true some =
        or_right (same_value id v.id) (has_id id (filter is_inner values)) some
    go false some = some

alike : (a b : Bool) → (a ≡ true → b ≡ true) → (b ≡ true → a ≡ true) → a ≡ b
alike true b to from = sym (to refl)
alike false true to from = from refl
alike false false to from = refl

module _ (f : Func) (well : WellFormedFunc f) (b : Block) (of_func : Contains f.blocks b) (id : ValueId) where
  found_here : (d : Value) → Contains b.values d → d.id.0 ≡ id.0 → value_of f id ≡ Some d
  found_here d there same = find_one id (values_of f) well.values_differ d (in_flat f.blocks b d of_func there) same

  -- a number of no value is that of no inner definer
  pub no_inner : None ≡ value_of f id → false ≡ has_inner b id
  no_inner none =
      sym (false_from_ne_true (has_inner b id) (λ is.
      let at : InnerAt b.values id = inner_at id b.values is in
      none-some at.d (none ∙ found_here at.d at.there at.same)))

  module _ (maker : Value) (is_its : Some maker ≡ value_of f id) where
    maker_is : (d : Value) → Contains b.values d → d.id.0 ≡ id.0 → maker ≡ d
    maker_is d there same = same_Some maker d (is_its ∙ found_here d there same)

    to_inner : (is_inner maker && has_value b.values id) ≡ true → has_inner b id ≡ true
    to_inner is =
        by_place (Any-from_list_any (λ (v : Value). same_value v.id id) b.values
        (and_parts (is_inner maker) (has_value b.values id) is).1)
      where
        by_place : (k : ℕ) × (v : Value) × (k < length b.values) × (get_or b.values k v ≡ v)
            × (same_value v.id id ≡ true) → has_inner b id ≡ true
        by_place (k, v, within, at, same) =
            let number : v.id.0 ≡ id.0 = eqb-true v.id.0 id.0 same in
            let its : maker ≡ v = maker_is v (k, within, at) number in
            inner_from id b.values v (k, within, at)
            (ap is_inner (sym its) ∙ (and_parts (is_inner maker) (has_value b.values id) is).0) number

    from_inner : has_inner b id ≡ true → (is_inner maker && has_value b.values id) ≡ true
    from_inner is =
        let at : InnerAt b.values id = inner_at id b.values is in
        and_from (is_inner maker) (has_value b.values id) (ap is_inner (maker_is at.d at.there at.same) ∙ at.inner)
        (list_any_at (λ (v : Value). same_value v.id id) b.values at.there.0 at.d at.there.1
        (eq-eqb (get_or b.values at.there.0 at.d).id.0 id.0 (ap (λ (v : Value). v.id.0) at.there.2 ∙ at.same)))

    -- an inner definer of the block is one that the block has
    pub inner_here : (is_inner maker && has_value b.values id) ≡ has_inner b id
    inner_here = alike (is_inner maker && has_value b.values id) (has_inner b id) to_inner from_inner

-- ---- what a value takes

none_any : (values : List Value) → list_any (λ (v : Value). false) values ≡ false
none_any [] = refl
none_any (v ∷ values) = none_any values

pub takes_none : (f : Func) (b : Block) (v : Value) (memory : ValueId) → None ≡ taken_by f v
    → true ≡ takes_other f b v (Some memory)
takes_none f b v memory none =
    ap (λ (t : Bool). not t && true) (sym (none_any (inner_of b)))
    ∙ (λ i. not (list_any (λ (d : Value). same_memory (none i) (Some d.id)) (inner_of b))
    && not (same_memory (none i) (Some memory)))

pub takes_some : (f : Func) (b : Block) (v : Value) (memory id : ValueId) → Some id ≡ taken_by f v
    → (not (has_inner b id) && not (same_value id memory)) ≡ takes_other f b v (Some memory)
takes_some f b v memory id some =
    λ i. not (list_any (λ (d : Value). same_memory (some i) (Some d.id)) (inner_of b))
    && not (same_memory (some i) (Some memory))

-- ---- the arguments of a memory phi one after the other

pub one_other : (passed : List Passed) (preds : List ℕ) (args : List ValueId) (i p : ℕ) (a : ValueId) → i < length preds
    → i < length args
    → some_other passed (drop i preds) (drop i args)
    ≡ (is_other (slice_index_or passed (get_or preds i p) NoPath) (get_or args i a)
    || some_other passed (drop (suc i) preds) (drop (suc i) args))
one_other passed [] args i p a within within_args = absurd (omega (arith, within))
one_other passed (q ∷ preds) [] i p a within within_args = absurd (omega (arith, within_args))
one_other passed (q ∷ preds) (b ∷ args) zero p a within within_args = refl
one_other passed (q ∷ preds) (b ∷ args) (suc i) p a within within_args =
    one_other passed preds args i p a (omega (arith, within)) (omega (arith, within_args))

no_args : (passed : List Passed) (preds : List ℕ) → some_other passed preds [] ≡ false
no_args passed [] = refl
no_args passed (p ∷ preds) = refl

pub past_args : (passed : List Passed) (preds : List ℕ) (args : List ValueId) (i : ℕ) → length args ≤ i
    → some_other passed (drop i preds) (drop i args) ≡ false
past_args passed preds [] zero past = no_args passed preds
past_args passed preds [] (suc i) past = no_args passed (drop (suc i) preds)
past_args passed preds (a ∷ args) zero past = absurd (omega (arith, past))
past_args passed [] (a ∷ args) (suc i) past = refl
past_args passed (p ∷ preds) (a ∷ args) (suc i) past = past_args passed preds args i (omega (arith, past))

pub past_preds : (passed : List Passed) (preds : List ℕ) (args : List ValueId) (i : ℕ) → length preds ≤ i
    → some_other passed (drop i preds) (drop i args) ≡ false
past_preds passed [] args zero past = refl
past_preds passed [] args (suc i) past = refl
past_preds passed (p ∷ preds) args zero past = absurd (omega (arith, past))
past_preds passed (p ∷ preds) [] (suc i) past = no_args passed (drop (suc i) (p ∷ preds))
past_preds passed (p ∷ preds) (a ∷ args) (suc i) past = past_preds passed preds args i (omega (arith, past))
