-- Chains: no definer stands twice in one, and the last alone is taken by no inner definer; so all chains of a block end
-- alike.
use Rattle.std.proofs.Common.{◌≡◌, ◌≢◌, ℕ, zero, suc, ◌+◌, ◌<◌, ◌≤◌, ◌⊎◌, inl, inr, true, false, List, [], ◌∷◌, ◌++◌}
use Rattle.std.proofs.Common.{length, get_or, map, None, Some, slice_get, refl, subst, sym, ap, ◌∙◌, arith}
use Rattle.std.specs.List.{All, AllPairs, Contains, flat_map, last_or}
use Rattle.std.specs.Option.{option_map}
use Rattle.std.proofs.lemmas.Bool.{both_ways, cases_lt, cases_order}
use Rattle.std.proofs.lemmas.List.{get_or-append-add, get_or-map, get_or_append_left, length-append, length-map}
use Rattle.std.proofs.lemmas.List.{map-append}
use Rattle.std.proofs.lemmas.List.Kept.{AllPairs-filter}
use Rattle.std.proofs.lemmas.Option.{get_or_from_slice_get, slice_get_within}
use Rattle.gossa_base.specs.declared.ids.ValueId.{ValueId}
use Rattle.ssa_ir.specs.declared.func.Block.{Block}
use Rattle.ssa_ir.specs.declared.func.Func.{Func}
use Rattle.ssa_ir.specs.declared.func.Value.{Value}
use Rattle.ssa_ir.specs.WellFormed.{Differ, WellFormedFunc}
use Rattle.ssa_check.specs.declared.memories.Leaves.TheVariants.{Known}
use Rattle.ssa_check.specs.tables.ChainTables.{LeavesOf}
use Rattle.ssa_ir.specs.MemoryChains.{AreLinked, Chained, IsChain, IsLast, inner_of, is_inner, last_definer, taken_by}
use Rattle.ssa_ir.specs.MemoryChains.{takes, takes_inner}
use Rattle.gossa_base.proofs.ListPlaces.{last_at, At, all_at, any_at, contains_at, same_at}
use Rattle.block_order.proofs.ItemStands.{memories_same, same_memories}

-- ---- the numbers of a block's values differ

abbrev pub Apart : List Value → Type 0
Apart values = AllPairs (λ (v w : Value). v.id.0 ≢ w.id.0) values

abbrev numbers : List Value → List ℕ
numbers values = map (λ v. v.id.0) values

differ_left : (xs ys : List ℕ) → Differ (xs ++ ys) → Differ xs
differ_left xs ys h i j d before within same =
    h i j d before (omega (arith, within, length-append xs ys))
    (get_or_append_left xs ys d i (omega (arith, before, within)) ∙ same ∙ sym (get_or_append_left xs ys d j within))

differ_right : (xs ys : List ℕ) → Differ (xs ++ ys) → Differ ys
differ_right xs ys h i j d before within same =
    h (length xs + i) (length xs + j) d (omega (arith, before)) (omega (arith, within, length-append xs ys))
    (get_or-append-add xs ys i d ∙ same ∙ sym (get_or-append-add xs ys j d))

parted : (b : Block) (blocks : List Block) → Differ (numbers (flat_map (λ (c : Block). c.values) (b ∷ blocks)))
    → Differ (numbers b.values ++ numbers (flat_map (λ (c : Block). c.values) blocks))
parted b blocks h =
    subst Differ (map-append (λ (v : Value). v.id.0) b.values (flat_map (λ (c : Block). c.values) blocks)) h

differ_in : (blocks : List Block) → Differ (numbers (flat_map (λ (c : Block). c.values) blocks)) → (k : ℕ) (b : Block)
    → At blocks k b → Differ (numbers b.values)
differ_in [] h k b at = cc
differ_in (c ∷ blocks) h zero b at =
    let one : c ≡ b = cc in
    subst (λ (x : Block). Differ (numbers x.values)) one
    (differ_left (numbers c.values) (numbers (flat_map (λ (x : Block). x.values) blocks)) (parted c blocks h))
differ_in (c ∷ blocks) h (suc k) b at =
    differ_in blocks
    (differ_right (numbers c.values) (numbers (flat_map (λ (x : Block). x.values) blocks)) (parted c blocks h)) k b at

apart_from : (values : List Value) → Differ (numbers values) → Apart values
apart_from values h i j d before within same =
    h i j d.id.0 before (omega (arith, within, length-map values (λ (v : Value). v.id.0)))
    (get_or-map (λ (v : Value). v.id.0) values i d d.id.0 (omega (arith, before, within)) ∙ same
    ∙ sym (get_or-map (λ (v : Value). v.id.0) values j d d.id.0 within))

-- no two inner definers of a block have one number
pub inner_apart : (f : Func) → WellFormedFunc f → (b : Block) → Contains f.blocks b → Apart (inner_of b)
inner_apart f well b there =
    let place : (k : ℕ) × At f.blocks k b = contains_at f.blocks b there in
    AllPairs-filter (λ (v w : Value). v.id.0 ≢ w.id.0) is_inner b.values
    (apart_from b.values (differ_in f.blocks well.values_differ place.0 b place.1))

same_index : (values : List Value) → Apart values → (i j : ℕ) (v w : Value) → At values i v → At values j w
    → v.id.0 ≡ w.id.0 → i ≡ j
same_index values apart i j v w at_i at_j same = by_order (cases_order i j)
  where
    number : (k : ℕ) (u : Value) → At values k u → (get_or values k v).id.0 ≡ u.id.0
    number k u at = ap (λ (x : Value). x.id.0) (get_or_from_slice_get values k u v at)

    by_order : (i ≡ j) ⊎ ((i < j) ⊎ (j < i)) → i ≡ j
    by_order (inl e) = e
    by_order (inr (inl before)) =
        absurd (apart i j v before (slice_get_within values j w at_j) (number i v at_i ∙ same ∙ sym (number j w at_j)))
    by_order (inr (inr behind)) =
        absurd (apart j i v behind (slice_get_within values i v at_i)
        (number j w at_j ∙ sym same ∙ sym (number i v at_i)))

-- values of one number are one
pub one_number : (values : List Value) → Apart values → (v w : Value) → Contains values v → Contains values w
    → v.id.0 ≡ w.id.0 → v ≡ w
one_number values apart v w here there same =
    let i : (k : ℕ) × At values k v = contains_at values v here in
    let j : (k : ℕ) × At values k w = contains_at values w there in
    same_at values i.0 v w i.1
    (ap (slice_get values) (same_index values apart i.0 j.0 v w i.1 j.1 same) ∙ j.1)

-- ---- what a value takes

-- a value takes one memory
pub takes_one : (f : Func) (v : Value) (a b : ValueId) → takes f v a ≡ true → takes f v b ≡ true → a.0 ≡ b.0
takes_one f v a b takes_a takes_b =
    let x : (m : ValueId) × (n : ValueId) × (taken_by f v ≡ Some m) × (Some a ≡ Some n) × (m.0 ≡ n.0)
    = same_memories (taken_by f v) (Some a) takes_a in
    let y : (m : ValueId) × (n : ValueId) × (taken_by f v ≡ Some m) × (Some b ≡ Some n) × (m.0 ≡ n.0)
    = same_memories (taken_by f v) (Some b) takes_b in
    let is_a : a ≡ x.1 = let e : Some a ≡ Some x.1 = x.3 in cc in
    let is_b : b ≡ y.1 = let e : Some b ≡ Some y.1 = y.3 in cc in
    let one : x.0 ≡ y.0 = let e : Some x.0 ≡ Some y.0 = sym x.2 ∙ y.2 in cc in
    ap (λ (m : ValueId). m.0) is_a ∙ sym x.4 ∙ ap (λ (m : ValueId). m.0) one ∙ y.4
    ∙ sym (ap (λ (m : ValueId). m.0) is_b)

-- by its number
pub takes_number : (f : Func) (v : Value) (a b : ValueId) → a.0 ≡ b.0 → takes f v a ≡ true → takes f v b ≡ true
takes_number f v a b same takes_a =
    let x : (m : ValueId) × (n : ValueId) × (taken_by f v ≡ Some m) × (Some a ≡ Some n) × (m.0 ≡ n.0)
    = same_memories (taken_by f v) (Some a) takes_a in
    let is_a : a ≡ x.1 = let e : Some a ≡ Some x.1 = x.3 in cc in
    memories_same (taken_by f v) (Some b) x.0 b x.2 refl (x.4 ∙ sym (ap (λ (m : ValueId). m.0) is_a) ∙ same)

pub takes_some_inner : (f : Func) (b : Block) (v d : Value) → Contains (inner_of b) d → takes f v d.id ≡ true
    → takes_inner f b v ≡ true
takes_some_inner f b v d inner t =
    let place : (k : ℕ) × At (inner_of b) k d = contains_at (inner_of b) d inner in
    any_at (λ x. takes f v x.id) (inner_of b) place.0 d place.1 t

-- ---- positions in a chain

-- the one before another in a list of linked ones
pub linked_step : (f : Func) (d : Value) (rest : List Value) → AreLinked f d rest → (i : ℕ) (x : Value)
    → At (d ∷ rest) (suc i) x → (y : Value) × At (d ∷ rest) i y × (takes f x y.id ≡ true)
linked_step f d [] linked i x at = cc
linked_step f d (e ∷ rest) linked zero x at =
    let one : e ≡ x = cc in
    (d, refl, subst (λ v. takes f v d.id ≡ true) one linked.0)
linked_step f d (e ∷ rest) linked (suc i) x at = later (linked_step f e rest linked.1 i x at)
  where
    later : ((y : Value) × At (e ∷ rest) i y × (takes f x y.id ≡ true))
        → (y : Value) × At (d ∷ e ∷ rest) (suc i) y × (takes f x y.id ≡ true)
    later (y, there, t) = (y, there, t)

pub some_last : {X : Type 0} (d : X) (rest : List X) → (x : X) × (slice_get (d ∷ rest) (length rest) ≡ Some x)
some_last d [] = (d, refl)
some_last d (e ∷ rest) = some_last e rest

module _ (f : Func) (b : Block) (apart : Apart (inner_of b)) where
  -- a chain that begins with d
  module _ (d : Value) (rest : List Value) (within : All (Contains (inner_of b)) (d ∷ rest))
      (chain : IsChain f b (d ∷ rest)) where
    inner_at : (i : ℕ) (x : Value) → At (d ∷ rest) i x → Contains (inner_of b) x
    inner_at i x at = all_at (Contains (inner_of b)) (d ∷ rest) i x within at

    -- the first takes no inner definer
    not_first : (x y : Value) → At (d ∷ rest) zero x → Contains (inner_of b) y → takes f x y.id ≡ true → ⊥
    not_first x y at inner t =
        let one : d ≡ x = cc in
        both_ways (takes_inner f b x) (subst (λ v. takes_inner f b v ≡ false) one chain.0)
        (takes_some_inner f b x y inner t)

    -- none stands twice
    pub no_repeat : (i j : ℕ) (x y : Value) → At (d ∷ rest) i x → At (d ∷ rest) j y → x.id.0 ≡ y.id.0 → i < j → ⊥
    no_repeat zero zero x y at_x at_y same before = omega (arith, before)
    no_repeat (suc i) zero x y at_x at_y same before = omega (arith, before)
    no_repeat zero (suc j) x y at_x at_y same before =
        let one : x ≡ y = one_number (inner_of b) apart x y (inner_at zero x at_x) (inner_at (suc j) y at_y) same in
        let p : (z : Value) × At (d ∷ rest) j z × (takes f y z.id ≡ true) = linked_step f d rest chain.1 j y at_y in
        not_first x p.0 at_x (inner_at j p.0 p.1) (subst (λ v. takes f v p.0.id ≡ true) (sym one) p.2)
    no_repeat (suc i) (suc j) x y at_x at_y same before =
        let one : x ≡ y = one_number (inner_of b) apart x y (inner_at (suc i) x at_x) (inner_at (suc j) y at_y) same in
        let p : (z : Value) × At (d ∷ rest) i z × (takes f x z.id ≡ true) = linked_step f d rest chain.1 i x at_x in
        let q : (z : Value) × At (d ∷ rest) j z × (takes f y z.id ≡ true) = linked_step f d rest chain.1 j y at_y in
        no_repeat i j p.0 q.0 p.1 q.1
        (takes_one f y p.0.id q.0.id (subst (λ v. takes f v p.0.id ≡ true) one p.2) q.2) (omega (arith, before))

    -- no inner definer takes the last
    pub last_free : All (Contains (d ∷ rest)) (inner_of b) → (x y : Value) → At (d ∷ rest) (length rest) x
        → Contains (inner_of b) y → takes f y x.id ≡ true → ⊥
    last_free whole x y at inner t =
        by_place (contains_at (d ∷ rest) y (all_at (Contains (d ∷ rest)) (inner_of b) place.0 y whole place.1))
      where
        place : (k : ℕ) × At (inner_of b) k y
        place = contains_at (inner_of b) y inner

        by_place : ((j : ℕ) × At (d ∷ rest) j y) → ⊥
        by_place (zero, at_y) = not_first y x at_y (inner_at (length rest) x at) t
        by_place (suc j, at_y) =
            let p : (z : Value) × At (d ∷ rest) j z × (takes f y z.id ≡ true) = linked_step f d rest chain.1 j y at_y in
            let inside : suc j < length (d ∷ rest) = slice_get_within (d ∷ rest) (suc j) y at_y in
            no_repeat j (length rest) p.0 x p.1 at (takes_one f y p.0.id x.id p.2 t) (omega (arith, inside))

    -- one takes each other
    pub taken_within : (i : ℕ) (x : Value) → At (d ∷ rest) i x → i < length rest
        → (y : Value) × Contains (inner_of b) y × (takes f y x.id ≡ true)
    taken_within i x at before = go (some_at rest i before)
      where
        some_at : (xs : List Value) (k : ℕ) → k < length xs → (y : Value) × At xs k y
        some_at [] k lt = absurd (omega (arith, lt))
        some_at (z ∷ xs) zero lt = (z, refl)
        some_at (z ∷ xs) (suc k) lt = some_at xs k (omega (arith, lt))

        go : ((y : Value) × At rest i y) → (y : Value) × Contains (inner_of b) y × (takes f y x.id ≡ true)
        go (y, at_y) =
            let p : (z : Value) × At (d ∷ rest) i z × (takes f y z.id ≡ true) = linked_step f d rest chain.1 i y at_y in
            let one : p.0 ≡ x = same_at (d ∷ rest) i p.0 x p.1 at in
            (y, inner_at (suc i) y at_y, subst (λ (z : Value). takes f y z.id ≡ true) one p.2)

    -- an inner definer that no other takes is the last
    pub free_last : All (Contains (d ∷ rest)) (inner_of b) → (x : Value) → Contains (inner_of b) x
        → ((y : Value) → Contains (inner_of b) y → takes f y x.id ≡ true → ⊥) → At (d ∷ rest) (length rest) x
    free_last whole x inner free =
        by_place (contains_at (d ∷ rest) x (all_at (Contains (d ∷ rest)) (inner_of b) place.0 x whole place.1))
      where
        place : (k : ℕ) × At (inner_of b) k x
        place = contains_at (inner_of b) x inner

        by_place : ((i : ℕ) × At (d ∷ rest) i x) → At (d ∷ rest) (length rest) x
        by_place (i, at) = by_order (cases_lt i (length rest))
          where
            by_order : (i < length rest) ⊎ (length rest ≤ i) → At (d ∷ rest) (length rest) x
            by_order (inl before) =
                let p : (y : Value) × Contains (inner_of b) y × (takes f y x.id ≡ true) = taken_within i x at before in
                absurd (free p.0 p.1 p.2)
            by_order (inr behind) =
                let inside : i < length (d ∷ rest) = slice_get_within (d ∷ rest) i x at in
                let same : i ≡ length rest = omega (arith, behind, inside) in
                subst (λ k. At (d ∷ rest) k x) same at

  -- ---- all chains end alike

  -- what a list is that has all inner definers as a chain
  pub record Lists (chain : List Value) : Type 0 where
    pub within : All (Contains (inner_of b)) chain
    pub whole : All (Contains chain) (inner_of b)
    pub in_order : IsChain f b chain

  no_inner : (d : Value) (rest : List Value) → Lists [] → Lists (d ∷ rest) → ⊥
  no_inner d rest none some =
      let place : (k : ℕ) × At (inner_of b) k d
      = contains_at (inner_of b) d (all_at (Contains (inner_of b)) (d ∷ rest) zero d some.within refl) in
      let there : (k : ℕ) × At [] k d =
      contains_at [] d (all_at (Contains []) (inner_of b) place.0 d none.whole place.1) in
      let never : None ≡ Some d = there.1 in
      cc

  same_end : (d : Value) (rest : List Value) (e : Value) (more : List Value) → Lists (d ∷ rest) → Lists (e ∷ more)
      → last_or (Some d) rest ≡ last_or (Some e) more
  same_end d rest e more one other =
      let x : (v : Value) × At (d ∷ rest) (length rest) v = some_last d rest in
      let inner : Contains (inner_of b) x.0 =
      all_at (Contains (inner_of b)) (d ∷ rest) (length rest) x.0 one.within x.1 in
      let at : At (e ∷ more) (length more) x.0
      = free_last e more other.within other.in_order other.whole x.0 inner
      (λ y inner_y t. last_free d rest one.within one.in_order one.whole x.0 y x.1 inner_y t) in
      last_at d rest ∙ x.1 ∙ sym at ∙ sym (last_at e more)

  same_last : (one other : List Value) → Lists one → Lists other → last_definer b one ≡ last_definer b other
  same_last [] [] none also = refl
  same_last [] (e ∷ more) none some = absurd (no_inner e more none some)
  same_last (d ∷ rest) [] some none = absurd (no_inner d rest none some)
  same_last (d ∷ rest) (e ∷ more) one other = ap (option_map (λ (v : Value). v.id)) (same_end d rest e more one other)

  pub lists : (c : Chained f b) → Lists c.chain
  lists c = record { within = c.within; whole = c.whole; in_order = c.in_order }

-- a block leaves one memory
pub one_last : (f : Func) → WellFormedFunc f → (b : Block) → Contains f.blocks b → (x y : ValueId) → IsLast f b x
    → IsLast f b y → x ≡ y
one_last f well b there x y one other =
    let apart : Apart (inner_of b) = inner_apart f well b there in
    let same : Some x ≡ Some y
    = sym one.last ∙ same_last f b apart one.chained.chain other.chained.chain (lists f b apart one.chained)
    (lists f b apart other.chained)
    ∙ other.last in
    cc

pub known_last : (f : Func) → WellFormedFunc f → (b : Block) → Contains f.blocks b → (id y : ValueId)
    → LeavesOf f b (Known id) → IsLast f b y → y ≡ id
known_last f well b there id y leaves last = one_last f well b there y id last leaves.1
