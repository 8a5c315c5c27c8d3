-- What the blocks of an accepted function have: their values can all be placed, a call has a memory select beside it,
-- one definer at the most begins a block, and one inner definer at the most takes a memory.
use Rattle.std.proofs.Common.{◌≡◌, ℕ, zero, suc, ◌<◌, ◌≤◌, ◌⊎◌, inl, inr, Bool, true, false, not, ◌&&◌, ◌||◌}
use Rattle.std.proofs.Common.{if◌then◌else◌, List, [], ◌∷◌, length, filter, map, Option, None, Some, eqb, refl, subst}
use Rattle.std.proofs.Common.{sym, ap, ◌∙◌, arith}
use Rattle.std.specs.List.{All, Contains, flat_map, list_any}
use Rattle.std.proofs.lemmas.Bool.{and_from, and_parts, both_ways, cases_order, lt-ltb, not-true, or_cases, or_left}
use Rattle.std.proofs.lemmas.Bool.{or_right, true_from_ne_false}
use Rattle.std.proofs.lemmas.List.{get_or-map, length-map}
use Rattle.std.proofs.lemmas.List.Elements.{All-contains}
use Rattle.std.proofs.lemmas.Option.{get_or_from_slice_get, slice_get_within}
use Rattle.gossa_base.specs.declared.ids.ValueId.{ValueId}
use Rattle.ssa_ir.specs.declared.func.Block.{Block}
use Rattle.ssa_ir.specs.declared.func.Func.{Func}
use Rattle.ssa_ir.specs.declared.func.SsaUnit.{SsaUnit}
use Rattle.ssa_ir.specs.declared.func.Value.{Value}
use Rattle.ssa_ir.specs.FirstOrder.{has_value, memory_taken, same_value, selects}
use Rattle.ssa_ir.specs.OpKinds.{is_call, is_follower, is_phi, is_arg, is_init}
use Rattle.ssa_ir.specs.Limits.{tuple_words}
use Rattle.ssa_ir.specs.Lookups.{is_numbered, value_of, values_of, named_by}
use Rattle.ssa_ir.specs.WellFormed.{Differ, WellFormedFunc}
use Rattle.ssa_check.specs.declared.refusal.Check.TheVariants.{Arity, ArgOrInit, Callee, Cycle, PhiArity}
use Rattle.ssa_check.specs.CalleeCheck.{call_holds, callee, callee_holds, has_lower_twin, has_memory_select, is_class}
use Rattle.ssa_check.specs.CalleeCheck.{matches, result_class, select_holds, selects_of}
use Rattle.ssa_ir.specs.Classes.{is_memory}
use Rattle.block_order.specs.LowestOnCycle.{HasItems}
use Rattle.ssa_ir.specs.MemoryChains.{Chained, IsChain, begins_memory, inner_of, is_inner, is_memory_phi, is_store}
use Rattle.ssa_ir.specs.MemoryChains.{memory_of, taken_by, takes, takes_inner}
use Rattle.accepted_laws.specs.PathLaws.{AcceptedFunc}
use Rattle.ssa_check.specs.ValueChecks.{arg_holds, arg_or_init_holds, init_holds, is_lower, phi_holds}
use Rattle.ssa_ir.specs.Edges.{is_entry}
use Rattle.ssa_check.proofs.ChainLemmas.{inner_apart, linked_step, no_repeat, takes_number, takes_one, takes_some_inner}
use Rattle.ssa_check.proofs.ChainWalkLemmas.{find_nowhere, find_there}
use Rattle.ssa_check.proofs.CyclePlaces.{has_items}
use Rattle.accepted_laws.proofs.DefinedLemmas.{meets_all, one_block, well_formed_func}
use Rattle.accepted_laws.proofs.FirstOrderLemmas.{has_from, one_value, stands_has}
use Rattle.accepted_laws.proofs.FirstOrderWhole.{Orderly}
use Rattle.gossa_base.proofs.ListPlaces.{At, all_at, any_at, at_contains, contains_at, find_any, same_at, Stands}
use Rattle.block_order.proofs.ItemOwners.{equal_numbers, same_numbers, select_arg, selects_only}
use Rattle.accepted_laws.proofs.MemoryLawLemmas.{no_value_fails}
use Rattle.block_order.proofs.StandingLemmas.{Differing, differing_one}
use Rattle.gossa_base.proofs.ListStanding.{stands_either, stands_filter, stands_here, stands_later, stands_left}
use Rattle.gossa_base.proofs.ListStanding.{stands_not, stands_right}

-- ---- numbers

differing_numbers : (values : List Value) → Differ (map (λ v. v.id.0) values) → Differing values
differing_numbers [] h = tt
differing_numbers (v ∷ values) h = (
  absent,
  differing_numbers values (λ i j d before within. h (suc i) (suc j) d (omega (arith, before))
      (omega (arith, within))),
)
  where
    absent : (x : Value) → Stands values x → v.id.0 ≡ x.id.0 → ⊥
    absent x (k, at) same =
        let inside : k < length values = slice_get_within values k x at in
        h zero (suc k) v.id.0 (omega arith) (omega (arith, inside, length-map values (λ (z : Value). z.id.0)))
        (same ∙ sym (get_or-map (λ (z : Value). z.id.0) values k v v.id.0 inside
        ∙ ap (λ (z : Value). z.id.0) (get_or_from_slice_get values k x v at)))

-- ---- the values of all blocks

abbrev all_of : List Block → List Value
all_of blocks = flat_map (λ (c : Block). c.values) blocks

pub stands_flat : (blocks : List Block) (b : Block) (v : Value) → Stands blocks b → Stands b.values v
    → Stands (all_of blocks) v
stands_flat [] b v there stands = absurd (stands_not b there)
stands_flat (c ∷ blocks) b v there stands = go (λ rest. stands_flat blocks b v rest stands)
    (stands_here c blocks b there)
  where
    go : (Stands blocks b → Stands (all_of blocks) v) → (c ≡ b) ⊎ Stands blocks b → Stands (all_of (c ∷ blocks)) v
    go again (inl one) =
        stands_left c.values (all_of blocks) v (subst (λ (x : Block). Stands x.values v) (sym one) stands)
    go again (inr rest) = stands_right c.values (all_of blocks) v (again rest)

abbrev InSome : List Block → Value → Type 0
InSome blocks v = (b : Block) × Stands blocks b × Stands b.values v

flat_stands : (blocks : List Block) (v : Value) → Stands (all_of blocks) v → InSome blocks v
flat_stands [] v there = absurd (stands_not v there)
flat_stands (c ∷ blocks) v there = go (flat_stands blocks v) (stands_either c.values (all_of blocks) v there)
  where
    later : InSome blocks v → InSome (c ∷ blocks) v
    later (b, is, stands) = (b, stands_later c blocks b is, stands)

    go : (Stands (all_of blocks) v → InSome blocks v) → Stands c.values v ⊎ Stands (all_of blocks) v
        → InSome (c ∷ blocks) v
    go again (inl here) = (c, (zero, refl), here)
    go again (inr rest) = later (again rest)

-- a value is the one of its number
pub value_stands : (f : Func) → WellFormedFunc f → (v : Value) (id : ValueId) → Stands (values_of f) v → v.id.0 ≡ id.0
    → value_of f id ≡ Some v
value_stands f well v id there same = by_found (value_of f id) refl
  where
    by_found : (o : Option Value) → value_of f id ≡ o → o ≡ Some v
    by_found None e =
        absurd (both_ways (list_any (is_numbered id) (values_of f)) (find_nowhere (is_numbered id) (values_of f) e)
        (any_at (is_numbered id) (values_of f) there.0 v there.1 (equal_numbers v.id id same)))
    by_found (Some w) e =
        let found : Contains (values_of f) w × (is_numbered id w ≡ true) = find_there (is_numbered id)
        (values_of f) w e in
        ap Some
        (differing_one (values_of f) (differing_numbers (values_of f) well.values_differ) w v
        (contains_at (values_of f) w found.0) there (same_numbers w.id id found.1 ∙ sym same))

-- ---- lists of one element at the most

few_one : {X : Type 0} (xs : List X) → length xs ≤ 1 → (x y : X) → Stands xs x → Stands xs y → x ≡ y
few_one [] few x y in_x in_y = absurd (stands_not x in_x)
few_one (v ∷ []) few x y (zero, at) (zero, also) = same_at (v ∷ []) zero x y at also
few_one (v ∷ []) few x y (zero, at) (suc k, also) = cc
few_one (v ∷ []) few x y (suc k, at) in_y = cc
few_one (v ∷ w ∷ xs) few x y in_x in_y = absurd (omega (arith, few))

-- ---- chains: one inner definer at the most takes a memory

module _ (f : Func) (well : WellFormedFunc f) (b : Block) (there : Contains f.blocks b) where
  abbrev IsInner : Value → Type 0
  IsInner x = Contains (inner_of b) x

  -- what takes the memory of an inner definer takes an inner one
  takes_it : (x p : Value) (m : ValueId) → IsInner p → p.id.0 ≡ m.0 → takes f x m ≡ true → takes_inner f b x ≡ true
  takes_it x p m in_p same t = takes_some_inner f b x p in_p (takes_number f x m p.id (sym same) t)

  taker_places : (d : Value) (rest : List Value) → All IsInner (d ∷ rest) → IsChain f b (d ∷ rest)
      → (x y : Value) (m : ValueId)
      → takes f x m ≡ true → takes f y m ≡ true → (i j : ℕ) → At (d ∷ rest) i x → At (d ∷ rest) j y → x ≡ y
  taker_places d rest within chain x y m takes_x takes_y zero zero at_x at_y = same_at (d ∷ rest) zero x y at_x at_y
  taker_places d rest within chain x y m takes_x takes_y zero (suc j) at_x at_y =
      let p : (z : Value) × At (d ∷ rest) j z × (takes f y z.id ≡ true) = linked_step f d rest chain.1 j y at_y in
      let in_p : IsInner p.0 = all_at IsInner (d ∷ rest) j p.0 within p.1 in
      let one : d ≡ x = cc in
      absurd (both_ways (takes_inner f b x) (subst (λ v. takes_inner f b v ≡ false) one chain.0)
      (takes_it x p.0 m in_p (takes_one f y p.0.id m p.2 takes_y) takes_x))
  taker_places d rest within chain x y m takes_x takes_y (suc i) zero at_x at_y =
      let p : (z : Value) × At (d ∷ rest) i z × (takes f x z.id ≡ true) = linked_step f d rest chain.1 i x at_x in
      let in_p : IsInner p.0 = all_at IsInner (d ∷ rest) i p.0 within p.1 in
      let one : d ≡ y = cc in
      absurd (both_ways (takes_inner f b y) (subst (λ v. takes_inner f b v ≡ false) one chain.0)
      (takes_it y p.0 m in_p (takes_one f x p.0.id m p.2 takes_x) takes_y))
  taker_places d rest within chain x y m takes_x takes_y (suc i) (suc j) at_x at_y = by_order (cases_order i j)
    where
      p : (z : Value) × At (d ∷ rest) i z × (takes f x z.id ≡ true)
      p = linked_step f d rest chain.1 i x at_x

      q : (z : Value) × At (d ∷ rest) j z × (takes f y z.id ≡ true)
      q = linked_step f d rest chain.1 j y at_y

      same : p.0.id.0 ≡ q.0.id.0
      same = takes_one f x p.0.id m p.2 takes_x ∙ sym (takes_one f y q.0.id m q.2 takes_y)

      by_order : (i ≡ j) ⊎ ((i < j) ⊎ (j < i)) → x ≡ y
      by_order (inl e) = same_at (d ∷ rest) (suc i) x y at_x (subst (λ k. At (d ∷ rest) (suc k) y) (sym e) at_y)
      by_order (inr (inl lt)) =
          absurd (no_repeat f b (inner_apart f well b there) d rest within chain i j p.0 q.0 p.1 q.1 same lt)
      by_order (inr (inr lt)) =
          absurd (no_repeat f b (inner_apart f well b there) d rest within chain j i q.0 p.0 q.1 p.1 (sym same) lt)

  taker_chain : (chain : List Value) → All IsInner chain → IsChain f b chain → (x y : Value) (m : ValueId)
      → takes f x m ≡ true → takes f y m ≡ true → Stands chain x → Stands chain y → x ≡ y
  taker_chain [] within chain x y m takes_x takes_y in_x in_y = absurd (stands_not x in_x)
  taker_chain (d ∷ rest) within chain x y m takes_x takes_y (i, at_x) (j, at_y) =
      taker_places d rest within chain x y m takes_x takes_y i j at_x at_y

  in_chain : (c : Chained f b) (x : Value) → IsInner x → Stands c.chain x
  in_chain c x in_x = contains_at c.chain x (All-contains (Contains c.chain) (inner_of b) x c.whole in_x)

  pub one_taker : Chained f b → (x y : Value) (m : ValueId) → IsInner x → IsInner y → takes f x m ≡ true
      → takes f y m ≡ true → x ≡ y
  one_taker c x y m in_x in_y takes_x takes_y =
      taker_chain c.chain c.within c.in_order x y m takes_x takes_y (in_chain c x in_x) (in_chain c y in_y)

-- ---- what the checks of values by themselves give

module _ (u : SsaUnit) (f : Func) (h : AcceptedFunc u f) where
  abbrev well : WellFormedFunc f
  well = well_formed_func u f h

  no_lower_init : (v w : Value) → Stands (values_of f) w → is_init w.op ≡ true → w.id.0 < v.id.0
      → list_any (λ x. is_init x.op && is_lower x v) (values_of f) ≡ true
  no_lower_init v w (k, at) init lower =
      any_at (λ x. is_init x.op && is_lower x v) (values_of f) k w at
      (and_from (is_init w.op) (is_lower w v) init (lt-ltb w.id.0 v.id.0 lower))

  module _ (b : Block) (there : Contains f.blocks b) where
    in_func : (v : Value) → Stands b.values v → Stands (values_of f) v
    in_func v stands = stands_flat f.blocks b v (contains_at f.blocks b there) stands

    in_block : (v : Value) → Stands b.values v → Contains b.values v
    in_block v (k, at) = at_contains b.values k v at

    pub items_of : HasItems b.values
    items_of =
        let place : (k : ℕ) × At f.blocks k b = contains_at f.blocks b there in
        has_items u f well (meets_all u f h Arity) place.0 b place.1

    callee_is : (v : Value) → Stands b.values v → callee_holds u f b v ≡ true
    callee_is v stands =
        true_from_ne_false (callee_holds u f b v)
        (λ fails. no_value_fails u f h Callee b there v (in_block v stands) fails)

    -- ---- selects and calls

    -- the call of a select, in its block
    record CallOf (v : Value) : Type 0 where
      call : Value
      stands : Stands b.values call
      calls : is_call call.op ≡ true
      selected : selects call.id v ≡ true

    call_of : (v : Value) → Stands b.values v → is_follower v.op ≡ true → CallOf v
    call_of v stands follows =
        by_part
        (or_cases (not (is_follower v.op)) (select_holds f b v)
        (and_parts (not (is_call v.op) || call_holds u f v) (not (is_follower v.op) || select_holds f b v)
        (callee_is v stands)).1)
      where
        arg : (a : ValueId) × (v.args ≡ a ∷ [])
        arg = select_arg b.values items_of stands.0 v stands.1 follows

        by_value : (call : Value) → value_of f arg.0 ≡ Some call → selects_of f b v (Some call) ≡ true → CallOf v
        by_value call is holds =
            let index : Bool = is_class v (result_class (tuple_words call.ty) v.aux) in
            let both : (is_call call.op && has_value b.values call.id) ≡ true
            = (and_parts (is_call call.op && has_value b.values call.id) index
            (and_parts (is_call call.op && has_value b.values call.id && index)
            (not (has_lower_twin f call.id v)) holds).0).0 in
            let parts : (is_call call.op ≡ true) × (has_value b.values call.id ≡ true)
            = and_parts (is_call call.op) (has_value b.values call.id) both in
            let has : has_value b.values call.id ≡ true = parts.1 in
            let here : (z : Value) × Stands b.values z × (z.id.0 ≡ call.id.0) = has_from b.values call.id has in
            let number : call.id.0 ≡ arg.0.0
            = same_numbers call.id arg.0 (find_there (is_numbered arg.0) (values_of f) call is).1 in
            let found : value_of f arg.0 ≡ Some here.0
            = value_stands f well here.0 arg.0 (in_func here.0 here.1) (here.2 ∙ number) in
            let one : call ≡ here.0 = let e : Some call ≡ Some here.0 = sym is ∙ found in cc in
            record {
              call = here.0;
              stands = here.1;
              calls = subst (λ (z : Value). is_call z.op ≡ true) one parts.0;
              selected =
                  and_from (is_follower v.op) (list_any (same_value here.0.id) v.args) follows
                  (ap (list_any (same_value here.0.id)) arg.1
                  ∙ or_left (same_value here.0.id arg.0) false (equal_numbers here.0.id arg.0 (here.2 ∙ number)));
            }

        by_found : (o : Option Value) → value_of f arg.0 ≡ o → selects_of f b v o ≡ true → CallOf v
        by_found None is holds = cc
        by_found (Some call) is holds = by_value call is holds

        by_part : (not (is_follower v.op) ≡ true) ⊎ (select_holds f b v ≡ true) → CallOf v
        by_part (inl none) = absurd (both_ways (is_follower v.op) (not-true (is_follower v.op) none) follows)
        by_part (inr holds) =
            by_found (value_of f arg.0) refl (sym (ap (λ args. selects_of f b v (named_by f args)) arg.1) ∙ holds)

    -- a select takes the memory of its call
    pub select_takes : (c s : Value) → Stands b.values c → Stands b.values s → selects c.id s ≡ true
        → taken_by f s ≡ memory_taken c.op c.args
    select_takes c s in_c in_s sel =
        let only : (is_follower s.op ≡ true) × ((a : ValueId) × (s.args ≡ a ∷ []) × (c.id.0 ≡ a.0))
        = selects_only b.values items_of in_s.0 s c.id in_s.1 sel in
        ap (λ t. if t then memory_of (named_by f s.args) else memory_taken s.op s.args) only.0
        ∙ ap (λ args. memory_of (named_by f args)) only.1.1
        ∙ ap memory_of (value_stands f well c only.1.0 (in_func c in_c) only.1.2)

    pub orderly : Orderly b.values
    orderly = record {
      has = items_of;
      followed = λ w stands follows. let c : CallOf w = call_of w stands follows in
          (c.call, c.stands, c.calls, c.selected);
      acyclic = λ v stands cycle. no_value_fails u f h Cycle b there v (in_block v stands) cycle;
    }

    -- ---- at the beginning of a block

    abbrev has_all : Value → Bool
    has_all v = eqb (length v.args) (length b.preds)

    phi_not_entry : (v : Value) → Stands b.values v → is_memory_phi v ≡ true → is_entry f b ≡ false
    phi_not_entry v stands phi = by_part (or_cases (not (is_phi v.op)) (not (is_entry f b) && has_all v) holds)
      where
        holds : phi_holds f b v ≡ true
        holds =
            true_from_ne_false (phi_holds f b v)
            (λ fails. no_value_fails u f h PhiArity b there v (in_block v stands) fails)

        by_part : (not (is_phi v.op) ≡ true) ⊎ ((not (is_entry f b) && has_all v) ≡ true) → is_entry f b ≡ false
        by_part (inl none) =
            absurd (both_ways (is_phi v.op) (not-true (is_phi v.op) none)
            (and_parts (is_phi v.op) (is_memory v) phi).0)
        by_part (inr both) = not-true (is_entry f b) (and_parts (not (is_entry f b)) (has_all v) both).0

    init_is : (v : Value) → Stands b.values v → is_init v.op ≡ true → init_holds f b v ≡ true
    init_is v stands init =
        by_part
        (or_cases (not (is_init v.op)) (init_holds f b v)
        (and_parts (not (is_init v.op) || init_holds f b v) (not (is_arg v.op) || arg_holds f b v)
        (true_from_ne_false (arg_or_init_holds f b v)
        (λ fails. no_value_fails u f h ArgOrInit b there v (in_block v stands) fails))).0)
      where
        by_part : (not (is_init v.op) ≡ true) ⊎ (init_holds f b v ≡ true) → init_holds f b v ≡ true
        by_part (inl none) = absurd (both_ways (is_init v.op) (not-true (is_init v.op) none) init)
        by_part (inr holds) = holds

    pub init_in_entry : (v : Value) → Stands b.values v → is_init v.op ≡ true → is_entry f b ≡ true
    init_in_entry v stands init =
        (and_parts (is_entry f b) (not (list_any (λ x. is_init x.op && is_lower x v) (values_of f)))
        (init_is v stands init)).0

    no_lower : (v w : Value) → Stands b.values v → Stands b.values w → is_init v.op ≡ true → is_init w.op ≡ true
        → w.id.0 < v.id.0 → ⊥
    no_lower v w in_v in_w init_v init_w lower =
        both_ways (list_any (λ x. is_init x.op && is_lower x v) (values_of f))
        (not-true (list_any (λ x. is_init x.op && is_lower x v) (values_of f))
        (and_parts (is_entry f b) (not (list_any (λ x. is_init x.op && is_lower x v) (values_of f)))
        (init_is v in_v init_v)).1)
        (no_lower_init v w (in_func w in_w) init_w lower)

    one_init : (v w : Value) → Stands b.values v → Stands b.values w → is_init v.op ≡ true → is_init w.op ≡ true
        → v ≡ w
    one_init v w in_v in_w init_v init_w = by_order (cases_order v.id.0 w.id.0)
      where
        by_order : (v.id.0 ≡ w.id.0) ⊎ ((v.id.0 < w.id.0) ⊎ (w.id.0 < v.id.0)) → v ≡ w
        by_order (inl same) = one_value b.values items_of v w in_v in_w same
        by_order (inr (inl lt)) = absurd (no_lower w v in_w in_v init_w init_v lt)
        by_order (inr (inr lt)) = absurd (no_lower v w in_v in_w init_v init_w lt)

    -- one definer at the most begins the block
    pub one_begins : Chained f b → (v w : Value) → Stands b.values v → Stands b.values w → begins_memory v ≡ true
        → begins_memory w ≡ true → v ≡ w
    one_begins c v w in_v in_w begins_v begins_w =
        go (or_cases (is_init v.op) (is_memory_phi v) begins_v) (or_cases (is_init w.op) (is_memory_phi w) begins_w)
      where
        apart : (x y : Value) → Stands b.values x → Stands b.values y → is_init x.op ≡ true → is_memory_phi y ≡ true
            → ⊥
        apart x y in_x in_y init phi = both_ways (is_entry f b) (phi_not_entry y in_y phi) (init_in_entry x in_x init)

        go : (is_init v.op ≡ true) ⊎ (is_memory_phi v ≡ true) → (is_init w.op ≡ true) ⊎ (is_memory_phi w ≡ true)
            → v ≡ w
        go (inl one) (inl other) = one_init v w in_v in_w one other
        go (inl init) (inr phi) = absurd (apart v w in_v in_w init phi)
        go (inr phi) (inl init) = absurd (apart w v in_w in_v init phi)
        go (inr one) (inr other) =
            few_one (filter is_memory_phi b.values) c.one_phi v w (stands_filter is_memory_phi b.values v in_v one)
            (stands_filter is_memory_phi b.values w in_w other)

  -- ---- the memory select of a call stands in its block

  abbrev pub MemorySelect : Block → Value → Type 0
  MemorySelect b c = (s : Value) × Stands b.values s × (selects c.id s ≡ true) × (is_inner s ≡ true)

  pub memory_select : (b : Block) (there : Contains f.blocks b) (c : Value) → Stands b.values c → is_call c.op ≡ true
      → MemorySelect b c
  memory_select b there c stands calls =
      by_part
      (or_cases (not (is_call c.op)) (call_holds u f c)
      (and_parts (not (is_call c.op) || call_holds u f c) (not (is_follower c.op) || select_holds f b c)
      (callee_is b there c stands)).0)
    where
      in_its_block : (s : Value) → selects c.id s ≡ true → is_memory s ≡ true → InSome f.blocks s → MemorySelect b c
      in_its_block s sel memory (d, (k, at), in_d) =
          let of : Contains f.blocks d = at_contains f.blocks k d at in
          let follows : is_follower s.op ≡ true =
          (and_parts (is_follower s.op) (list_any (same_value c.id) s.args) sel).0 in
          let call : CallOf d of s = call_of d of s in_d follows in
          let a : (is_follower s.op ≡ true) × ((a : ValueId) × (s.args ≡ a ∷ []) × (c.id.0 ≡ a.0))
          = selects_only d.values (items_of d of) in_d.0 s c.id in_d.1 sel in
          let e : (is_follower s.op ≡ true) × ((a : ValueId) × (s.args ≡ a ∷ []) × (call.call.id.0 ≡ a.0))
          = selects_only d.values (items_of d of) in_d.0 s call.call.id in_d.1 call.selected in
          let lists : a.1.0 ∷ [] ≡ e.1.0 ∷ [] = sym a.1.1 ∙ e.1.1 in
          let one : a.1.0 ≡ e.1.0 = cc in
          let number : call.call.id.0 ≡ c.id.0 = e.1.2 ∙ ap (λ (z : ValueId). z.0) (sym one) ∙ sym a.1.2 in
          let block : b ≡ d
          = one_block f well b d c.id there of (stands_has b.values c.id c stands refl)
          (stands_has d.values c.id call.call call.stands number) in (
            s,
            subst (λ (x : Block). Stands x.values s) (sym block) in_d,
            sel,
            or_right (is_store s.op) (is_follower s.op && is_memory s)
                (and_from (is_follower s.op) (is_memory s) follows memory),
          )

      by_found : ((k : ℕ) × (s : Value) × At (values_of f) k s × ((selects c.id s && is_memory s) ≡ true))
          → MemorySelect b c
      by_found (k, s, at, both) =
          let parts : (selects c.id s ≡ true) × (is_memory s ≡ true) = and_parts (selects c.id s) (is_memory s) both in
          in_its_block s parts.0 parts.1 (flat_stands f.blocks s (k, at))

      by_part : (not (is_call c.op) ≡ true) ⊎ (call_holds u f c ≡ true) → MemorySelect b c
      by_part (inl none) = absurd (both_ways (is_call c.op) (not-true (is_call c.op) none) calls)
      by_part (inr holds) =
          by_found (find_any (λ s. selects c.id s && is_memory s) (values_of f)
          (and_parts (matches f c (callee u c.sym)) (has_memory_select f c) holds).1)
