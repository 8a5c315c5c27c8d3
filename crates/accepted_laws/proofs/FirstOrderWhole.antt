-- Where no values of a block wait for each other in a circle, and each select stands with a call of the block, the
-- first order has all values of the block: of values that are left, all waiting for others, some would be on a cycle.
use Rattle.std.proofs.Common.{◌≡◌, ℕ, zero, suc, ◌⊎◌, inl, inr, Bool, true, false, not, ◌&&◌, ◌||◌, List, [], ◌∷◌, ◌++◌}
use Rattle.std.proofs.Common.{length, filter, append_assoc, Option, None, Some, refl, subst, sym, ap, ◌∙◌, arith}
use Rattle.std.specs.List.{All, Contains, list_all, list_any}
use Rattle.std.proofs.lemmas.Bool.{and_cases, and_from, and_parts, both_ways, false_from_ne_true, not_from_false}
use Rattle.std.proofs.lemmas.Bool.{or_left, or_right}
use Rattle.std.proofs.lemmas.List.Elements.{All-cons, All-head, All-nil, All-tail}
use Rattle.gossa_base.specs.declared.ids.ValueId.{ValueId}
use Rattle.ssa_ir.specs.declared.func.Value.{Value}
use Rattle.ssa_ir.specs.FirstOrder.{first_order, has_value, is_placed, is_ready, item, memory_taken, placed_next}
use Rattle.ssa_ir.specs.FirstOrder.{readers_before, same_memory, same_value, selects, split_ready}
use Rattle.ssa_ir.specs.OpKinds.{changes_memory, is_call, is_follower, is_phi, reads_memory}
use Rattle.ssa_ir.specs.Cycles.{CycleThrough, IsWalk, OnCycle, follows_a_call, leaders, names_its_call, stands_before}
use Rattle.ssa_ir.specs.Cycles.{takes_of, takes_one}
use Rattle.block_order.specs.LowestOnCycle.{HasItems}
use Rattle.gossa_base.proofs.ListPlaces.{At, any_at, at_contains, find_any, Stands}
use Rattle.block_order.proofs.ItemOwners.{call_no_follower, call_no_phi}
use Rattle.accepted_laws.proofs.FirstOrderLemmas.{Chosen, Left, OfItem, has_from, is_other, is_other_by, left_after}
use Rattle.accepted_laws.proofs.FirstOrderLemmas.{next_from, other_no_follower, other_no_phi, others, others_left}
use Rattle.accepted_laws.proofs.FirstOrderLemmas.{reads_no_follower, select_follows, select_in_item, split_none}
use Rattle.accepted_laws.proofs.FirstOrderLemmas.{split_some, stands_has}
use Rattle.gossa_base.proofs.ListStanding.{Fails, Split, filter_stands, some_fails, split_at, stands_either}
use Rattle.gossa_base.proofs.ListStanding.{stands_filter, stands_here, stands_later, stands_left, stands_not}
use Rattle.gossa_base.proofs.ListStanding.{stands_right}

-- a block whose values can all be placed
pub record Orderly (block : List Value) : Type 0 where
  pub has : HasItems block
  pub followed : (w : Value) → Stands block w → is_follower w.op ≡ true
      → (c : Value) × Stands block c × (is_call c.op ≡ true) × (selects c.id w ≡ true)
  pub acyclic : (v : Value) → Stands block v → OnCycle block v → ⊥

-- ---- values that all wait for each other are on a cycle

module _ (block : List Value) where
  -- each value stands before the next
  abbrev Trail : Value → List Value → Type 0
  Trail x [] = Unit {0}
  Trail x (y ∷ seen) = (stands_before block x y ≡ true) × Trail y seen

  abbrev AreItems : List Value → Type 0
  AreItems values = All (Contains (leaders block)) values

  record Back (w y : Value) : Type 0 where
    between : List Value
    are_items : AreItems between
    is_walk : IsWalk block w between y

  -- a walk along a trail up to one of its values
  trail_walk : (w x : Value) (seen : List Value) → stands_before block w x ≡ true → Trail x seen → AreItems (x ∷ seen)
      → (y : Value) → Stands (x ∷ seen) y → Back w y
  trail_walk w x seen step trail items y (zero, at) =
      let same : x ≡ y = cc in
      record {
        between = [];
        are_items = All-nil (Contains (leaders block));
        is_walk = subst (λ z. stands_before block w z ≡ true) same step;
      }
  trail_walk w x [] step trail items y (suc k, at) = cc
  trail_walk w x (z ∷ seen) step trail items y (suc k, at) =
      more (trail_walk x z seen trail.0 trail.1 (All-tail (Contains (leaders block)) x (z ∷ seen) items) y (k, at))
    where
      more : Back x y → Back w y
      more back = record {
        between = x ∷ back.between;
        are_items =
            All-cons (Contains (leaders block)) x back.between
            (All-head (Contains (leaders block)) x (z ∷ seen) items) back.are_items;
        is_walk = (step, back.is_walk);
      }

  removed : (front back : List Value) (w : Value) → length (front ++ w ∷ back) ≡ suc (length (front ++ back))
  removed [] back w = refl
  removed (x ∷ front) back w = ap suc (removed front back w)

  module _ (rest : List Value) (leads : (u : Value) → Stands rest u → Contains (leaders block) u)
      (waits : (u : Value) → Stands rest u → (w : Value) × Stands rest w × (stands_before block w u ≡ true)) where
    abbrev Circle : Type 0
    Circle = (y : Value) × Stands rest y × CycleThrough block y

    closed : (w : Value) → Stands rest w → Back w w → Circle
    closed w there back = (
      w,
      there,
      record {
        rest = back.between;
        are_items = All-cons (Contains (leaders block)) w back.between (leads w there) back.are_items;
        is_walk = back.is_walk;
      },
    )

    abbrev EachSeen : (seen unseen : List Value) → Type 0
    EachSeen seen unseen = (z : Value) → Stands rest z → Stands seen z ⊎ Stands unseen z

    new_seen : (seen front back : List Value) (w z : Value) → Stands seen z ⊎ Stands (front ++ w ∷ back) z
        → Stands (w ∷ seen) z ⊎ Stands (front ++ back) z
    new_seen seen front back w z (inl before) = inl (stands_later w seen z before)
    new_seen seen front back w z (inr ahead) = by_part (stands_either front (w ∷ back) z ahead)
      where
        by_first : (w ≡ z) ⊎ Stands back z → Stands (w ∷ seen) z ⊎ Stands (front ++ back) z
        by_first (inl one) = inl (zero, ap Some one)
        by_first (inr behind) = inr (stands_right front back z behind)

        by_part : Stands front z ⊎ Stands (w ∷ back) z → Stands (w ∷ seen) z ⊎ Stands (front ++ back) z
        by_part (inl here) = inr (stands_left front back z here)
        by_part (inr behind) = by_first (stands_here w back z behind)

    part : (seen unseen : List Value) (w : Value) → Stands seen w ⊎ Stands unseen w → Stands seen w ⊎ Split unseen w
    part seen unseen w (inl before) = inl before
    part seen unseen w (inr ahead) = inr (split_at unseen w ahead)

    -- the trail goes back to a value of it, or to one not seen yet
    circle : (n : ℕ) (unseen : List Value) → length unseen ≡ n → (x : Value) (seen : List Value) → Trail x seen
        → AreItems (x ∷ seen) → EachSeen (x ∷ seen) unseen → (w : Value) → Stands rest w
        → stands_before block w x ≡ true
        → Stands (x ∷ seen) w ⊎ Split unseen w → Circle
    circle n unseen many x seen trail items each w is step (inl before) =
        closed w is (trail_walk w x seen step trail items w before)
    circle zero unseen many x seen trail items each w is step (inr (front, back, split)) =
        let long : length unseen ≡ suc (length (front ++ back)) = ap length split ∙ removed front back w in
        absurd (omega (arith, many, long))
    circle (suc n) unseen many x seen trail items each w is step (inr (front, back, split)) =
        let long : length unseen ≡ suc (length (front ++ back)) = ap length split ∙ removed front back w in
        let seen_now : EachSeen (w ∷ x ∷ seen) (front ++ back)
        = λ z in_rest. new_seen (x ∷ seen) front back w z (subst (λ l. Stands (x ∷ seen) z
        ⊎ Stands l z) split (each z in_rest)) in
        let next : (v : Value) × Stands rest v × (stands_before block v w ≡ true) = waits w is in
        circle n (front ++ back) (omega (arith, many, long)) w (x ∷ seen) (step, trail)
        (All-cons (Contains (leaders block)) w (x ∷ seen) (leads w is) items) seen_now next.0 next.1 next.2
        (part (w ∷ x ∷ seen) (front ++ back) next.0 (seen_now next.0 next.1))

    some_circle : (x : Value) → Stands rest x → Circle
    some_circle x there =
        let next : (v : Value) × Stands rest v × (stands_before block v x ≡ true) = waits x there in
        circle (length rest) rest refl x [] tt
        (All-cons (Contains (leaders block)) x [] (leads x there) (All-nil (Contains (leaders block))))
        (λ z is. inr is) next.0 next.1 next.2 (part (x ∷ []) rest next.0 (inr next.1))

-- ---- what a value that isn't ready waits for

module _ (block : List Value) (orderly : Orderly block) where
  abbrev phis_of : List Value
  phis_of = filter (λ v. is_phi v.op) block

  abbrev others_of : List Value
  others_of = others block orderly.has

  -- phis are placed, and each other item is placed or left
  record Covers (placed rest : List Value) : Type 0 where
    left : Left block rest
    phis : (x : Value) → Stands phis_of x → Stands placed x
    items : (l : Value) → Stands others_of l → Stands rest l
        ⊎ ((x : Value) → Stands (item block l) x → Stands placed x)

  leader_of : (l : Value) → Stands block l → is_other l ≡ true → Contains (leaders block) l
  leader_of l there other =
      let kept : Stands (leaders block) l
      = stands_filter (λ v. not (is_phi v.op) && not (follows_a_call block v)) block l there
      (and_from (not (is_phi l.op)) (not (follows_a_call block l))
      (not_from_false (is_phi l.op) (other_no_phi l other))
      (not_from_false (follows_a_call block l) (false_from_ne_true (follows_a_call block l) follows_not))) in
      at_contains (leaders block) kept.0 l kept.1
    where
      from_found : ((k : ℕ) × (c : Value) × At block k c × ((is_call c.op && selects c.id l) ≡ true)) → ⊥
      from_found (k, c, at, both) =
          both_ways (is_follower l.op) (other_no_follower l other)
          (select_follows c.id l (and_parts (is_call c.op) (selects c.id l) both).1)

      follows_not : follows_a_call block l ≡ true → ⊥
      follows_not h = from_found (find_any (λ c. is_call c.op && selects c.id l) block h)

  -- a value of the block is a phi, or of an item of the others
  data Kind (x : Value) : Type 0 where
    of_phis : Stands phis_of x → Kind x
    of_others : (l : Value) → Stands others_of l → OfItem block l x → Kind x

  kind_of : (x : Value) → Stands block x → Kind x
  kind_of x there = by_phi (is_phi x.op) refl
    where
      by_call : ((c : Value) × Stands block c × (is_call c.op ≡ true) × (selects c.id x ≡ true)) → Kind x
      by_call (c, is, call, sel) =
          of_others c
          (stands_filter is_other block c is (is_other_by c (call_no_follower c.op call) (call_no_phi c.op call)))
          (inr (call, there, sel))

      by_follower : is_phi x.op ≡ false → (b : Bool) → is_follower x.op ≡ b → Kind x
      by_follower no_phi true e = by_call (orderly.followed x there e)
      by_follower no_phi false e = of_others x (stands_filter is_other block x there (is_other_by x e no_phi))
          (inl refl)

      by_phi : (b : Bool) → is_phi x.op ≡ b → Kind x
      by_phi true e = of_phis (stands_filter (λ v. is_phi v.op) block x there e)
      by_phi false e = by_follower e (is_follower x.op) refl

  in_item : (l x : Value) → OfItem block l x → Stands (item block l) x
  in_item l x (inl one) = (zero, ap Some one)
  in_item l x (inr (call, there, sel)) = select_in_item block l x call there sel

  module _ (placed rest : List Value) (covers : Covers placed rest) where
    -- a value of the block is placed, or its item is left
    of_value : (x : Value) → Stands block x → Stands placed x ⊎ ((l : Value) × Stands rest l × OfItem block l x)
    of_value x there = by_kind (kind_of x there)
      where
        by_item : (l : Value) → OfItem block l x
            → Stands rest l ⊎ ((y : Value) → Stands (item block l) y → Stands placed y)
            → Stands placed x ⊎ ((l : Value) × Stands rest l × OfItem block l x)
        by_item l of (inl left) = inr (l, left, of)
        by_item l of (inr all) = inl (all x (in_item l x of))

        by_kind : Kind x → Stands placed x ⊎ ((l : Value) × Stands rest l × OfItem block l x)
        by_kind (of_phis phi) = inl (covers.phis x phi)
        by_kind (of_others l is of) = by_item l of (covers.items l is)

    abbrev Waits : Value → Type 0
    Waits u = (w : Value) × Stands rest w × (stands_before block w u ≡ true)

    own_name : (u : Value) (a : ValueId) → is_other u ≡ true → names_its_call u u a ≡ false
    own_name u a other = by_op (is_call u.op)
      where
        by_op : (b : Bool) → ((b && selects u.id u) && same_value u.id a) ≡ false
        by_op false = refl
        by_op true =
            ap (λ c. (c && list_any (same_value u.id) u.args) && same_value u.id a) (other_no_follower u other)

    takes_from : (l u : Value) (a : ValueId) → is_other u ≡ true → Stands u.args a → has_value (item block l) a ≡ true
        → stands_before block l u ≡ true
    takes_from l u a other (k, at) has =
        or_left (takes_of block l u) (changes_memory u.op && has_value (readers_before block u) l.id)
        (any_at (λ w. list_any (takes_one block l u w) w.args) (item block u) zero u refl
        (any_at (takes_one block l u u) u.args k a at
        (and_from (has_value (item block l) a) (not (names_its_call u u a)) has
        (not_from_false (names_its_call u u a) (own_name u a other)))))

    unplaced : (x : Value) → has_value placed x.id ≡ false → Stands placed x → ⊥
    unplaced x none there = both_ways (has_value placed x.id) none (stands_has placed x.id x there refl)

    by_arg : (u : Value) → is_other u ≡ true → Fails (is_placed block placed) u.args → Waits u
    by_arg u other (a, there, fails) =
        by_tests (has_value block a) refl (has_value placed a) refl fails
      where
        by_place : (z : Value) → z.id.0 ≡ a.0 → has_value placed a ≡ false
            → Stands placed z ⊎ ((l : Value) × Stands rest l × OfItem block l z) → Waits u
        by_place z same none (inl is) =
            absurd (both_ways (has_value placed a) none (stands_has placed a z is same))
        by_place z same none (inr (l, left, of)) =
            (l, left, takes_from l u a other there (stands_has (item block l) a z (in_item l z of) same))

        by_value : has_value placed a ≡ false → ((z : Value) × Stands block z × (z.id.0 ≡ a.0)) → Waits u
        by_value none (z, is, same) = by_place z same none (of_value z is)

        by_tests : (s : Bool) → has_value block a ≡ s → (t : Bool) → has_value placed a ≡ t → (not s || t) ≡ false
            → Waits u
        by_tests false e t d h = cc
        by_tests true e true d h = cc
        by_tests true e false d h = by_value d (has_from block a e)

    by_reader : (u : Value) → changes_memory u.op ≡ true
        → Fails (λ (r : Value). has_value placed r.id) (readers_before block u) → Waits u
    by_reader u changes (r, there, none) = by_place (of_value r of_block.0)
      where
        of_block : Stands block r × ((reads_memory r.op && same_memory (memory_taken r.op r.args)
            (memory_taken u.op u.args)) ≡ true)
        of_block =
            filter_stands (λ s. reads_memory s.op && same_memory (memory_taken s.op s.args)
            (memory_taken u.op u.args)) block r there

        before : stands_before block r u ≡ true
        before =
            or_right (takes_of block r u) (changes_memory u.op && has_value (readers_before block u) r.id)
            (and_from (changes_memory u.op) (has_value (readers_before block u) r.id) changes
            (stands_has (readers_before block u) r.id r there refl))

        no_select : is_follower r.op ≡ false
        no_select =
            reads_no_follower r.op
            (and_parts (reads_memory r.op) (same_memory (memory_taken r.op r.args)
            (memory_taken u.op u.args)) of_block.1).0

        by_place : Stands placed r ⊎ ((l : Value) × Stands rest l × OfItem block l r) → Waits u
        by_place (inl is) = absurd (unplaced r none is)
        by_place (inr (l, left, inl one)) = (r, subst (Stands rest) one left, before)
        by_place (inr (l, left, inr (call, is, sel))) =
            absurd (both_ways (is_follower r.op) no_select (select_follows l.id r sel))

    waits_for : (u : Value) → Stands rest u → is_ready block placed u ≡ false → Waits u
    waits_for u there not_ready =
        by_part
        (and_cases (list_all (is_placed block placed) u.args)
        (not (changes_memory u.op) || list_all (λ r. has_value placed r.id) (readers_before block u)) not_ready)
      where
        by_change : (c : Bool) → changes_memory u.op ≡ c
            → (not c || list_all (λ r. has_value placed r.id) (readers_before block u)) ≡ false → Waits u
        by_change false e h = cc
        by_change true e h = by_reader u e (some_fails (λ r. has_value placed r.id) (readers_before block u) h)

        by_part : (list_all (is_placed block placed) u.args ≡ false)
            ⊎ ((not (changes_memory u.op) || list_all (λ r. has_value placed r.id) (readers_before block u)) ≡ false)
            → Waits u
        by_part (inl args) = by_arg u (covers.left.others u there) (some_fails (is_placed block placed) u.args args)
        by_part (inr readers) = by_change (changes_memory u.op) refl readers

    -- so some value is ready, where some are left
    never_stuck : (x : Value) → Stands rest x → split_ready block placed rest ≡ None → ⊥
    never_stuck x there none =
        by_circle
        (some_circle block rest (λ u is. leader_of u (covers.left.of_block u is) (covers.left.others u is))
        (λ u is. waits_for u is (split_none block placed rest none u is)) x there)
      where
        by_circle : ((y : Value) × Stands rest y × CycleThrough block y) → ⊥
        by_circle (y, is, cycle) =
            orderly.acyclic y (covers.left.of_block y is)
            (record { leader = y; is_of_item = stands_has (item block y) y.id y (zero, refl) refl; cycle = cycle })

  covers_more : (placed rest : List Value) → Covers placed rest → (w : Value) (more : List Value)
      → Chosen block placed rest w more → Covers (placed ++ item block w) more
  covers_more placed rest covers w more c = record {
    left = left_after block placed rest w more c covers.left;
    phis = λ x phi. stands_left placed (item block w) x (covers.phis x phi);
    items = λ l is. go l (covers.items l is);
  }
    where
      by_chosen : (l : Value) → (w ≡ l) ⊎ Stands more l
          → Stands more l ⊎ ((x : Value) → Stands (item block l) x → Stands (placed ++ item block w) x)
      by_chosen l (inl one) =
          inr (λ x there. stands_right placed (item block w) x (subst (λ z. Stands (item block z) x) (sym one) there))
      by_chosen l (inr left) = inl left

      go : (l : Value) → Stands rest l ⊎ ((x : Value) → Stands (item block l) x → Stands placed x)
          → Stands more l ⊎ ((x : Value) → Stands (item block l) x → Stands (placed ++ item block w) x)
      go l (inl left) = by_chosen l (c.leaves l left)
      go l (inr all) = inr (λ x there. stands_left placed (item block w) x (all x there))

  all_placed : (n : ℕ) (placed rest : List Value) → length rest ≡ n → Covers placed rest → (x : Value) → Stands block x
      → Stands (placed ++ placed_next n block placed rest) x
  all_placed zero placed [] many covers x there = by_place (of_value placed [] covers x there)
    where
      by_place : Stands placed x ⊎ ((l : Value) × Stands [] l × OfItem block l x) → Stands (placed ++ []) x
      by_place (inl is) = stands_left placed [] x is
      by_place (inr (l, left, of)) = absurd (stands_not l left)
  all_placed zero placed (u ∷ rest) many covers x there = absurd (omega (arith, many))
  all_placed (suc n) placed [] many covers x there = absurd (omega (arith, many))
  all_placed (suc n) placed (u ∷ rest) many covers x there =
      by_choice (split_ready block placed (u ∷ rest)) refl (all_placed n)
    where
      by_choice : (o : Option (Value × List Value)) → split_ready block placed (u ∷ rest) ≡ o
          → ((at : List Value) (more : List Value) → length more ≡ n → Covers at more → (y : Value) → Stands block y
          → Stands (at ++ placed_next n block at more) y)
          → Stands (placed ++ next_from n block placed o) x
      by_choice None e again = absurd (never_stuck placed (u ∷ rest) covers u (zero, refl) e)
      by_choice (Some (w, more)) e again =
          let c : Chosen block placed (u ∷ rest) w more = split_some block placed (u ∷ rest) w more e in
          subst (λ l. Stands l x) (append_assoc placed (item block w)
          (placed_next n block (placed ++ item block w) more))
          (again (placed ++ item block w) more (omega (arith, many, c.shorter))
          (covers_more placed (u ∷ rest) covers w more c) x there)

  pub order_whole : (x : Value) → Stands block x → Stands (first_order block) x
  order_whole x there =
      all_placed (length others_of) phis_of others_of refl
      (record { left = others_left block orderly.has; phis = λ y phi. phi; items = λ l is. inl is }) x there
