-- The first order of a block's values: before a value stand its arguments, before what changes a memory the readers of
-- it, before a select its call; and no value stands twice.
use Rattle.std.proofs.Common.{◌≡◌, ℕ, zero, suc, ◌⊎◌, inl, inr, Bool, true, false, not, ◌&&◌, ◌||◌, if◌then◌else◌, List}
use Rattle.std.proofs.Common.{[], ◌∷◌, ◌++◌, length, filter, append_assoc, append-nil, Option, None, Some, refl, subst}
use Rattle.std.proofs.Common.{sym, ap, ◌∙◌}
use Rattle.std.specs.List.{list_all, list_any}
use Rattle.std.proofs.lemmas.Bool.{and_from, and_parts, both_ways, not-true, not_from_false, or_cases}
use Rattle.gossa_base.specs.declared.ids.ValueId.{ValueId}
use Rattle.ssa_ir.specs.declared.op.Op.{Op}
use Rattle.ssa_ir.specs.declared.op.Op.TheVariants.{Phi, SelectN}
use Rattle.ssa_ir.specs.declared.func.Value.{Value}
use Rattle.ssa_ir.specs.FirstOrder.{by_number, first_order, followers_of, has_value, is_placed, is_ready, item}
use Rattle.ssa_ir.specs.FirstOrder.{memory_taken, next_then, placed_next, readers_before, ready_or_later, same_memory}
use Rattle.ssa_ir.specs.FirstOrder.{same_value, selects, split_ready}
use Rattle.ssa_ir.specs.OpKinds.{changes_memory, is_call, is_follower, is_phi, reads_memory}
use Rattle.block_order.specs.LowestOnCycle.{HasItems}
use Rattle.gossa_base.proofs.ListPlaces.{At, any_at, find_any, Stands}
use Rattle.block_order.proofs.ItemOwners.{equal_numbers, follower_no_phi, same_numbers, same_standing, selects_only}
use Rattle.block_order.proofs.StandingLemmas.{Absent, Differing, absent_more, by_number_stands, differing_by_number}
use Rattle.block_order.proofs.StandingLemmas.{differing_filter, differing_joined, stands_by_number}
use Rattle.gossa_base.proofs.ListStanding.{Behind, InFront, all_stands, filter_stands, part_of, stands_at}
use Rattle.gossa_base.proofs.ListStanding.{stands_either, stands_filter, stands_here, stands_later, stands_not}

-- ---- ops

pub reads_no_follower : (op : Op) → reads_memory op ≡ true → is_follower op ≡ false
reads_no_follower SelectN h = cc
reads_no_follower _ h = refl

changes_no_follower : (op : Op) → changes_memory op ≡ true → is_follower op ≡ false
changes_no_follower SelectN h = cc
changes_no_follower _ h = refl

changes_no_phi : (op : Op) → changes_memory op ≡ true → is_phi op ≡ false
changes_no_phi Phi h = cc
changes_no_phi _ h = refl

-- ---- numbers of values

pub id_equal : (a b : ValueId) → a.0 ≡ b.0 → a ≡ b
id_equal a b e = λ i. record { 0 = e i }

pub has_from : (values : List Value) (id : ValueId) → has_value values id ≡ true
    → (v : Value) × Stands values v × (v.id.0 ≡ id.0)
has_from values id h = go (find_any (λ v. same_value v.id id) values h)
  where
    go : ((k : ℕ) × (v : Value) × At values k v × (same_value v.id id ≡ true))
        → (v : Value) × Stands values v × (v.id.0 ≡ id.0)
    go (k, v, at, same) = (v, (k, at), same_numbers v.id id same)

pub stands_has : (values : List Value) (id : ValueId) (v : Value) → Stands values v → v.id.0 ≡ id.0
    → has_value values id ≡ true
stands_has values id v (k, at) same = any_at (λ w. same_value w.id id) values k v at (equal_numbers v.id id same)

-- ---- the value that comes next

pub record Chosen (block placed rest : List Value) (v : Value) (others : List Value) : Type 0 where
  pub ready : is_ready block placed v ≡ true
  pub is_of : Stands rest v
  pub keeps : (x : Value) → Stands others x → Stands rest x
  pub leaves : (x : Value) → Stands rest x → (v ≡ x) ⊎ Stands others x
  pub shorter : length rest ≡ suc (length others)
  pub differ : Differing rest → Absent v others × Differing others

module _ (block placed : List Value) where
  chosen_here : (v : Value) (rest : List Value) → is_ready block placed v ≡ true
      → Chosen block placed (v ∷ rest) v rest
  chosen_here v rest ready = record {
    ready = ready;
    is_of = (zero, refl);
    keeps = λ x there. stands_later v rest x there;
    leaves = λ x there. stands_here v rest x there;
    shorter = refl;
    differ = λ d. d;
  }

  chosen_later : (w : Value) (rest : List Value) (v : Value) (others : List Value) → Chosen block placed rest v others
      → Chosen block placed (w ∷ rest) v (w ∷ others)
  chosen_later w rest v others c = record {
    ready = c.ready;
    is_of = stands_later w rest v c.is_of;
    keeps = λ x there. keep x (stands_here w others x there);
    leaves = λ x there. leave x (stands_here w rest x there);
    shorter = ap suc c.shorter;
    differ = λ d.
        let now : Absent v others × Differing others = c.differ d.1 in (
          absent_more v w others (λ same. d.0 v c.is_of (sym same)) now.0,
          ((λ x there same. d.0 x (c.keeps x there) same), now.1),
        );
  }
    where
      keep : (x : Value) → (w ≡ x) ⊎ Stands others x → Stands (w ∷ rest) x
      keep x (inl one) = (zero, ap Some one)
      keep x (inr there) = stands_later w rest x (c.keeps x there)

      later : (x : Value) → (v ≡ x) ⊎ Stands others x → (v ≡ x) ⊎ Stands (w ∷ others) x
      later x (inl one) = inl one
      later x (inr there) = inr (stands_later w others x there)

      leave : (x : Value) → (w ≡ x) ⊎ Stands rest x → (v ≡ x) ⊎ Stands (w ∷ others) x
      leave x (inl one) = inr (zero, ap Some one)
      leave x (inr there) = later x (c.leaves x there)

  pub split_some : (rest : List Value) (v : Value) (others : List Value)
      → split_ready block placed rest ≡ Some (v, others) → Chosen block placed rest v others
  split_some [] v others h = cc
  split_some (w ∷ rest) v others h =
      by_ready (is_ready block placed w) refl (split_ready block placed rest) refl h (split_some rest)
    where
      by_ready : (t : Bool) → is_ready block placed w ≡ t → (o : Option (Value × List Value))
          → split_ready block placed rest ≡ o → ready_or_later w rest t o ≡ Some (v, others)
          → ((x : Value) (more : List Value) → split_ready block placed rest ≡ Some (x, more)
          → Chosen block placed rest x more)
          → Chosen block placed (w ∷ rest) v others
      by_ready true e o is h again =
          let both : (w, rest) ≡ (v, others) = cc in
          let one : w ≡ v = ap (λ (p : Value × List Value). p.0) both in
          let two : rest ≡ others = ap (λ (p : Value × List Value). p.1) both in
          subst (λ l. Chosen block placed (w ∷ rest) v l) two
          (subst (λ x. Chosen block placed (w ∷ rest) x rest) one (chosen_here w rest e))
      by_ready false e None is h again = cc
      by_ready false e (Some (x, more)) is h again =
          let both : (x, w ∷ more) ≡ (v, others) = cc in
          let one : x ≡ v = ap (λ (p : Value × List Value). p.0) both in
          let two : w ∷ more ≡ others = ap (λ (p : Value × List Value). p.1) both in
          subst (λ l. Chosen block placed (w ∷ rest) v l) two
          (subst (λ y. Chosen block placed (w ∷ rest) y (w ∷ more)) one (chosen_later w rest x more (again x more is)))

  -- where none may come next, none of them is ready
  pub split_none : (rest : List Value) → split_ready block placed rest ≡ None → (x : Value) → Stands rest x
      → is_ready block placed x ≡ false
  split_none [] h x there = absurd (stands_not x there)
  split_none (w ∷ rest) h x there =
      by_ready (is_ready block placed w) refl (split_ready block placed rest) refl h (split_none rest)
      (stands_here w rest x there)
    where
      by_ready : (t : Bool) → is_ready block placed w ≡ t → (o : Option (Value × List Value))
          → split_ready block placed rest ≡ o → ready_or_later w rest t o ≡ None
          → (split_ready block placed rest ≡ None → (y : Value) → Stands rest y → is_ready block placed y ≡ false)
          → (w ≡ x) ⊎ Stands rest x → is_ready block placed x ≡ false
      by_ready true e o is h again place = cc
      by_ready false e (Some (y, more)) is h again place = cc
      by_ready false e None is h again (inl one) = subst (λ y. is_ready block placed y ≡ false) one e
      by_ready false e None is h again (inr behind) = again is x behind

-- ---- what a ready value waits for stands before it

pub ready_args : (block placed : List Value) (v : Value) → is_ready block placed v ≡ true → (a : ValueId)
    → Stands v.args a → is_placed block placed a ≡ true
ready_args block placed v ready a there =
    all_stands (is_placed block placed) v.args
    (and_parts (list_all (is_placed block placed) v.args)
    (not (changes_memory v.op) || list_all (λ r. has_value placed r.id) (readers_before block v)) ready).0
    a there

pub ready_readers : (block placed : List Value) (v : Value) → is_ready block placed v ≡ true
    → changes_memory v.op ≡ true → (r : Value) → Stands block r → reads_memory r.op ≡ true
    → same_memory (memory_taken r.op r.args) (memory_taken v.op v.args) ≡ true → has_value placed r.id ≡ true
ready_readers block placed v ready changes r there reads same =
    by_change
    (or_cases (not (changes_memory v.op)) (list_all (λ s. has_value placed s.id) (readers_before block v))
    (and_parts (list_all (is_placed block placed) v.args)
    (not (changes_memory v.op) || list_all (λ s. has_value placed s.id) (readers_before block v)) ready).1)
  where
    by_change : (not (changes_memory v.op) ≡ true)
        ⊎ (list_all (λ s. has_value placed s.id) (readers_before block v) ≡ true)
        → has_value placed r.id ≡ true
    by_change (inl none) = absurd (both_ways (changes_memory v.op) (not-true (changes_memory v.op) none) changes)
    by_change (inr all) =
        all_stands (λ s. has_value placed s.id) (readers_before block v) all r
        (stands_filter (λ s. reads_memory s.op && same_memory (memory_taken s.op s.args)
        (memory_taken v.op v.args)) block r there
        (and_from (reads_memory r.op) (same_memory (memory_taken r.op r.args) (memory_taken v.op v.args)) reads same))

-- ---- items

-- a value of an item is its first or a select of a call
abbrev pub OfItem : (block : List Value) → (l x : Value) → Type 0
OfItem block l x = (l ≡ x) ⊎ ((is_call l.op ≡ true) × Stands block x × (selects l.id x ≡ true))

pub follower_from : (block : List Value) (l x : Value) → Stands (followers_of block l l.op) x
    → (is_call l.op ≡ true) × Stands block x × (selects l.id x ≡ true)
follower_from block l x there = by_op (is_call l.op) refl there
  where
    by_op : (b : Bool) → is_call l.op ≡ b → Stands (if b then by_number (filter (selects l.id) block) else []) x
        → (is_call l.op ≡ true) × Stands block x × (selects l.id x ≡ true)
    by_op false e h = absurd (stands_not x h)
    by_op true e h =
        let kept : Stands block x × (selects l.id x ≡ true)
        = filter_stands (selects l.id) block x (by_number_stands (filter (selects l.id) block) x h) in
        (e, kept.0, kept.1)

pub item_from : (block : List Value) (l x : Value) → Stands (item block l) x → OfItem block l x
item_from block l x there = go (stands_here l (followers_of block l l.op) x there)
  where
    go : (l ≡ x) ⊎ Stands (followers_of block l l.op) x → OfItem block l x
    go (inl one) = inl one
    go (inr behind) = inr (follower_from block l x behind)

pub select_in_item : (block : List Value) (l x : Value) → is_call l.op ≡ true → Stands block x → selects l.id x ≡ true
    → Stands (item block l) x
select_in_item block l x call there sel =
    stands_later l (followers_of block l l.op) x
    (subst (λ b. Stands (if b then by_number (filter (selects l.id) block) else []) x) (sym call)
    (stands_by_number (filter (selects l.id) block) x (stands_filter (selects l.id) block x there sel)))

pub select_follows : (id : ValueId) (x : Value) → selects id x ≡ true → is_follower x.op ≡ true
select_follows id x h = (and_parts (is_follower x.op) (list_any (same_value id) x.args) h).0

abbrev pub is_other : Value → Bool
is_other v = not (is_follower v.op) && not (is_phi v.op)

pub other_no_follower : (v : Value) → is_other v ≡ true → is_follower v.op ≡ false
other_no_follower v h = not-true (is_follower v.op) (and_parts (not (is_follower v.op)) (not (is_phi v.op)) h).0

pub other_no_phi : (v : Value) → is_other v ≡ true → is_phi v.op ≡ false
other_no_phi v h = not-true (is_phi v.op) (and_parts (not (is_follower v.op)) (not (is_phi v.op)) h).1

pub is_other_by : (v : Value) → is_follower v.op ≡ false → is_phi v.op ≡ false → is_other v ≡ true
is_other_by v no_follower no_phi =
    and_from (not (is_follower v.op)) (not (is_phi v.op)) (not_from_false (is_follower v.op) no_follower)
    (not_from_false (is_phi v.op) no_phi)

-- how a value comes to its place: as a phi; ready; or as a select behind its call, which was ready
pub data Placing (block before : List Value) (v : Value) : Type 0 where
  placed_phi : is_phi v.op ≡ true → Placing block before v
  placed_ready : is_other v ≡ true → is_ready block before v ≡ true → Placing block before v
  placed_behind : (front : List Value) (c : Value) (mid : List Value) → before ≡ front ++ c ∷ mid → is_call c.op ≡ true
      → selects c.id v ≡ true → is_ready block front c ≡ true → Placing block before v

-- the values that are left to be placed, of a block
pub record Left (block rest : List Value) : Type 0 where
  pub of_block : (x : Value) → Stands rest x → Stands block x
  pub others : (x : Value) → Stands rest x → is_other x ≡ true

pub left_after : (block placed rest : List Value) (v : Value) (more : List Value) → Chosen block placed rest v more
    → Left block rest → Left block more
left_after block placed rest v more c left = record {
  of_block = λ x there. left.of_block x (c.keeps x there);
  others = λ x there. left.others x (c.keeps x there);
}

abbrev pub next_from : (n : ℕ) → (block placed : List Value) → Option (Value × List Value) → List Value
next_from n block placed o = next_then block (λ v others. placed_next n block (placed ++ item block v) others) o

-- ---- where a value stands in what is placed next

module _ (block : List Value) where
  pub placing_next : (n : ℕ) (placed rest : List Value) → Left block rest
      → (before : List Value) (v : Value) (after : List Value)
      → placed_next n block placed rest ≡ before ++ v ∷ after → Placing block (placed ++ before) v
  placing_next zero placed rest left [] v after is = cc
  placing_next zero placed rest left (b ∷ before) v after is = cc
  placing_next (suc n) placed rest left before v after is =
      by_choice (split_ready block placed rest) refl is (placing_next n)
    where
      by_place : (w : Value) (more : List Value) → Chosen block placed rest w more
          → ((at : List Value) (others : List Value) → Left block others
          → (front : List Value) (x : Value) (back : List Value)
          → placed_next n block at others ≡ front ++ x ∷ back → Placing block (at ++ front) x)
          → InFront (item block w) (placed_next n block (placed ++ item block w) more) before v after
          ⊎ Behind (item block w) (placed_next n block (placed ++ item block w) more) before v after
          → Placing block (placed ++ before) v
      by_place w more c again (inl (mid, front, back)) = by_front before front
        where
          by_front : (front : List Value) → item block w ≡ front ++ v ∷ mid → Placing block (placed ++ front) v
          by_front [] e =
              let one : w ≡ v = cc in
              subst (Placing block (placed ++ [])) one
              (placed_ready (left.others w c.is_of)
              (subst (λ l. is_ready block l w ≡ true) (sym (append-nil placed)) c.ready))
          by_front (u ∷ front) e =
              let one : w ≡ u = cc in
              let tail : followers_of block w w.op ≡ front ++ v ∷ mid = cc in
              let follows : (is_call w.op ≡ true) × Stands block v × (selects w.id v ≡ true)
              = follower_from block w v (subst (λ l. Stands l v) (sym tail) (stands_at front v mid)) in
              placed_behind placed w front (ap (λ x. placed ++ x ∷ front) (sym one)) follows.0 follows.2 c.ready
      by_place w more c again (inr (mid, front, back)) =
          subst (λ l. Placing block l v) (append_assoc placed (item block w) mid ∙ ap (λ l. placed ++ l) (sym front))
          (again (placed ++ item block w) more (left_after block placed rest w more c left) mid v after back)

      by_choice : (o : Option (Value × List Value)) → split_ready block placed rest ≡ o
          → next_from n block placed o ≡ before ++ v ∷ after
          → ((at : List Value) (others : List Value) → Left block others
          → (front : List Value) (x : Value) (back : List Value)
          → placed_next n block at others ≡ front ++ x ∷ back → Placing block (at ++ front) x)
          → Placing block (placed ++ before) v
      by_choice None e h again = none before h
        where
          none : (front : List Value) → [] ≡ front ++ v ∷ after → Placing block (placed ++ before) v
          none [] h = cc
          none (b ∷ front) h = cc
      by_choice (Some (w, more)) e h again =
          by_place w more (split_some block placed rest w more e) again
          (part_of (item block w) (placed_next n block (placed ++ item block w) more) before v after h)

  -- what is placed next is of an item that was left
  pub next_of : (n : ℕ) (placed rest : List Value) (x : Value) → Stands (placed_next n block placed rest) x
      → (l : Value) × Stands rest l × OfItem block l x
  next_of zero placed rest x there = absurd (stands_not x there)
  next_of (suc n) placed rest x there = by_choice (split_ready block placed rest) refl there (next_of n)
    where
      by_place : (w : Value) (more : List Value) → Chosen block placed rest w more
          → ((l : Value) × Stands more l × OfItem block l x) ⊎ Stands (item block w) x
          → (l : Value) × Stands rest l × OfItem block l x
      by_place w more c (inl (l, there, of)) = (l, c.keeps l there, of)
      by_place w more c (inr here) = (w, c.is_of, item_from block w x here)

      by_part : (w : Value) (more : List Value)
          → ((at : List Value) (others : List Value) (y : Value) → Stands (placed_next n block at others) y
          → (l : Value) × Stands others l × OfItem block l y)
          → Stands (item block w) x ⊎ Stands (placed_next n block (placed ++ item block w) more) x
          → ((l : Value) × Stands more l × OfItem block l x) ⊎ Stands (item block w) x
      by_part w more again (inl here) = inr here
      by_part w more again (inr behind) = inl (again (placed ++ item block w) more x behind)

      by_choice : (o : Option (Value × List Value)) → split_ready block placed rest ≡ o
          → Stands (next_from n block placed o) x
          → ((at : List Value) (others : List Value) (y : Value) → Stands (placed_next n block at others) y
          → (l : Value) × Stands others l × OfItem block l y)
          → (l : Value) × Stands rest l × OfItem block l x
      by_choice None e h again = absurd (stands_not x h)
      by_choice (Some (w, more)) e h again =
          by_place w more (split_some block placed rest w more e)
          (by_part w more again (stands_either (item block w) (placed_next n block (placed ++ item block w) more) x h))

-- ---- no number stands twice

module _ (block : List Value) (has : HasItems block) where
  pub one_value : (x y : Value) → Stands block x → Stands block y → x.id.0 ≡ y.id.0 → x ≡ y
  one_value x y (i, at) (j, also) same = same_standing block has i j x y at also same

  -- the first of the item of a value has one number
  same_first : (l m x : Value) → is_other l ≡ true → is_other m ≡ true → OfItem block l x → OfItem block m x
      → l.id.0 ≡ m.id.0
  same_first l m x no_l no_m (inl one) (inl other) = ap (λ (z : Value). z.id.0) (one ∙ sym other)
  same_first l m x no_l no_m (inl one) (inr (call, there, sel)) =
      absurd (both_ways (is_follower l.op) (other_no_follower l no_l)
      (subst (λ (z : Value). is_follower z.op ≡ true) (sym one) (select_follows m.id x sel)))
  same_first l m x no_l no_m (inr (call, there, sel)) (inl other) =
      absurd (both_ways (is_follower m.op) (other_no_follower m no_m)
      (subst (λ (z : Value). is_follower z.op ≡ true) (sym other) (select_follows l.id x sel)))
  same_first l m x no_l no_m (inr (call, there, sel)) (inr (also, here, too)) =
      let a : (is_follower x.op ≡ true) × ((a : ValueId) × (x.args ≡ a ∷ []) × (l.id.0 ≡ a.0))
      = selects_only block has there.0 x l.id there.1 sel in
      let b : (is_follower x.op ≡ true) × ((a : ValueId) × (x.args ≡ a ∷ []) × (m.id.0 ≡ a.0))
      = selects_only block has there.0 x m.id there.1 too in
      let lists : a.1.0 ∷ [] ≡ b.1.0 ∷ [] = sym a.1.1 ∙ b.1.1 in
      let one : a.1.0 ≡ b.1.0 = cc in
      a.1.2 ∙ ap (λ (z : ValueId). z.0) one ∙ sym b.1.2

  item_in_block : (l x : Value) → Stands block l → OfItem block l x → Stands block x
  item_in_block l x there (inl one) = subst (Stands block) one there
  item_in_block l x there (inr (call, here, sel)) = here

  item_differs : Differing block → (l : Value) → Stands block l → is_other l ≡ true → Differing (item block l)
  item_differs d l there other = (absent, by_op (is_call l.op))
    where
      absent : Absent l (followers_of block l l.op)
      absent x behind same =
          let follows : (is_call l.op ≡ true) × Stands block x ×
          (selects l.id x ≡ true) = follower_from block l x behind in
          let one : l ≡ x = one_value l x there follows.1 same in
          both_ways (is_follower l.op) (other_no_follower l other)
          (subst (λ (z : Value). is_follower z.op ≡ true) (sym one) (select_follows l.id x follows.2))

      by_op : (b : Bool) → Differing (if b then by_number (filter (selects l.id) block) else [])
      by_op false = tt
      by_op true = differing_by_number (filter (selects l.id) block) (differing_filter (selects l.id) block d)

  pub next_differs : Differing block → (n : ℕ) (placed rest : List Value) → Left block rest → Differing rest
      → Differing (placed_next n block placed rest)
  next_differs d zero placed rest left differ = tt
  next_differs d (suc n) placed rest left differ = by_choice (split_ready block placed rest) refl (next_differs d n)
    where
      by_choice : (o : Option (Value × List Value)) → split_ready block placed rest ≡ o
          → ((at : List Value) (others : List Value) → Left block others → Differing others
          → Differing (placed_next n block at others))
          → Differing (next_from n block placed o)
      by_choice None e again = tt
      by_choice (Some (w, more)) e again =
          differing_joined (item block w) (placed_next n block (placed ++ item block w) more)
          (item_differs d w (left.of_block w c.is_of) (left.others w c.is_of))
          (again (placed ++ item block w) more (left_after block placed rest w more c left) now.1)
          cross
        where
          c : Chosen block placed rest w more
          c = split_some block placed rest w more e

          now : Absent w more × Differing more
          now = c.differ differ

          cross : (x y : Value) → Stands (item block w) x
              → Stands (placed_next n block (placed ++ item block w) more) y
              → x.id.0 ≡ y.id.0 → ⊥
          cross x y in_x in_y same =
              let of_x : OfItem block w x = item_from block w x in_x in
              let of_y : (l : Value) × Stands more l × OfItem block l y
              = next_of block n (placed ++ item block w) more y in_y in
              let rest_y : Stands rest of_y.0 = c.keeps of_y.0 of_y.1 in
              let one : x ≡ y
              = one_value x y (item_in_block w x (left.of_block w c.is_of) of_x)
              (item_in_block of_y.0 y (left.of_block of_y.0 rest_y) of_y.2) same in
              now.0 of_y.0 of_y.1
              (same_first w of_y.0 y (left.others w c.is_of) (left.others of_y.0 rest_y)
              (subst (OfItem block w) one of_x) of_y.2)

  -- ---- the first order of the block

  abbrev phis : List Value
  phis = filter (λ v. is_phi v.op) block

  abbrev pub others : List Value
  others = filter is_other block

  pub others_left : Left block others
  others_left = record {
    of_block = λ x there. (filter_stands is_other block x there).0;
    others = λ x there. (filter_stands is_other block x there).1;
  }

  pub order_in_block : (x : Value) → Stands (first_order block) x → Stands block x
  order_in_block x there = by_part (stands_either phis (placed_next (length others) block phis others) x there)
    where
      by_item : ((l : Value) × Stands others l × OfItem block l x) → Stands block x
      by_item (l, left, of) = item_in_block l x (others_left.of_block l left) of

      by_part : Stands phis x ⊎ Stands (placed_next (length others) block phis others) x → Stands block x
      by_part (inl phi) = (filter_stands (λ v. is_phi v.op) block x phi).0
      by_part (inr next) = by_item (next_of block (length others) phis others x next)

  pub order_differs : Differing block → Differing (first_order block)
  order_differs d =
      differing_joined phis (placed_next (length others) block phis others)
      (differing_filter (λ v. is_phi v.op) block d)
      (next_differs d (length others) phis others others_left (differing_filter is_other block d)) cross
    where
      no_phi_item : (l x : Value) → is_other l ≡ true → OfItem block l x → is_phi x.op ≡ false
      no_phi_item l x other (inl one) = subst (λ (z : Value). is_phi z.op ≡ false) one (other_no_phi l other)
      no_phi_item l x other (inr (call, there, sel)) = follower_no_phi x.op (select_follows l.id x sel)

      cross : (x y : Value) → Stands phis x → Stands (placed_next (length others) block phis others) y
          → x.id.0 ≡ y.id.0 → ⊥
      cross x y in_x in_y same =
          let of_x : Stands block x × (is_phi x.op ≡ true) = filter_stands (λ v. is_phi v.op) block x in_x in
          let of_y : (l : Value) × Stands others l × OfItem block l y = next_of block
          (length others) phis others y in_y in
          let there : Stands block y = item_in_block of_y.0 y (others_left.of_block of_y.0 of_y.1) of_y.2 in
          let one : x ≡ y = one_value x y of_x.0 there same in
          both_ways (is_phi x.op)
          (subst (λ (z : Value). is_phi z.op ≡ false) (sym one)
          (no_phi_item of_y.0 y (others_left.others of_y.0 of_y.1) of_y.2))
          of_x.1

  pub placing : (before : List Value) (v : Value) (after : List Value) → first_order block ≡ before ++ v ∷ after
      → Placing block before v
  placing before v after is =
      by_part (part_of phis (placed_next (length others) block phis others) before v after is)
    where
      by_part : InFront phis (placed_next (length others) block phis others) before v after
          ⊎ Behind phis (placed_next (length others) block phis others) before v after → Placing block before v
      by_part (inl (mid, front, back)) =
          placed_phi (filter_stands (λ x. is_phi x.op) block v
          (subst (λ l. Stands l v) (sym front) (stands_at before v mid))).1
      by_part (inr (mid, front, back)) =
          subst (λ l. Placing block l v) (sym front)
          (placing_next block (length others) phis others others_left mid v after back)

  -- before a value that is no phi stand its arguments of the block
  pub arguments_before : (before : List Value) (v : Value) (after : List Value)
      → first_order block ≡ before ++ v ∷ after
      → is_phi v.op ≡ false → (a : ValueId) → Stands v.args a → has_value block a ≡ true → has_value before a ≡ true
  arguments_before before v after split no_phi a there of_block = by_place (placing before v after split)
    where
      in_block : Stands block v
      in_block = order_in_block v (subst (λ l. Stands l v) (sym split) (stands_at before v after))

      placed : (not (has_value block a) ≡ true) ⊎ (has_value before a ≡ true) → has_value before a ≡ true
      placed (inl outside) = absurd (both_ways (has_value block a) (not-true (has_value block a) outside) of_block)
      placed (inr is) = is

      by_call : (c : Value) → Stands before c → (d : ValueId) → c.id.0 ≡ d.0 → (d ≡ a) ⊎ Stands [] a
          → has_value before a ≡ true
      by_call c is d number (inl one) = stands_has before a c is (number ∙ ap (λ (z : ValueId). z.0) one)
      by_call c is d number (inr none) = absurd (stands_not a none)

      by_place : Placing block before v → has_value before a ≡ true
      by_place (placed_phi phi) = absurd (both_ways (is_phi v.op) no_phi phi)
      by_place (placed_ready other ready) =
          placed (or_cases (not (has_value block a)) (has_value before a) (ready_args block before v ready a there))
      by_place (placed_behind front c mid is call sel ready) =
          let only : (is_follower v.op ≡ true) × ((d : ValueId) × (v.args ≡ d ∷ []) × (c.id.0 ≡ d.0))
          = selects_only block has in_block.0 v c.id in_block.1 sel in
          by_call c (subst (λ l. Stands l c) (sym is) (stands_at front c mid)) only.1.0 only.1.2
          (stands_here only.1.0 [] a (subst (λ l. Stands l a) only.1.1 there))

  -- before a value that changes a memory stand the readers of that memory
  pub readers_before_change : (before : List Value) (v : Value) (after : List Value)
      → first_order block ≡ before ++ v ∷ after → changes_memory v.op ≡ true → (r : Value) → Stands block r
      → reads_memory r.op ≡ true → same_memory (memory_taken r.op r.args) (memory_taken v.op v.args) ≡ true
      → has_value before r.id ≡ true
  readers_before_change before v after split changes r there reads same = by_place (placing before v after split)
    where
      by_place : Placing block before v → has_value before r.id ≡ true
      by_place (placed_phi phi) = absurd (both_ways (is_phi v.op) (changes_no_phi v.op changes) phi)
      by_place (placed_ready other ready) = ready_readers block before v ready changes r there reads same
      by_place (placed_behind front c mid is call sel ready) =
          absurd (both_ways (is_follower v.op) (changes_no_follower v.op changes) (select_follows c.id v sel))
