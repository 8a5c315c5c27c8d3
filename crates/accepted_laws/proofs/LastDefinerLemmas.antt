-- In accepted functions what names a memory names the last definer passed, where the values of a block stand in first
-- order.
use Rattle.std.proofs.Common.{◌≡◌, ℕ, zero, ◌⊎◌, inl, inr, Bool, true, false, not, ◌&&◌, ◌||◌, if◌then◌else◌, List, []}
use Rattle.std.proofs.Common.{◌∷◌, ◌++◌, length, find, get_or, append_assoc, append-nil, Option, None, Some, slice_get}
use Rattle.std.proofs.Common.{refl, subst, sym, ap, ◌∙◌}
use Rattle.std.specs.List.{All, Contains, last_or, list_any}
use Rattle.std.specs.Option.{option_map}
use Rattle.std.proofs.lemmas.Bool.{and_parts, both_ways, not-true, or_cases, or_left, or_right}
use Rattle.std.proofs.lemmas.List.Elements.{All-contains}
use Rattle.std.proofs.lemmas.Option.{slice_get-get_or}
use Rattle.gossa_base.specs.declared.ids.ValueId.{ValueId}
use Rattle.ssa_ir.specs.declared.op.Op.{Op}
use Rattle.ssa_ir.specs.declared.op.Op.TheVariants.{Phi, SelectN}
use Rattle.ssa_ir.specs.declared.func.Block.{Block}
use Rattle.ssa_ir.specs.declared.func.Func.{Func}
use Rattle.ssa_ir.specs.declared.func.SsaUnit.{SsaUnit}
use Rattle.ssa_ir.specs.declared.func.Value.{Value}
use Rattle.ssa_ir.specs.FirstOrder.{first_order, has_value, is_placed, is_ready, memory_taken, selects}
use Rattle.ssa_ir.specs.OpKinds.{changes_memory, is_call, is_follower, is_phi, reads_memory, is_init, is_result}
use Rattle.ssa_ir.specs.Ops.{row_of}
use Rattle.ssa_ir.specs.Lookups.{named_by}
use Rattle.ssa_ir.specs.Classes.{is_memory}
use Rattle.accepted_laws.specs.LastDefiner.{LastDefiner, LastDefinerIsNamed, NamesLast, last_on_path, last_passed}
use Rattle.accepted_laws.specs.LastDefiner.{memory_behind, names_memory}
use Rattle.ssa_ir.specs.MemoryChains.{IsChain, begins_memory, has_definer, inner_of, is_definer, is_inner}
use Rattle.ssa_ir.specs.MemoryChains.{is_memory_phi, is_store, last_definer, memory_of, taken_by, takes, takes_inner}
use Rattle.accepted_laws.specs.MemoryLaws.{Begins, BeginsBy, Ends, MemoryIsPassed, Starts, TakesEnd, TakesPassed}
use Rattle.ssa_ir.specs.MemoryPaths.{IsInit, Passes, is_exit}
use Rattle.accepted_laws.specs.PathLaws.{AcceptedFunc}
use Rattle.ssa_ir.specs.Paths.{IsPath}
use Rattle.ssa_ir.specs.Edges.{is_entry}
use Rattle.ssa_check.proofs.ChainLemmas.{inner_apart, last_free, some_last}
use Rattle.gossa_base.proofs.ListPlaces.{last_at}
use Rattle.ssa_check.proofs.ChainWalkLemmas.{find_nowhere, find_there}
use Rattle.accepted_laws.proofs.DefinedLemmas.{well_formed_func}
use Rattle.accepted_laws.proofs.FirstOrderLemmas.{Placing, has_from, one_value, order_differs, order_in_block}
use Rattle.accepted_laws.proofs.FirstOrderLemmas.{other_no_follower, placed_behind, placed_phi, placed_ready, placing}
use Rattle.accepted_laws.proofs.FirstOrderLemmas.{reads_no_follower, ready_args, ready_readers, select_follows}
use Rattle.accepted_laws.proofs.FirstOrderLemmas.{stands_has}
use Rattle.accepted_laws.proofs.FirstOrderWhole.{order_whole}
use Rattle.gossa_base.proofs.ListPlaces.{At, all_at, any_at, at_contains, contains_at, find_any, Stands}
use Rattle.block_order.proofs.ItemOwners.{follower_no_phi, selects_only}
use Rattle.block_order.proofs.ItemStands.{memories_same}
use Rattle.accepted_laws.proofs.LastDefinerBlocks.{init_in_entry, items_of, memory_select, one_begins, one_taker}
use Rattle.accepted_laws.proofs.LastDefinerBlocks.{orderly, select_takes}
use Rattle.accepted_laws.proofs.MemoryLawLemmas.{memory_is_passed, phi_is_passed, taken_is}
use Rattle.accepted_laws.proofs.PassedMemory.{inner_defines}
use Rattle.block_order.proofs.StandingLemmas.{Differing, differing_from, none_before}
use Rattle.gossa_base.proofs.ListStanding.{Split, filter_stands, split_at, stands_at, stands_either, stands_filter}
use Rattle.gossa_base.proofs.ListStanding.{stands_here, stands_later, stands_left, stands_not, stands_right}

-- ---- ops

phi_names_none : (op : Op) → names_memory op ≡ true → is_phi op ≡ false
phi_names_none Phi h = cc
phi_names_none _ h = refl

select_names_none : (op : Op) → names_memory op ≡ true → is_follower op ≡ false
select_names_none SelectN h = cc
select_names_none _ h = refl

store_no_phi : (op : Op) → is_store op ≡ true → is_phi op ≡ false
store_no_phi Phi h = cc
store_no_phi _ h = refl

store_changes : (op : Op) → is_store op ≡ true → changes_memory op ≡ true
store_changes op h =
    or_left (row_of op).makes_mem (is_call op) (and_parts (row_of op).makes_mem (not (is_init op)) h).0

call_changes : (op : Op) → is_call op ≡ true → changes_memory op ≡ true
call_changes op h = or_right (row_of op).makes_mem (is_call op) h

inner_no_phi : (v : Value) → is_inner v ≡ true → is_phi v.op ≡ false
inner_no_phi v inner = go (or_cases (is_store v.op) (is_follower v.op && is_memory v) inner)
  where
    go : (is_store v.op ≡ true) ⊎ ((is_follower v.op && is_memory v) ≡ true) → is_phi v.op ≡ false
    go (inl store) = store_no_phi v.op store
    go (inr both) = follower_no_phi v.op (and_parts (is_follower v.op) (is_memory v) both).0

begins_defines : (v : Value) → begins_memory v ≡ true → is_definer v ≡ true
begins_defines v e = or_left (begins_memory v) (is_inner v) e

-- an inner definer that is no select is a store
inner_store : (v : Value) → is_inner v ≡ true → is_follower v.op ≡ false → is_store v.op ≡ true
inner_store v inner no_follower = go (or_cases (is_store v.op) (is_follower v.op && is_memory v) inner)
  where
    go : (is_store v.op ≡ true) ⊎ ((is_follower v.op && is_memory v) ≡ true) → is_store v.op ≡ true
    go (inl store) = store
    go (inr both) =
        absurd (both_ways (is_follower v.op) no_follower (and_parts (is_follower v.op) (is_memory v) both).0)

-- ---- last arguments

last_of_taken : (op : Op) (args : List ValueId) (m : ValueId) → memory_taken op args ≡ Some m
    → last_or None args ≡ Some m
last_of_taken op args m h = go (reads_memory op || changes_memory op) h
  where
    go : (t : Bool) → (if t then last_or None args else None) ≡ Some m → last_or None args ≡ Some m
    go true e = e
    go false e = cc

last_from : (d : Option ValueId) (args : List ValueId) (m : ValueId) → last_or d args ≡ Some m
    → (d ≡ Some m) ⊎ Stands args m
last_from d [] m h = inl h
last_from d (a ∷ args) m h = go (last_from (Some a) args m h)
  where
    go : (Some a ≡ Some m) ⊎ Stands args m → (d ≡ Some m) ⊎ Stands (a ∷ args) m
    go (inl one) = inr (zero, one)
    go (inr there) = inr (stands_later a args m there)

last_stands : (args : List ValueId) (m : ValueId) → last_or None args ≡ Some m → Stands args m
last_stands args m h = go (last_from None args m h)
  where
    go : (None ≡ Some m) ⊎ Stands args m → Stands args m
    go (inl none) = cc
    go (inr there) = there

no_select_takes : (f : Func) (v : Value) → is_follower v.op ≡ false → taken_by f v ≡ memory_taken v.op v.args
no_select_takes f v e = ap (λ t. if t then memory_of (named_by f v.args) else memory_taken v.op v.args) e

takes_same : (f : Func) (v : Value) (m : ValueId) → taken_by f v ≡ Some m → takes f v m ≡ true
takes_same f v m e = memories_same (taken_by f v) (Some m) m m e refl refl

takes_is : (f : Func) (v : Value) (m : ValueId) → takes f v m ≡ true → taken_by f v ≡ Some m
takes_is f v m t = taken_is (taken_by f v) m t

-- ---- lists

-- one more value behind others
pub last_pushed : (memory : Option ValueId) (values : List Value) (v : Value)
    → last_passed memory (values ++ v ∷ []) ≡ memory_behind (last_passed memory values) v
last_pushed memory [] v = refl
last_pushed memory (u ∷ values) v = last_pushed (memory_behind memory u) values v

any_from : (test : Value → Bool) (values : List Value) (v : Value) → Stands values v → test v ≡ true
    → list_any test values ≡ true
any_from test values v (k, at) passes = any_at test values k v at passes

-- ---- one block, on one path to it

module _ (u : SsaUnit) (f : Func) (h : AcceptedFunc u f) (b : Block) (there : Contains f.blocks b)
    (before : List Block) (is_path : IsPath f (b ∷ before))
    (earlier : (m : ValueId) → Passes f before m → last_on_path before ≡ Some m) where
  abbrev order : List Value
  order = first_order b.values

  abbrev start : Option ValueId
  start = last_on_path before

  law : MemoryIsPassed f b before
  law = memory_is_passed u f h b there before is_path

  differs : Differing order
  differs = order_differs b.values (items_of u f h b there)
      (differing_from b.values (items_of u f h b there).numbers_differ)

  of_block : (x : Value) → Stands order x → Stands b.values x
  of_block x is = order_in_block b.values (items_of u f h b there) x is

  as_contained : (x : Value) → Stands b.values x → Contains b.values x
  as_contained x (k, at) = at_contains b.values k x at

  as_inner : (x : Value) → Stands b.values x → is_inner x ≡ true → Contains (inner_of b) x
  as_inner x is inner =
      let kept : Stands (inner_of b) x = stands_filter is_inner b.values x is inner in
      at_contains (inner_of b) kept.0 x kept.1

  inner_there : (x : Value) → Contains (inner_of b) x → Stands b.values x × (is_inner x ≡ true)
  inner_there x is = filter_stands is_inner b.values x (contains_at (inner_of b) x is)

  -- ---- places

  abbrev IsFront : List Value → List Value → Type 0
  IsFront front rest = order ≡ front ++ rest

  front_of_block : (front rest : List Value) → IsFront front rest → (x : Value) → Stands front x → Stands b.values x
  front_of_block front rest split x is = of_block x (subst (λ l. Stands l x) (sym split) (stands_left front rest x is))

  here_of_block : (front rest : List Value) (v : Value) → IsFront front (v ∷ rest) → Stands b.values v
  here_of_block front rest v split = of_block v (subst (λ l. Stands l v) (sym split) (stands_at front v rest))

  -- a value stands once
  once : (front rest : List Value) (v : Value) → IsFront front (v ∷ rest) → (x : Value) → Stands front x
      → x.id.0 ≡ v.id.0 → ⊥
  once front rest v split x is same = none_before front v rest (subst Differing split differs) x is same

  -- what a value waits for: its own place or, of a select, that of its call
  record Waited (front : List Value) (v : Value) : Type 0 where
    first : Value
    ahead : List Value
    inside : (x : Value) → Stands ahead x → Stands front x
    ready : is_ready b.values ahead first ≡ true
    is_of : ((is_follower v.op ≡ false) × (first ≡ v))
        ⊎ ((is_call first.op ≡ true) × (selects first.id v ≡ true) × Stands front first)

  waited : (front rest : List Value) (v : Value) → IsFront front (v ∷ rest) → is_phi v.op ≡ false → Waited front v
  waited front rest v split no_phi = go (placing b.values (items_of u f h b there) front v rest split)
    where
      go : Placing b.values front v → Waited front v
      go (placed_phi phi) = absurd (both_ways (is_phi v.op) no_phi phi)
      go (placed_ready other ready) = record {
        first = v;
        ahead = front;
        inside = λ x is. is;
        ready = ready;
        is_of = inl (other_no_follower v other, refl);
      }
      go (placed_behind ahead c mid is call sel ready) = record {
        first = c;
        ahead = ahead;
        inside = λ x in_ahead. subst (λ l. Stands l x) (sym is) (stands_left ahead (c ∷ mid) x in_ahead);
        ready = ready;
        is_of = inr (call, sel, subst (λ l. Stands l c) (sym is) (stands_at ahead c mid));
      }

  -- the memory that it takes
  waited_takes : (front rest : List Value) (v : Value) → IsFront front (v ∷ rest) → (w : Waited front v)
      → taken_by f v ≡ memory_taken w.first.op w.first.args
  waited_takes front rest v split w = go w.is_of
    where
      go : ((is_follower v.op ≡ false) × (w.first ≡ v))
          ⊎ ((is_call w.first.op ≡ true) × (selects w.first.id v ≡ true) × Stands front w.first)
          → taken_by f v ≡ memory_taken w.first.op w.first.args
      go (inl (no_follower, one)) =
          no_select_takes f v no_follower ∙ ap (λ (z : Value). memory_taken z.op z.args) (sym one)
      go (inr (call, sel, is)) =
          select_takes u f h b there w.first v (front_of_block front (v ∷ rest) split w.first is)
          (here_of_block front rest v split) sel

  placed_more : (ahead front : List Value) → ((x : Value) → Stands ahead x → Stands front x) → (m : ValueId)
      → is_placed b.values ahead m ≡ true → is_placed b.values front m ≡ true
  placed_more ahead front inside m placed =
      go (or_cases (not (has_value b.values m)) (has_value ahead m) placed)
    where
      by_value : ((v : Value) × Stands ahead v × (v.id.0 ≡ m.0)) → has_value front m ≡ true
      by_value (v, is, same) = stands_has front m v (inside v is) same

      go : (not (has_value b.values m) ≡ true) ⊎ (has_value ahead m ≡ true) → is_placed b.values front m ≡ true
      go (inl outside) = or_left (not (has_value b.values m)) (has_value front m) outside
      go (inr is) = or_right (not (has_value b.values m)) (has_value front m) (by_value (has_from ahead m is))

  last_placed : (front : List Value) (v : Value) (w : Waited front v) (m : ValueId)
      → last_or None w.first.args ≡ Some m → is_placed b.values front m ≡ true
  last_placed front v w m last =
      placed_more w.ahead front w.inside m
      (ready_args b.values w.ahead w.first w.ready m (last_stands w.first.args m last))

  -- ---- which memories there are

  abbrev NoneBegins : Type 0
  NoneBegins = (x : Value) → Stands b.values x → begins_memory x ≡ true → ⊥

  -- a memory is that of a definer of the block or, where none begins the block, what was passed on the way
  abbrev Source : ValueId → Type 0
  Source m = ((d : Value) × Stands b.values d × (is_definer d ≡ true) × (d.id ≡ m)) ⊎ (NoneBegins × Passes f before m)

  abbrev Available : List Value → ValueId → Type 0
  Available front m = ((d : Value) × Stands front d × (is_definer d ≡ true) × (d.id ≡ m))
      ⊎ (NoneBegins × (start ≡ Some m))

  abbrev TakenIn : List Value → ValueId → Type 0
  TakenIn front m = (d : Value) × Stands front d × (is_inner d ≡ true) × (takes f d m ≡ true)

  begins_by : (o : Option Value) → find is_memory_phi b.values ≡ o → (m : ValueId) → BeginsBy o f b before m → Source m
  begins_by (Some phi) e m is =
      let found : Contains b.values phi × (is_memory_phi phi ≡ true) = find_there is_memory_phi b.values phi e in
      inl (
        phi,
        contains_at b.values phi found.0,
        begins_defines phi (or_right (is_init phi.op) (is_memory_phi phi) found.1),
        is,
      )
  begins_by None e m is = by_entry (is_entry f b) refl is
    where
      no_phi : list_any is_memory_phi b.values ≡ false
      no_phi = find_nowhere is_memory_phi b.values e

      by_init : (o : Option Value) → find (λ v. is_init v.op) b.values ≡ o → IsInit o m → Source m
      by_init None found starts = absurd starts
      by_init (Some init) found starts =
          let at : Contains b.values init × (is_init init.op ≡ true) = find_there
          (λ v. is_init v.op) b.values init found in
          inl (
            init,
            contains_at b.values init at.0,
            begins_defines init (or_left (is_init init.op) (is_memory_phi init) at.1),
            starts,
          )

      none_begins : is_entry f b ≡ false → NoneBegins
      none_begins no_entry x stands begins = go (or_cases (is_init x.op) (is_memory_phi x) begins)
        where
          go : (is_init x.op ≡ true) ⊎ (is_memory_phi x ≡ true) → ⊥
          go (inl init) = both_ways (is_entry f b) no_entry (init_in_entry u f h b there x stands init)
          go (inr phi) =
              both_ways (list_any is_memory_phi b.values) no_phi (any_from is_memory_phi b.values x stands phi)

      by_entry : (t : Bool) → is_entry f b ≡ t → Starts t f b before m → Source m
      by_entry true entry starts = by_init (find (λ v. is_init v.op) b.values) refl starts
      by_entry false no_entry passes = inr (none_begins no_entry, passes)

  begins_source : (m : ValueId) → Begins f b before m → Source m
  begins_source m is = begins_by (find is_memory_phi b.values) refl m is

  passed_source : (v : Value) (m : ValueId) → taken_by f v ≡ Some m → (takes_inner f b v ≡ true) ⊎ Begins f b before m
      → Source m
  passed_source v m taken (inr begins) = begins_source m begins
  passed_source v m taken (inl inner) = by_found (find_any (λ d. takes f v d.id) (inner_of b) inner)
    where
      by_found : ((k : ℕ) × (d : Value) × At (inner_of b) k d × (takes f v d.id ≡ true)) → Source m
      by_found (k, d, at, t) =
          let is : Stands b.values d × (is_inner d ≡ true) = filter_stands is_inner b.values d (k, at) in
          let one : d.id ≡ m = let e : Some d.id ≡ Some m = sym (takes_is f v d.id t) ∙ taken in cc in
          inl (d, is.0, inner_defines d is.1, one)

  -- a memory that is placed, where it is of the block, is available
  available : (front rest : List Value) → IsFront front rest → (m : ValueId) → Source m
      → is_placed b.values front m ≡ true → Available front m
  available front rest split m (inr (none, passes)) placed = inr (none, earlier m passes)
  available front rest split m (inl (d, stands, defines, is)) placed =
      by_part (or_cases (not (has_value b.values m)) (has_value front m) placed)
    where
      by_value : ((z : Value) × Stands front z × (z.id.0 ≡ m.0)) → Available front m
      by_value (z, in_front, same) =
          let one : z ≡ d
          = one_value b.values (items_of u f h b there) z d (front_of_block front rest split z in_front) stands
          (same ∙ ap (λ (x : ValueId). x.0) (sym is)) in
          inl (d, subst (Stands front) one in_front, defines, is)

      by_part : (not (has_value b.values m) ≡ true) ⊎ (has_value front m ≡ true) → Available front m
      by_part (inl outside) =
          absurd (both_ways (has_value b.values m) (not-true (has_value b.values m) outside)
          (stands_has b.values m d stands (ap (λ (x : ValueId). x.0) is)))
      by_part (inr is_there) = by_value (has_from front m is_there)

  -- ---- what inner definers take

  inner_takes : (front rest : List Value) (v : Value) → IsFront front (v ∷ rest) → is_inner v ≡ true
      → (m : ValueId) × (taken_by f v ≡ Some m) × Available front m
  inner_takes front rest v split inner =
      let passed : TakesPassed f b before v = law.inner v (as_contained v (here_of_block front rest v split)) inner in
      let w : Waited front v = waited front rest v split (inner_no_phi v inner) in
      let taken : memory_taken w.first.op w.first.args ≡ Some passed.memory
      = sym (waited_takes front rest v split w) ∙ passed.taken in (
        passed.memory,
        passed.taken,
        available front (v ∷ rest) split passed.memory (passed_source v passed.memory passed.taken passed.passed)
            (last_placed front v w passed.memory (last_of_taken w.first.op w.first.args passed.memory taken)),
      )

  one_takes : (x y : Value) (m : ValueId) → Stands b.values x → Stands b.values y → is_inner x ≡ true
      → is_inner y ≡ true
      → takes f x m ≡ true → takes f y m ≡ true → x ≡ y
  one_takes x y m in_x in_y inner_x inner_y takes_x takes_y =
      one_taker f (well_formed_func u f h) b there law.chained x y m (as_inner x in_x inner_x)
      (as_inner y in_y inner_y) takes_x takes_y

  -- no inner definer before another one takes the memory that this one takes
  inner_untaken : (front rest : List Value) (v : Value) → IsFront front (v ∷ rest) → is_inner v ≡ true → (m : ValueId)
      → taken_by f v ≡ Some m → TakenIn front m → ⊥
  inner_untaken front rest v split inner m taken (d, in_front, inner_d, takes_d) =
      let one : d ≡ v
      = one_takes d v m (front_of_block front (v ∷ rest) split d in_front)
      (here_of_block front rest v split) inner_d inner
      takes_d (takes_same f v m taken) in
      once front rest v split d in_front (ap (λ (z : Value). z.id.0) one)

  -- nor the one that a reader takes: the reader would stand before it
  reader_untaken : (front rest : List Value) (v : Value) → IsFront front (v ∷ rest) → reads_memory v.op ≡ true
      → (m : ValueId)
      → taken_by f v ≡ Some m → TakenIn front m → ⊥
  reader_untaken front rest v split reads m taken (d, in_front, inner_d, takes_d) = by_split
      (split_at front d in_front)
    where
      by_split : Split front d → ⊥
      by_split (ahead, back, is) =
          let more : IsFront ahead (d ∷ (back ++ v ∷ rest))
          = split ∙ ap (λ l. l ++ v ∷ rest) is ∙ append_assoc ahead (d ∷ back) (v ∷ rest) in
          let w : Waited ahead d = waited ahead (back ++ v ∷ rest) d more (inner_no_phi d inner_d) in
          let taken_d : memory_taken w.first.op w.first.args ≡ Some m
          = sym (waited_takes ahead (back ++ v ∷ rest) d more w) ∙ takes_is f d m takes_d in
          let taken_v : memory_taken v.op v.args ≡ Some m
          = sym (no_select_takes f v (reads_no_follower v.op reads)) ∙ taken in
          let has : has_value w.ahead v.id ≡ true
          = ready_readers b.values w.ahead w.first w.ready (changes w.first w.is_of) v
          (here_of_block front rest v split) reads
          (memories_same (memory_taken v.op v.args) (memory_taken w.first.op w.first.args) m m taken_v taken_d refl) in
          by_value w (has_from w.ahead v.id has)
        where
          changes : (first : Value)
              → ((is_follower d.op ≡ false) × (first ≡ d))
              ⊎ ((is_call first.op ≡ true) × (selects first.id d ≡ true) × Stands ahead first)
              → changes_memory first.op ≡ true
          changes first (inl (no_follower, one)) =
              subst (λ (z : Value). changes_memory z.op ≡ true) (sym one)
              (store_changes d.op (inner_store d inner_d no_follower))
          changes first (inr (call, sel, at)) = call_changes first.op call

          by_value : (w : Waited ahead d) → ((z : Value) × Stands w.ahead z × (z.id.0 ≡ v.id.0)) → ⊥
          by_value w (z, in_ahead, same) =
              once front rest v split z (subst (λ l. Stands l z) (sym is)
              (stands_left ahead (d ∷ back) z (w.inside z in_ahead))) same

  -- nor the one that a call takes: only its own memory select takes that too
  call_untaken : (front rest : List Value) (v : Value) → IsFront front (v ∷ rest) → (s : Value) → Stands b.values s
      → selects v.id s ≡ true → is_inner s ≡ true → (m : ValueId) → taken_by f s ≡ Some m → TakenIn front m → ⊥
  call_untaken front rest v split s in_s sel inner_s m taken (d, in_front, inner_d, takes_d) =
      by_split (split_at front d in_front)
    where
      one : d ≡ s
      one = one_takes d s m (front_of_block front (v ∷ rest) split d in_front) in_s inner_d inner_s takes_d
          (takes_same f s m taken)

      by_split : Split front d → ⊥
      by_split (ahead, back, is) =
          let more : IsFront ahead (d ∷ (back ++ v ∷ rest))
          = split ∙ ap (λ l. l ++ v ∷ rest) is ∙ append_assoc ahead (d ∷ back) (v ∷ rest) in
          let w : Waited ahead d = waited ahead (back ++ v ∷ rest) d more (inner_no_phi d inner_d) in
          by_place w w.is_of
        where
          follows : is_follower d.op ≡ true
          follows = subst (λ (z : Value). is_follower z.op ≡ true) (sym one) (select_follows v.id s sel)

          by_place : (w : Waited ahead d)
              → ((is_follower d.op ≡ false) × (w.first ≡ d))
              ⊎ ((is_call w.first.op ≡ true) × (selects w.first.id d ≡ true) × Stands ahead w.first) → ⊥
          by_place w (inl (no_follower, same)) = both_ways (is_follower d.op) no_follower follows
          by_place w (inr (call, sel_d, in_ahead)) =
              let of_d : Stands b.values d = front_of_block front (v ∷ rest) split d in_front in
              let x : (is_follower d.op ≡ true) × ((a : ValueId) × (d.args ≡ a ∷ []) × (w.first.id.0 ≡ a.0))
              = selects_only b.values (items_of u f h b there) of_d.0 d w.first.id of_d.1 sel_d in
              let y : (is_follower d.op ≡ true) × ((a : ValueId) × (d.args ≡ a ∷ []) × (v.id.0 ≡ a.0))
              = selects_only b.values (items_of u f h b there) of_d.0 d v.id of_d.1
              (subst (λ (z : Value). selects v.id z ≡ true) (sym one) sel) in
              let lists : x.1.0 ∷ [] ≡ y.1.0 ∷ [] = sym x.1.1 ∙ y.1.1 in
              let arg : x.1.0 ≡ y.1.0 = cc in
              once front rest v split w.first
              (subst (λ l. Stands l w.first) (sym is) (stands_left ahead (d ∷ back) w.first in_ahead))
              (x.1.2 ∙ ap (λ (z : ValueId). z.0) arg ∙ sym y.1.2)

  -- ---- the current memory in first order

  -- of the memories there are, each but the last is taken; and inner definers stand behind the one that begins the
  -- block
  record Current (front : List Value) : Type 0 where
    current : (m : ValueId) → Available front m → (last_passed start front ≡ Some m) ⊎ TakenIn front m
    begun : (d : Value) → Stands front d → is_inner d ≡ true → (g : Value) → Stands b.values g → begins_memory g ≡ true
        → Stands front g

  none_yet : Current []
  none_yet = record { current = outside; begun = λ d is inner g of begins. absurd (stands_not d is) }
    where
      outside : (m : ValueId) → Available [] m → (start ≡ Some m) ⊎ TakenIn [] m
      outside m (inl (d, is, defines, one)) = absurd (stands_not d is)
      outside m (inr (none, passed)) = inl passed

  -- one more value
  module _ (front rest : List Value) (v : Value) (split : IsFront front (v ∷ rest)) (c : Current front) where
    abbrev Last : ValueId → Type 0
    Last m = memory_behind (last_passed start front) v ≡ Some m

    abbrev Next : ValueId → Type 0
    Next m = Last m ⊎ TakenIn (front ++ v ∷ []) m

    still_taken : (m : ValueId) → TakenIn front m → TakenIn (front ++ v ∷ []) m
    still_taken m (d, is, inner, t) = (d, stands_left front (v ∷ []) d is, inner, t)

    is_last : (m : ValueId) → is_definer v ≡ true → v.id ≡ m → Last m
    is_last m defines one =
        ap (λ t. if t then Some v.id else last_passed start front) defines ∙ ap Some one

    stays : (m : ValueId) → is_definer v ≡ false → last_passed start front ≡ Some m → Last m
    stays m no_definer last = ap (λ t. if t then Some v.id else last_passed start front) no_definer ∙ last

    -- it takes the memory that was current
    inner_next : (m : ValueId) → is_inner v ≡ true → last_passed start front ≡ Some m → Next m
    inner_next m inner last = by_taken (inner_takes front rest v split inner)
      where
        by_current : (m' : ValueId) → taken_by f v ≡ Some m' → (last_passed start front ≡ Some m') ⊎ TakenIn front m'
            → Next m
        by_current n taken (inl same) =
            let one : n ≡ m = let e : Some n ≡ Some m = sym same ∙ last in cc in
            inr (v, stands_right front (v ∷ []) v (zero, refl), inner, takes_same f v m (taken ∙ ap Some one))
        by_current n taken (inr t) = absurd (inner_untaken front rest v split inner n taken t)

        by_taken : ((n : ValueId) × (taken_by f v ≡ Some n) × Available front n) → Next m
        by_taken (n, taken, is) = by_current n taken (c.current n is)

    old_by : (m : ValueId) → (begins_memory v ≡ true) ⊎ (is_inner v ≡ true) ⊎ (is_definer v ≡ false)
        → Available front m → (last_passed start front ≡ Some m) ⊎ TakenIn front m → Next m
    old_by m kind is (inr t) = inr (still_taken m t)
    old_by m (inr (inr none)) is (inl last) = inl (stays m none last)
    old_by m (inr (inl inner)) is (inl last) = inner_next m inner last
    old_by m (inl begins) (inr (none, passed)) (inl last) = absurd (none v (here_of_block front rest v split) begins)
    old_by m (inl begins) (inl (d, in_front, defines, one)) (inl last) =
        by_definer (or_cases (begins_memory d) (is_inner d) defines)
      where
        by_definer : (begins_memory d ≡ true) ⊎ (is_inner d ≡ true) → Next m
        by_definer (inl also) =
            let same : d ≡ v
            = one_begins u f h b there law.chained d v (front_of_block front (v ∷ rest) split d in_front)
            (here_of_block front rest v split) also begins in
            absurd (once front rest v split d in_front (ap (λ (z : Value). z.id.0) same))
        by_definer (inr inner) =
            absurd (once front rest v split v
            (c.begun d in_front inner v (here_of_block front rest v split) begins) refl)

    kind_of : (begins_memory v ≡ true) ⊎ (is_inner v ≡ true) ⊎ (is_definer v ≡ false)
    kind_of = go (begins_memory v) refl (is_inner v) refl
      where
        go : (x : Bool) → begins_memory v ≡ x → (y : Bool) → is_inner v ≡ y
            → (begins_memory v ≡ true) ⊎ (is_inner v ≡ true) ⊎ (is_definer v ≡ false)
        go true e y d = inl e
        go false e true d = inr (inl d)
        go false e false d = inr (inr (ap (λ t. t || is_inner v) e ∙ d))

    old : (m : ValueId) → Available front m → Next m
    old m is = old_by m kind_of is (c.current m is)

    next_current : (m : ValueId) → Available (front ++ v ∷ []) m → Next m
    next_current m (inr outside) = old m (inr outside)
    next_current m (inl (d, is, defines, one)) = by_part (stands_either front (v ∷ []) d is)
      where
        by_here : (v ≡ d) ⊎ Stands [] d → Next m
        by_here (inl same) =
            inl (is_last m (subst (λ (z : Value). is_definer z ≡ true) (sym same) defines)
            (ap (λ (z : Value). z.id) same ∙ one))
        by_here (inr none) = absurd (stands_not d none)

        by_part : Stands front d ⊎ Stands (v ∷ []) d → Next m
        by_part (inl in_front) = old m (inl (d, in_front, defines, one))
        by_part (inr here) = by_here (stands_here v [] d here)

    next_begun : (d : Value) → Stands (front ++ v ∷ []) d → is_inner d ≡ true → (g : Value) → Stands b.values g
        → begins_memory g ≡ true → Stands (front ++ v ∷ []) g
    next_begun d is inner g of begins = by_part (stands_either front (v ∷ []) d is)
      where
        by_taken : (n : ValueId) → Available front n → Stands (front ++ v ∷ []) g
        by_taken n (inr (none, passed)) = absurd (none g of begins)
        by_taken n (inl (e, in_front, defines, one)) = by_definer (or_cases (begins_memory e) (is_inner e) defines)
          where
            by_definer : (begins_memory e ≡ true) ⊎ (is_inner e ≡ true) → Stands (front ++ v ∷ []) g
            by_definer (inl also) =
                let same : e ≡ g
                = one_begins u f h b there law.chained e g
                (front_of_block front (v ∷ rest) split e in_front) of also begins in
                stands_left front (v ∷ []) g (subst (Stands front) same in_front)
            by_definer (inr inside) = stands_left front (v ∷ []) g (c.begun e in_front inside g of begins)

        by_here : (v ≡ d) ⊎ Stands [] d → Stands (front ++ v ∷ []) g
        by_here (inl same) =
            let t : (n : ValueId) × (taken_by f v ≡ Some n) × Available front n
            = inner_takes front rest v split (subst (λ (z : Value). is_inner z ≡ true) (sym same) inner) in
            by_taken t.0 t.2
        by_here (inr none) = absurd (stands_not d none)

        by_part : Stands front d ⊎ Stands (v ∷ []) d → Stands (front ++ v ∷ []) g
        by_part (inl in_front) = stands_left front (v ∷ []) g (c.begun d in_front inner g of begins)
        by_part (inr here) = by_here (stands_here v [] d here)

    next : Current (front ++ v ∷ [])
    next = record {
      current = λ m is.
          subst (λ o. (o ≡ Some m)
          ⊎ TakenIn (front ++ v ∷ []) m) (sym (last_pushed start front v)) (next_current m is);
      begun = next_begun;
    }

  current_behind : (more front rest : List Value) → IsFront front (more ++ rest) → Current front
      → Current (front ++ more)
  current_behind [] front rest split c = subst Current (sym (append-nil front)) c
  current_behind (v ∷ more) front rest split c =
      subst Current (append_assoc front (v ∷ []) more)
      (current_behind more (front ++ v ∷ []) rest (split ∙ sym (append_assoc front (v ∷ []) (more ++ rest)))
      (next front (more ++ rest) v split c))

  current_at : (front rest : List Value) → IsFront front rest → Current front
  current_at front rest split = current_behind front [] rest split none_yet

  -- a memory that is there and isn't taken is the current one
  is_current : (front rest : List Value) → IsFront front rest → (m : ValueId) → Available front m
      → (TakenIn front m → ⊥)
      → last_passed start front ≡ Some m
  is_current front rest split m is untaken = go ((current_at front rest split).current m is)
    where
      go : (last_passed start front ≡ Some m) ⊎ TakenIn front m → last_passed start front ≡ Some m
      go (inl last) = last
      go (inr t) = absurd (untaken t)

  -- ---- the end of the block

  abbrev Untaken : ValueId → Type 0
  Untaken m = (d : Value) → Stands b.values d → is_inner d ≡ true → takes f d m ≡ true → ⊥

  last_chain : (chain : List Value) → All (Contains (inner_of b)) chain → All (Contains chain) (inner_of b)
      → IsChain f b chain
      → (m : ValueId) → last_definer b chain ≡ Some m → Source m × Untaken m
  last_chain [] within whole in_order m last = (by_first (find begins_memory b.values) refl last, untaken)
    where
      by_first : (o : Option Value) → find begins_memory b.values ≡ o → option_map (λ (v : Value). v.id) o ≡ Some m
          → Source m
      by_first None e is = cc
      by_first (Some g) e is =
          let found : Contains b.values g × (begins_memory g ≡ true) = find_there begins_memory b.values g e in
          let one : g.id ≡ m = cc in
          inl (g, contains_at b.values g found.0, begins_defines g found.1, one)

      untaken : Untaken m
      untaken d is inner t =
          stands_not d (contains_at [] d (All-contains (Contains []) (inner_of b) d whole (as_inner d is inner)))
  last_chain (d ∷ rest) within whole in_order m last = by_last (some_last d rest)
    where
      by_last : ((x : Value) × (slice_get (d ∷ rest) (length rest) ≡ Some x)) → Source m × Untaken m
      by_last (x, at) =
          let is : Stands b.values x × (is_inner x ≡ true)
          = inner_there x (all_at (Contains (inner_of b)) (d ∷ rest) (length rest) x within at) in
          let found : Some x.id ≡ Some m
          = sym (ap (option_map (λ (v : Value). v.id)) (last_at d rest ∙ at)) ∙ last in
          let one : x.id ≡ m = cc in (
            inl (x, is.0, inner_defines x is.1, one),
            λ y in_y inner t.
                last_free f b (inner_apart f (well_formed_func u f h) b there) d rest within in_order whole x y at
                (as_inner y in_y inner)
                (subst (λ n. takes f y n ≡ true) (sym one) t),
          )

  no_definer : has_definer b ≡ false → (d : Value) → Stands b.values d → is_definer d ≡ true → ⊥
  no_definer none d is defines = both_ways (has_definer b) none (any_from is_definer b.values d is defines)

  end_source : (m : ValueId) → Ends f b before m → Source m × Untaken m
  end_source m (inl (has, last)) =
      last_chain last.chained.chain last.chained.within last.chained.whole last.chained.in_order m last.last
  end_source m (inr (none, begins)) =
      (begins_source m begins, λ d is inner t. no_definer none d is (inner_defines d inner))

  at_end : (front rest : List Value) → IsFront front rest → (m : ValueId) → Source m × Untaken m
      → is_placed b.values front m ≡ true → last_passed start front ≡ Some m
  at_end front rest split m (source, untaken) placed =
      is_current front rest split m (available front rest split m source placed) not_taken
    where
      not_taken : TakenIn front m → ⊥
      not_taken (d, is, inner, t) = untaken d (front_of_block front rest split d is) inner t

  -- all values of the block are placed in the end
  all_placed : (m : ValueId) → is_placed b.values order m ≡ true
  all_placed m = go (has_value b.values m) refl
    where
      by_value : ((z : Value) × Stands b.values z × (z.id.0 ≡ m.0)) → has_value order m ≡ true
      by_value (z, is, same) = stands_has order m z (order_whole b.values (orderly u f h b there) z is) same

      go : (t : Bool) → has_value b.values m ≡ t → (not t || has_value order m) ≡ true
      go false e = refl
      go true e = by_value (has_from b.values m e)

  whole : IsFront order []
  whole = sym (append-nil order)

  pub passed_on : (m : ValueId) → Passes f (b ∷ before) m → last_passed start order ≡ Some m
  passed_on m (inl last) = at_end order [] whole m (end_source m (inl last)) (all_placed m)
  passed_on m (inr (none, passes)) =
      at_end order [] whole m (
        inr ((λ x is begins. no_definer none x is (begins_defines x begins)), passes),
        λ d is inner t. no_definer none d is (inner_defines d inner),
      )
      (all_placed m)

  -- ---- the law for one path

  exit_names : is_exit b.kind ≡ true → NamesLast (last_passed start order) b.control
  exit_names is =
      let e : TakesEnd f b before b.control = law.exit is in
      record {
        memory = e.memory;
        is_named = e.is_taken;
        is_last = at_end order [] whole e.memory (end_source e.memory e.at_end) (all_placed e.memory);
      }

  result_at_end : (v : Value) → Contains b.values v → is_result v.op ≡ true
      → NamesLast (last_passed start order) (last_or None v.args)
  result_at_end v stands is =
      let t : TakesEnd f b before (last_or None v.args) = law.result v stands is in
      record {
        memory = t.memory;
        is_named = t.is_taken;
        is_last = at_end order [] whole t.memory (end_source t.memory t.at_end) (all_placed t.memory);
      }

  module _ (front : List Value) (v : Value) (rest : List Value) (split : IsFront front (v ∷ rest))
      (names : names_memory v.op ≡ true) where
    here : Contains b.values v
    here = as_contained v (here_of_block front rest v split)

    own_placed : (m : ValueId) → last_or None v.args ≡ Some m → is_placed b.values front m ≡ true
    own_placed m last = go (waited front rest v split (phi_names_none v.op names))
      where
        by_place : (w : Waited front v)
            → ((is_follower v.op ≡ false) × (w.first ≡ v))
            ⊎ ((is_call w.first.op ≡ true) × (selects w.first.id v ≡ true) × Stands front w.first)
            → is_placed b.values front m ≡ true
        by_place w (inl (no_follower, one)) =
            last_placed front v w m (ap (λ (z : Value). last_or None z.args) one ∙ last)
        by_place w (inr (call, sel, is)) =
            absurd (both_ways (is_follower v.op) (select_names_none v.op names) (select_follows w.first.id v sel))

        go : Waited front v → is_placed b.values front m ≡ true
        go w = by_place w w.is_of

    names_by : (m : ValueId) → last_or None v.args ≡ Some m → Source m → (TakenIn front m → ⊥)
        → NamesLast (last_passed start front) (last_or None v.args)
    names_by m last source untaken = record {
      memory = m;
      is_named = last;
      is_last =
          is_current front (v ∷ rest) split m (available front (v ∷ rest) split m source (own_placed m last)) untaken;
    }

    own_last : (m : ValueId) → taken_by f v ≡ Some m → last_or None v.args ≡ Some m
    own_last m taken =
        last_of_taken v.op v.args m (sym (no_select_takes f v (select_names_none v.op names)) ∙ taken)

    reader_names : reads_memory v.op ≡ true → NamesLast (last_passed start front) (last_or None v.args)
    reader_names reads =
        let t : TakesPassed f b before v = law.reader v here reads in
        names_by t.memory (own_last t.memory t.taken) (passed_source v t.memory t.taken t.passed)
        (reader_untaken front rest v split reads t.memory t.taken)

    store_names : is_store v.op ≡ true → NamesLast (last_passed start front) (last_or None v.args)
    store_names store =
        let inner : is_inner v ≡ true = or_left (is_store v.op) (is_follower v.op && is_memory v) store in
        let t : TakesPassed f b before v = law.inner v here inner in
        names_by t.memory (own_last t.memory t.taken) (passed_source v t.memory t.taken t.passed)
        (inner_untaken front rest v split inner t.memory t.taken)

    call_names : is_call v.op ≡ true → NamesLast (last_passed start front) (last_or None v.args)
    call_names call =
        by_select (memory_select u f h b there v (here_of_block front rest v split) call)
      where
        by_select : ((s : Value) × Stands b.values s × (selects v.id s ≡ true) × (is_inner s ≡ true))
            → NamesLast (last_passed start front) (last_or None v.args)
        by_select (s, is, sel, inner) =
            let t : TakesPassed f b before s = law.inner s (as_contained s is) inner in
            let taken : memory_taken v.op v.args ≡ Some t.memory
            = sym (select_takes u f h b there v s (here_of_block front rest v split) is sel) ∙ t.taken in
            names_by t.memory (last_of_taken v.op v.args t.memory taken) (passed_source s t.memory t.taken t.passed)
            (call_untaken front rest v split s is sel inner t.memory t.taken)

    result_names : is_result v.op ≡ true → NamesLast (last_passed start front) (last_or None v.args)
    result_names result =
        let t : TakesEnd f b before (last_or None v.args) = law.result v here result in
        record {
          memory = t.memory;
          is_named = t.is_taken;
          is_last =
              at_end front (v ∷ rest) split t.memory (end_source t.memory t.at_end) (own_placed t.memory t.is_taken);
        }

    value_names : NamesLast (last_passed start front) (last_or None v.args)
    value_names = by_result (or_cases (reads_memory v.op || is_store v.op || is_call v.op) (is_result v.op) names)
      where
        by_reader : (reads_memory v.op ≡ true) ⊎ (is_store v.op ≡ true)
            → NamesLast (last_passed start front) (last_or None v.args)
        by_reader (inl reads) = reader_names reads
        by_reader (inr store) = store_names store

        by_call : ((reads_memory v.op || is_store v.op) ≡ true) ⊎ (is_call v.op ≡ true)
            → NamesLast (last_passed start front) (last_or None v.args)
        by_call (inl e) = by_reader (or_cases (reads_memory v.op) (is_store v.op) e)
        by_call (inr call) = call_names call

        by_result : ((reads_memory v.op || is_store v.op || is_call v.op) ≡ true) ⊎ (is_result v.op ≡ true)
            → NamesLast (last_passed start front) (last_or None v.args)
        by_result (inl e) = by_call (or_cases (reads_memory v.op || is_store v.op) (is_call v.op) e)
        by_result (inr result) = result_names result

  each_stands : All (Contains order) b.values
  each_stands k d within =
      let x : Value = get_or b.values k d in
      let is : Stands order x
      = order_whole b.values (orderly u f h b there) x (k, slice_get-get_or b.values k d within) in
      at_contains order is.0 x is.1

  pub names_last : LastDefiner f b before
  names_last = record {
    each_stands = each_stands;
    value = value_names;
    result = result_at_end;
    exit = exit_names;
    passed = passed_on;
  }

-- ---- the law

path_passes : (u : SsaUnit) (f : Func) → AcceptedFunc u f → (path : List Block) → IsPath f path → (m : ValueId)
    → Passes f path m → last_on_path path ≡ Some m
path_passes u f h [] is_path m passes = absurd is_path
path_passes u f h (b ∷ []) is_path m passes = passed_on u f h b is_path.0 [] is_path (λ n none. absurd none) m passes
path_passes u f h (b ∷ a ∷ before) is_path m passes =
    passed_on u f h b is_path.0 (a ∷ before) is_path (path_passes u f h (a ∷ before) is_path.2) m passes

before_passes : (u : SsaUnit) (f : Func) → AcceptedFunc u f → (b : Block) (before : List Block) → IsPath f (b ∷ before)
    → (m : ValueId) → Passes f before m → last_on_path before ≡ Some m
before_passes u f h b [] is_path m passes = absurd passes
before_passes u f h b (a ∷ before) is_path m passes = path_passes u f h (a ∷ before) is_path.2 m passes

pub last_definer_is_named : LastDefinerIsNamed
last_definer_is_named u f h b there = (
  λ before is_path. names_last u f h b there before is_path (before_passes u f h b before is_path),
  λ v k arg source before stands phi is_arg is_source is_path.
      path_passes u f h (source ∷ before) is_path.2 arg
      (phi_is_passed u f h b there v k arg source before stands phi is_arg is_source is_path),
)
