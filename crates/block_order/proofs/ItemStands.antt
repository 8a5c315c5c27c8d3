-- An item stands before another one where an edge leads from it to the other, or through a memory that it reads and the
-- other changes.
use Rattle.std.proofs.Common.{◌≡◌, ℕ, ◌+◌, ◌⊎◌, inl, inr, Bool, true, false, not, ◌&&◌, ◌||◌, if◌then◌else◌, List, []}
use Rattle.std.proofs.Common.{◌∷◌, filter, Option, None, Some, refl, subst, sym, ap, ◌∙◌, arith}
use Rattle.std.specs.List.{list_any}
use Rattle.std.proofs.lemmas.Bool.{and_from, and_parts, both_ways, not-true, not_from_false, or_cases, or_left}
use Rattle.std.proofs.lemmas.Bool.{or_right}
use Rattle.gossa_base.specs.declared.ids.ValueId.{ValueId}
use Rattle.ssa_ir.specs.declared.func.Value.{Value}
use Rattle.ssa_ir.specs.FirstOrder.{by_number, has_value, item, memory_taken, readers_before, same_memory, same_value}
use Rattle.ssa_ir.specs.FirstOrder.{selects}
use Rattle.ssa_ir.specs.OpKinds.{changes_memory, is_call, is_follower, reads_memory}
use Rattle.ssa_ir.specs.Cycles.{names_its_call, stands_before, takes_of, takes_one}
use Rattle.block_order.specs.LowestOnCycle.{HasItems}
use Rattle.block_order.specs.tables.ItemGraph.{first_of, is_index, owner, takes_memory}
use Rattle.gossa_base.specs.Lists.{first_from}
use Rattle.block_order.proofs.ItemSteps.{same_taker}
use Rattle.block_order.proofs.ItemEdges.{Takes, TakesFirst, is_index_some, some_is_index}
use Rattle.block_order.proofs.StandingLemmas.{any_by_number}
use Rattle.gossa_base.proofs.ListPlaces.{At, Found, any_at, any_filter, find_any, first_at, first_some, same_at}
use Rattle.block_order.proofs.ItemOwners.{IsLeader, call_no_follower, equal_numbers, item_owner, owner_has}
use Rattle.block_order.proofs.ItemOwners.{same_numbers}
use Rattle.block_order.proofs.ItemOwners.{same_standing, selects_only}

-- ---- memories

pub same_memories : (a b : Option ValueId) → same_memory a b ≡ true
    → (m : ValueId) × (n : ValueId) × (a ≡ Some m) × (b ≡ Some n) × (m.0 ≡ n.0)
same_memories None b h = cc
same_memories (Some m) None h = cc
same_memories (Some m) (Some n) h = (m, n, refl, refl, same_numbers m n h)

pub memories_same : (a b : Option ValueId) (m n : ValueId) → a ≡ Some m → b ≡ Some n → m.0 ≡ n.0
    → same_memory a b ≡ true
memories_same a b m n is_a is_b same =
    ap (λ o. same_memory o b) is_a ∙ ap (same_memory (Some m)) is_b ∙ equal_numbers m n same

-- a value that takes a memory takes one that is first taken somewhere in its block
pub taken_first : (block : List Value) (i : ℕ) (x : Value) (m : ValueId) → At block i x
    → memory_taken x.op x.args ≡ Some m → (f : ℕ) × TakesFirst block x f
taken_first block i x m at takes =
    let some : (f : ℕ) × (first_from (takes_memory m) 0 block ≡ Some f) =
    first_some (takes_memory m) 0 block i x at
    (memories_same (memory_taken x.op x.args) (Some m) m m takes refl refl) in
    (some.0, ap (first_of block) takes ∙ some.1)

-- what is first taken at one index is one memory
pub first_taken : (block : List Value) (x : Value) (f : ℕ) → TakesFirst block x f
    → (m : ValueId) × (memory_taken x.op x.args ≡ Some m) × ((w : Value) × At block f w × (takes_memory m w ≡ true))
first_taken block x f h = by_taken (memory_taken x.op x.args) refl h
  where
    by_taken : (o : Option ValueId) → memory_taken x.op x.args ≡ o → first_of block o ≡ Some f
        → (m : ValueId) × (memory_taken x.op x.args ≡ Some m) × ((w : Value) × At block f w × (takes_memory m w ≡ true))
    by_taken None e h = cc
    by_taken (Some m) e h =
        let found : (i : ℕ) × (w : Value) × (f ≡ 0 + i) × At block i w × (takes_memory m w ≡ true) =
        first_at (takes_memory m) 0 block f h in
        let same : found.0 ≡ f = omega (arith, found.2) in
        (m, e, (found.1, subst (λ k. At block k found.1) same found.3, found.4))

pub same_first : (block : List Value) (x y : Value) (f : ℕ) → TakesFirst block x f → TakesFirst block y f
    → same_memory (memory_taken x.op x.args) (memory_taken y.op y.args) ≡ true
same_first block x y f first_x first_y =
    let of_x : (m : ValueId) × (memory_taken x.op x.args ≡ Some m)
    × ((w : Value) × At block f w × (takes_memory m w ≡ true)) =
    first_taken block x f first_x in
    let of_y : (n : ValueId) × (memory_taken y.op y.args ≡ Some n)
    × ((w : Value) × At block f w × (takes_memory n w ≡ true)) =
    first_taken block y f first_y in
    let one : of_x.2.0 ≡ of_y.2.0 = same_at block f of_x.2.0 of_y.2.0 of_x.2.1 of_y.2.1 in
    let w : Value = of_y.2.0 in
    let by_x : takes_memory of_x.0 w ≡ true = subst (λ (v : Value). takes_memory of_x.0 v ≡ true) one of_x.2.2 in
    let m : (a : ValueId) × (b : ValueId) × (memory_taken w.op w.args ≡ Some a) × (Some of_x.0 ≡ Some b) × (a.0 ≡ b.0) =
    same_memories (memory_taken w.op w.args) (Some of_x.0) by_x in
    let n : (a : ValueId) × (b : ValueId) × (memory_taken w.op w.args ≡ Some a) × (Some of_y.0 ≡ Some b) × (a.0 ≡ b.0) =
    same_memories (memory_taken w.op w.args) (Some of_y.0) of_y.2.2 in
    let left : of_x.0 ≡ m.1 = let e : Some of_x.0 ≡ Some m.1 = m.3 in cc in
    let right : of_y.0 ≡ n.1 = let e : Some of_y.0 ≡ Some n.1 = n.3 in cc in
    let middle : m.0 ≡ n.0 = let e : Some m.0 ≡ Some n.0 = sym m.2 ∙ n.2 in cc in
    let number : of_x.0.0 ≡ of_y.0.0 =
    ap (λ (a : ValueId). a.0) left ∙ sym m.4 ∙ ap (λ (a : ValueId). a.0) middle ∙ n.4
    ∙ sym (ap (λ (a : ValueId). a.0) right) in
    memories_same (memory_taken x.op x.args) (memory_taken y.op y.args) of_x.0 of_y.0 of_x.1 of_y.1 number

pub first_same : (block : List Value) (x y : Value) (f : ℕ) → TakesFirst block x f
    → same_memory (memory_taken x.op x.args) (memory_taken y.op y.args) ≡ true → TakesFirst block y f
first_same block x y f first same =
    let ms : (m : ValueId) × (n : ValueId) × (memory_taken x.op x.args ≡ Some m) × (memory_taken y.op y.args ≡ Some n)
    × (m.0 ≡ n.0) =
    same_memories (memory_taken x.op x.args) (memory_taken y.op y.args) same in
    ap (first_of block) ms.3 ∙ sym (same_taker block ms.0 ms.1 ms.4) ∙ sym (ap (first_of block) ms.2) ∙ first

-- ---- standing before

module _ (block : List Value) (has : HasItems block) where
  abbrev behind : Value → Value → Bool → Bool
  behind x y b =
      list_any (λ w. list_any (takes_one block x y w) w.args)
      (if b then by_number (filter (selects y.id) block) else [])

  -- a call names no call
  own_name : (y : Value) (a : ValueId) → names_its_call y y a ≡ false
  own_name y a = by_op (is_call y.op) refl
    where
      by_op : (b : Bool) → is_call y.op ≡ b → ((b && selects y.id y) && same_value y.id a) ≡ false
      by_op false e = refl
      by_op true e =
          ap (λ c. (c && list_any (same_value y.id) y.args) && same_value y.id a) (call_no_follower y.op e)

  -- selects take nothing of another item
  selects_none : (x y : Value) → behind x y (is_call y.op) ≡ true → ⊥
  selects_none x y h = by_op (is_call y.op) refl h
    where
      only_own : (k : ℕ) (w : Value) → At block k w → is_call y.op ≡ true → selects y.id w ≡ true
          → list_any (takes_one block x y w) w.args ≡ true → ⊥
      only_own k w at call sel h =
          let only : (is_follower w.op ≡ true) × ((a : ValueId) × (w.args ≡ a ∷ []) × (y.id.0 ≡ a.0)) =
          selects_only block has k w y.id at sel in
          let a : ValueId = only.1.0 in
          let one : (takes_one block x y w a || false) ≡ true =
          sym (ap (list_any (takes_one block x y w)) only.1.1) ∙ h in
          let named : names_its_call y w a ≡ true =
          and_from (is_call y.op && selects y.id w) (same_value y.id a)
          (and_from (is_call y.op) (selects y.id w) call sel) (equal_numbers y.id a only.1.2) in
          from_or a named (or_cases (takes_one block x y w a) false one)
        where
          from_or : (a : ValueId) → names_its_call y w a ≡ true → (takes_one block x y w a ≡ true) ⊎ (false ≡ true)
              → ⊥
          from_or a named (inl takes) =
              both_ways (names_its_call y w a)
              (not-true (names_its_call y w a)
              (and_parts (has_value (item block x) a) (not (names_its_call y w a)) takes).1) named
          from_or a named (inr none) = cc

      from_found : is_call y.op ≡ true → Found (λ w. selects y.id w && list_any (takes_one block x y w) w.args) block
          → ⊥
      from_found call (k, w, at, passes) =
          let parts : (selects y.id w ≡ true) × (list_any (takes_one block x y w) w.args ≡ true) =
          and_parts (selects y.id w) (list_any (takes_one block x y w) w.args) passes in
          only_own k w at call parts.0 parts.1

      by_op : (b : Bool) → is_call y.op ≡ b → behind x y b ≡ true → ⊥
      by_op false e h = cc
      by_op true e h =
          from_found e (find_any (λ w. selects y.id w && list_any (takes_one block x y w) w.args) block
          (sym (any_by_number (λ w. list_any (takes_one block x y w) w.args) (filter (selects y.id) block)
          ∙ any_filter (λ w. list_any (takes_one block x y w) w.args) (selects y.id) block) ∙ h))

  takes_from : (i : ℕ) (x y : Value) → IsLeader block i x → takes_of block x y ≡ true → Takes block i y
  takes_from i x y is h = by_place (or_cases (list_any (takes_one block x y y) y.args) (behind x y (is_call y.op)) h)
    where
      from_found : Found (takes_one block x y y) y.args → Takes block i y
      from_found (k, a, at, takes) =
          let part : has_value (item block x) a ≡ true =
          (and_parts (has_value (item block x) a) (not (names_its_call y y a)) takes).0 in
          any_at (λ b. is_index (owner block b) i) y.args k a at
          (some_is_index (owner block a) i (item_owner block has i x a is part))

      by_place : (list_any (takes_one block x y y) y.args ≡ true) ⊎ (behind x y (is_call y.op) ≡ true)
          → Takes block i y
      by_place (inl own) = from_found (find_any (takes_one block x y y) y.args own)
      by_place (inr selects) = absurd (selects_none x y selects)

  from_takes : (i : ℕ) (x y : Value) → IsLeader block i x → Takes block i y → takes_of block x y ≡ true
  from_takes i x y is h =
      or_left (list_any (takes_one block x y y) y.args) (behind x y (is_call y.op))
      (from_found (find_any (λ a. is_index (owner block a) i) y.args h))
    where
      from_found : Found (λ a. is_index (owner block a) i) y.args → list_any (takes_one block x y y) y.args ≡ true
      from_found (k, a, at, is_own) =
          any_at (takes_one block x y y) y.args k a at
          (and_from (has_value (item block x) a) (not (names_its_call y y a))
          (owner_has block has i x a is (is_index_some (owner block a) i is_own))
          (not_from_false (names_its_call y y a) (own_name y a)))

  -- an item reads the memory that another one changes
  abbrev pub ReadsBefore : Value → Value → Type 0
  ReadsBefore x y =
      (changes_memory y.op ≡ true) × (reads_memory x.op ≡ true)
      × (same_memory (memory_taken x.op x.args) (memory_taken y.op y.args) ≡ true)

  abbrev reader_test : Value → Value → Bool
  reader_test y r = reads_memory r.op && same_memory (memory_taken r.op r.args) (memory_taken y.op y.args)

  reads_from : (i : ℕ) (x y : Value) → IsLeader block i x
      → (changes_memory y.op && has_value (readers_before block y) x.id) ≡ true → ReadsBefore x y
  reads_from i x y is h =
      let parts : (changes_memory y.op ≡ true) × (has_value (readers_before block y) x.id ≡ true) =
      and_parts (changes_memory y.op) (has_value (readers_before block y) x.id) h in
      from_found parts.0 (find_any (λ r. reader_test y r && same_value r.id x.id) block
      (sym (any_filter (λ r. same_value r.id x.id) (reader_test y) block) ∙ parts.1))
    where
      from_found : changes_memory y.op ≡ true → Found (λ r. reader_test y r && same_value r.id x.id) block
          → ReadsBefore x y
      from_found changes (k, r, at, passes) =
          let parts : (reader_test y r ≡ true) × (same_value r.id x.id ≡ true) =
          and_parts (reader_test y r) (same_value r.id x.id) passes in
          let one : r ≡ x = same_standing block has k i r x at is.at (same_numbers r.id x.id parts.1) in
          let reads : reader_test y x ≡ true = subst (λ v. reader_test y v ≡ true) one parts.0 in
          let both : (reads_memory x.op ≡ true)
          × (same_memory (memory_taken x.op x.args) (memory_taken y.op y.args) ≡ true) =
          and_parts (reads_memory x.op) (same_memory (memory_taken x.op x.args) (memory_taken y.op y.args)) reads in
          (changes, both.0, both.1)

  from_reads : (i : ℕ) (x y : Value) → IsLeader block i x → ReadsBefore x y
      → (changes_memory y.op && has_value (readers_before block y) x.id) ≡ true
  from_reads i x y is (changes, reads, same) =
      and_from (changes_memory y.op) (has_value (readers_before block y) x.id) changes
      (any_filter (λ r. same_value r.id x.id) (reader_test y) block
      ∙ any_at (λ r. reader_test y r && same_value r.id x.id) block i x is.at
      (and_from (reader_test y x) (same_value x.id x.id)
      (and_from (reads_memory x.op) (same_memory (memory_taken x.op x.args) (memory_taken y.op y.args)) reads same)
      (equal_numbers x.id x.id refl)))

  pub stands_from : (i : ℕ) (x y : Value) → IsLeader block i x → stands_before block x y ≡ true
      → Takes block i y ⊎ ReadsBefore x y
  stands_from i x y is h =
      by_place (or_cases (takes_of block x y) (changes_memory y.op && has_value (readers_before block y) x.id) h)
    where
      by_place : (takes_of block x y ≡ true) ⊎ ((changes_memory y.op && has_value (readers_before block y) x.id) ≡ true)
          → Takes block i y ⊎ ReadsBefore x y
      by_place (inl takes) = inl (takes_from i x y is takes)
      by_place (inr reads) = inr (reads_from i x y is reads)

  pub stands_by_taking : (i : ℕ) (x y : Value) → IsLeader block i x → Takes block i y → stands_before block x y ≡ true
  stands_by_taking i x y is takes =
      or_left (takes_of block x y) (changes_memory y.op && has_value (readers_before block y) x.id)
      (from_takes i x y is takes)

  pub stands_by_reading : (i : ℕ) (x y : Value) → IsLeader block i x → ReadsBefore x y → stands_before block x y ≡ true
  stands_by_reading i x y is reads =
      or_right (takes_of block x y) (changes_memory y.op && has_value (readers_before block y) x.id)
      (from_reads i x y is reads)
