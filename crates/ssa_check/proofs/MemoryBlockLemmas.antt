-- What is found of a block decides what comes to it, what it leaves, and whether its values and its control are asked.
use Rattle.std.proofs.Common.{◌≡◌, ◌⊎◌, inl, inr, Bool, true, false, cond, not, ◌&&◌, ◌||◌, if◌then◌else◌, List, []}
use Rattle.std.proofs.Common.{◌∷◌, length, filter, find, is_none, is_some, option_map, Option, None, Some, All}
use Rattle.std.proofs.Common.{Contains, refl, sym, ap, subst, ◌∙◌, arith}
use Rattle.std.specs.List.{list_any}
use Rattle.std.specs.Option.{option_or}
use Rattle.std.proofs.lemmas.Bool.{and_from, and_parts, both_ways, cases_Bool, not-true, not_from_false, or_cases}
use Rattle.std.proofs.lemmas.Bool.{or_left, or_parts, or_right}
use Rattle.std.proofs.lemmas.Option.{none-some, same_Some}
use Rattle.gossa_base.specs.declared.ids.ValueId.{ValueId}
use Rattle.ssa_ir.specs.declared.func.Block.{Block}
use Rattle.ssa_ir.specs.declared.func.Func.{Func}
use Rattle.ssa_ir.specs.declared.func.Value.{Value}
use Rattle.ssa_ir.specs.FirstOrder.{same_memory}
use Rattle.ssa_ir.specs.WellFormed.{WellFormedFunc}
use Rattle.ssa_check.specs.declared.memories.Leaves.{Leaves}
use Rattle.ssa_check.specs.declared.memories.Leaves.TheVariants.{Through, Known, Unknown}
use Rattle.ssa_check.specs.declared.memories.Passed.{Passed}
use Rattle.ssa_check.specs.declared.memories.Passed.TheVariants.{NoPath, Always, Varies}
use Rattle.ssa_check.specs.declared.memory.BlockMemory.{BlockMemory}
use Rattle.ssa_check.specs.tables.ChainTables.{LeavesOf}
use Rattle.ssa_ir.specs.MemoryChains.{Chained, begins_memory, has_definer, is_definer, is_inner, is_memory_phi}
use Rattle.ssa_ir.specs.MemoryPaths.{AllPass, Asked, ComesIn, ExitFails, IsIncoming, IsIncomingBy, IsInit, IsOutgoing}
use Rattle.ssa_ir.specs.MemoryPaths.{MemoryBlockFails, TakesOther, is_exit, uses_memory}
use Rattle.ssa_check.specs.tables.MemoryTables.{IsMemoryOf, SaysPaths, asked_of, block_fails, comes_by, ends_otherwise}
use Rattle.ssa_check.specs.tables.MemoryTables.{incoming_of, is_chained, is_loose, is_reached, is_start, lacks_memory}
use Rattle.ssa_check.specs.tables.MemoryTables.{outgoing_of}
use Rattle.ssa_ir.specs.Paths.{Reached}
use Rattle.ssa_ir.specs.Edges.{is_entry}
use Rattle.ssa_ir.specs.OpKinds.{is_init}
use Rattle.ssa_check.proofs.MemoryPathLemmas.{left_from, left_on, one_passed, path_blocks}

-- ---- a block without definer is chained

-- where none passes a wider test, none is kept by a narrower one
none_kept : {X : Type 0} (narrow wide : X → Bool) → ((x : X) → narrow x ≡ true → wide x ≡ true) → (xs : List X)
    → list_any wide xs ≡ false → filter narrow xs ≡ []
none_kept narrow wide widens [] none = refl
none_kept {X} narrow wide widens (x ∷ xs) none =
    go (narrow x) refl (none_kept narrow wide widens xs (or_parts (wide x) (list_any wide xs) none).1)
  where
    go : (t : Bool) → narrow x ≡ t → filter narrow xs ≡ [] → cond t (x ∷ filter narrow xs) (filter narrow xs) ≡ []
    go true is rest = absurd (both_ways (wide x) (or_parts (wide x) (list_any wide xs) none).0 (widens x is))
    go false is rest = rest

phi_is_definer : (i p n : Bool) → p ≡ true → ((i || p) || n) ≡ true
phi_is_definer true p n is = refl
phi_is_definer false true n is = refl
phi_is_definer false false n is = cc

inner_is_definer : (b n : Bool) → n ≡ true → (b || n) ≡ true
inner_is_definer true n is = refl
inner_is_definer false n is = is

chained_without : (f : Func) (b : Block) → has_definer b ≡ false → Chained f b
chained_without f b none =
    let no_phi : filter is_memory_phi b.values ≡ [] =
    none_kept is_memory_phi is_definer
    (λ v. phi_is_definer (is_init v.op) (is_memory_phi v) (is_inner v)) b.values none in
    let no_inner : filter is_inner b.values ≡ [] =
    none_kept is_inner is_definer (λ v. inner_is_definer (begins_memory v) (is_inner v)) b.values none in
    record {
      one_phi = omega (arith, ap length no_phi);
      chain = [];
      within = λ k d lt. absurd (omega (arith, lt));
      whole = subst (All (Contains [])) (sym no_inner) (λ k d lt. absurd (omega (arith, lt)));
      in_order = tt;
    }

-- ---- by what is found

pub reached_from : (f : Func) (b : Block) (before : Passed) → SaysPaths f b before → is_reached before ≡ true
    → Reached f b
reached_from f b NoPath says is = cc
reached_from f b (Always memory) says is = says.0
reached_from f b Varies says is = says.0

pub reached_to : (f : Func) (b : Block) (before : Passed) → SaysPaths f b before → Reached f b
    → is_reached before ≡ true
reached_to f b NoPath says way = absurd (says way)
reached_to f b (Always memory) says way = refl
reached_to f b Varies says way = refl

chained_from : (f : Func) (b : Block) (leaves : Leaves) → LeavesOf f b leaves → is_chained leaves ≡ true → Chained f b
chained_from f b Through h is = chained_without f b h
chained_from f b (Known id) h is = h.1.chained
chained_from f b Unknown h is = cc

chained_to : (f : Func) (b : Block) (leaves : Leaves) → LeavesOf f b leaves → Chained f b → is_chained leaves ≡ true
chained_to f b Through h chained = refl
chained_to f b (Known id) h chained = refl
chained_to f b Unknown h chained = absurd (h.1 chained)

-- ---- the memory that comes

module _ (f : Func) (b : Block) (before : Passed) (says : SaysPaths f b before) (memory : ValueId) where
  by_start_from : (start : Option Value) → option_map (λ (v : Value). v.id) start ≡ Some memory → IsInit start memory
  by_start_from None is = none-some memory is
  by_start_from (Some v) is = same_Some v.id memory is

  by_passed_from : (p : Passed) → SaysPaths f b p → comes_by false b.values p ≡ Some memory → AllPass f b memory
  by_passed_from NoPath h is = absurd (none-some memory is)
  by_passed_from (Always m) h is = subst (AllPass f b) (same_Some m memory is) h.1
  by_passed_from Varies h is = absurd (none-some memory is)

  by_entry_from : (entry : Bool) → comes_by entry b.values before ≡ Some memory → ComesIn entry f b memory
  by_entry_from true is = by_start_from (find is_start b.values) is
  by_entry_from false is = by_passed_from before says is

  by_phi_from : (phi : Option Value)
      → option_or (option_map (λ (v : Value). v.id) phi) (comes_by (is_entry f b) b.values before) ≡ Some memory
      → IsIncomingBy phi f b memory
  by_phi_from (Some phi) is = same_Some phi.id memory is
  by_phi_from None is = by_entry_from (is_entry f b) is

  pub incoming_from : incoming_of f b before ≡ Some memory → IsIncoming f b memory
  incoming_from is = by_phi_from (find is_memory_phi b.values) is

  module _ (well : WellFormedFunc f) (way : Reached f b) where
    by_start_to : (start : Option Value) → IsInit start memory → option_map (λ (v : Value). v.id) start ≡ Some memory
    by_start_to None is = absurd is
    by_start_to (Some v) is = ap Some is

    by_passed_to : (p : Passed) → SaysPaths f b p → AllPass f b memory → comes_by false b.values p ≡ Some memory
    by_passed_to NoPath h all = absurd (h way)
    by_passed_to (Always m) h all =
        ap Some (one_passed f well way.before (path_blocks f (b ∷ way.before) way.is_path).1 m memory
        (h.1 way.before way.is_path) (all way.before way.is_path))
    by_passed_to Varies h all = absurd (h.1 memory all)

    by_entry_to : (entry : Bool) → ComesIn entry f b memory → comes_by entry b.values before ≡ Some memory
    by_entry_to true is = by_start_to (find is_start b.values) is
    by_entry_to false is = by_passed_to before says is

    by_phi_to : (phi : Option Value) → IsIncomingBy phi f b memory
        → option_or (option_map (λ (v : Value). v.id) phi) (comes_by (is_entry f b) b.values before) ≡ Some memory
    by_phi_to (Some phi) is = ap Some is
    by_phi_to None is = by_entry_to (is_entry f b) is

    pub incoming_to : IsIncoming f b memory → incoming_of f b before ≡ Some memory
    incoming_to is = by_phi_to (find is_memory_phi b.values) is

-- ---- what is asked

if_some : {X : Type 0} (t : Bool) (o : Option X) (x : X) → (if t then o else None) ≡ Some x → (t ≡ true) × (o ≡ Some x)
if_some true o x is = (refl, is)
if_some false o x is = absurd (none-some x is)

some_is : {X : Type 0} (o : Option X) → is_some o ≡ true → (x : X) × (o ≡ Some x)
some_is None is = cc
some_is (Some x) is = (x, refl)

is_some_from : {X : Type 0} (o : Option X) (x : X) → o ≡ Some x → is_some o ≡ true
is_some_from o x is = ap is_some is

module _ (f : Func) (well : WellFormedFunc f) (b : Block) (there : Contains f.blocks b) (m : BlockMemory)
    (h : IsMemoryOf f b m) where
  pub asked_from : (incoming : ValueId) → asked_of m ≡ Some incoming → Asked f b incoming
  asked_from incoming is =
      let test : Bool = is_reached m.before && (m.uses && is_chained m.leaves) in
      let parts : (test ≡ true) × (m.incoming ≡ Some incoming) = if_some test m.incoming incoming is in
      let first : (is_reached m.before ≡ true) × ((m.uses && is_chained m.leaves) ≡ true) =
      and_parts (is_reached m.before) (m.uses && is_chained m.leaves) parts.0 in
      let later : (m.uses ≡ true) × (is_chained m.leaves ≡ true) = and_parts m.uses (is_chained m.leaves) first.1 in
      record {
        reached = reached_from f b m.before h.says first.0;
        uses = sym h.uses ∙ later.0;
        chained = chained_from f b m.leaves h.leaves later.1;
        comes = incoming_from f b m.before h.says incoming (sym h.incoming ∙ parts.1);
      }

  comes_to : Reached f b → (incoming : ValueId) → IsIncoming f b incoming → m.incoming ≡ Some incoming
  comes_to way incoming comes = h.incoming ∙ incoming_to f b m.before h.says incoming well way comes

  pub asked_to : (incoming : ValueId) → Asked f b incoming → asked_of m ≡ Some incoming
  asked_to incoming a =
      let test : (is_reached m.before && (m.uses && is_chained m.leaves)) ≡ true =
      and_from (is_reached m.before) (m.uses && is_chained m.leaves) (reached_to f b m.before h.says a.reached)
      (and_from m.uses (is_chained m.leaves) (h.uses ∙ a.uses) (chained_to f b m.leaves h.leaves a.chained)) in
      ap (λ (t : Bool). if t then m.incoming else None) test ∙ comes_to a.reached incoming a.comes

  outgoing_from : (memory : ValueId) → outgoing_of m ≡ Some memory → IsOutgoing f b memory
  outgoing_from memory is =
      left_from f well b there m.leaves h.leaves m.incoming memory (IsIncoming f b memory)
      (λ comes. incoming_from f b m.before h.says memory (sym h.incoming ∙ comes)) is

  outgoing_to : Reached f b → (memory : ValueId) → IsOutgoing f b memory → outgoing_of m ≡ Some memory
  outgoing_to way memory out =
      left_on f well b there m.leaves h.leaves m.incoming memory (IsIncoming f b memory) (comes_to way memory) out

  -- ---- what ends a block takes

  pub ends_from : (taken : Option ValueId) → ends_otherwise taken m ≡ true
      → (incoming : ValueId) × Asked f b incoming × TakesOther f b taken
  ends_from taken is =
      let parts : (is_some (asked_of m) ≡ true) × (not (same_memory taken (outgoing_of m)) ≡ true) =
      and_parts (is_some (asked_of m)) (not (same_memory taken (outgoing_of m))) is in
      let some : (x : ValueId) × (asked_of m ≡ Some x) = some_is (asked_of m) parts.0 in
      let a : Asked f b some.0 = asked_from some.0 some.1 in (
        some.0,
        a,
        λ memory out.
            ap (same_memory taken) (sym (outgoing_to a.reached memory out))
            ∙ not-true (same_memory taken (outgoing_of m)) parts.1,
      )

  differs : (taken : Option ValueId) → TakesOther f b taken → (o : Option ValueId) → outgoing_of m ≡ o
      → same_memory taken o ≡ false
  differs None other o is = refl
  differs (Some a) other None is = refl
  differs (Some a) other (Some memory) is = other memory (outgoing_from memory is)

  pub ends_to : (taken : Option ValueId) (incoming : ValueId) → Asked f b incoming → TakesOther f b taken
      → ends_otherwise taken m ≡ true
  ends_to taken incoming a other =
      and_from (is_some (asked_of m)) (not (same_memory taken (outgoing_of m)))
      (is_some_from (asked_of m) incoming (asked_to incoming a))
      (not_from_false (same_memory taken (outgoing_of m)) (differs taken other (outgoing_of m) refl))

  -- ---- the test of a block

  loose_from : is_loose m ≡ true → Reached f b × (Chained f b → ⊥)
  loose_from is =
      let parts : (is_reached m.before ≡ true) × (not (is_chained m.leaves) ≡ true) =
      and_parts (is_reached m.before) (not (is_chained m.leaves)) is in (
        reached_from f b m.before h.says parts.0,
        λ chained.
            both_ways (is_chained m.leaves) (not-true (is_chained m.leaves) parts.1)
            (chained_to f b m.leaves h.leaves chained),
      )

  loose_to : Reached f b → (Chained f b → ⊥) → is_loose m ≡ true
  loose_to way loose =
      and_from (is_reached m.before) (not (is_chained m.leaves)) (reached_to f b m.before h.says way)
      (not_from_false (is_chained m.leaves) (by_cases (cases_Bool (is_chained m.leaves))))
    where
      by_cases : (is_chained m.leaves ≡ true) ⊎ (is_chained m.leaves ≡ false) → is_chained m.leaves ≡ false
      by_cases (inl is) = absurd (loose (chained_from f b m.leaves h.leaves is))
      by_cases (inr is) = is

  lacks_from : lacks_memory m ≡ true
      → Reached f b × (uses_memory b ≡ true) × ((memory : ValueId) → IsIncoming f b memory → ⊥)
  lacks_from is =
      let parts : (is_reached m.before ≡ true) × ((m.uses && is_none m.incoming) ≡ true) =
      and_parts (is_reached m.before) (m.uses && is_none m.incoming) is in
      let later : (m.uses ≡ true) × (is_none m.incoming ≡ true) = and_parts m.uses (is_none m.incoming) parts.1 in
      let way : Reached f b = reached_from f b m.before h.says parts.0 in (
        way,
        sym h.uses ∙ later.0,
        λ memory comes.
            both_ways (is_some m.incoming) (not-true (is_some m.incoming) later.1)
            (is_some_from m.incoming memory (comes_to way memory comes)),
      )

  none_comes : ((memory : ValueId) → IsIncoming f b memory → ⊥) → (o : Option ValueId) → m.incoming ≡ o
      → is_none o ≡ true
  none_comes lacks None is = refl
  none_comes lacks (Some memory) is =
      absurd (lacks memory (incoming_from f b m.before h.says memory (sym h.incoming ∙ is)))

  lacks_to : Reached f b → uses_memory b ≡ true → ((memory : ValueId) → IsIncoming f b memory → ⊥)
      → lacks_memory m ≡ true
  lacks_to way uses lacks =
      and_from (is_reached m.before) (m.uses && is_none m.incoming) (reached_to f b m.before h.says way)
      (and_from m.uses (is_none m.incoming) (h.uses ∙ uses) (none_comes lacks m.incoming refl))

  exit_from : (is_exit b.kind && ends_otherwise b.control m) ≡ true → ExitFails f b
  exit_from is =
      let parts : (is_exit b.kind ≡ true) × (ends_otherwise b.control m ≡ true) =
      and_parts (is_exit b.kind) (ends_otherwise b.control m) is in
      let found : (incoming : ValueId) × Asked f b incoming × TakesOther f b b.control = ends_from b.control parts.1 in
      record { incoming = found.0; asked = found.1; exits = parts.0; other = found.2 }

  pub block_from : block_fails b m ≡ true → MemoryBlockFails f b
  block_from is =
      by_first (or_cases (is_loose m) (lacks_memory m || (is_exit b.kind && ends_otherwise b.control m)) is)
    where
      by_second : (lacks_memory m ≡ true) ⊎ ((is_exit b.kind && ends_otherwise b.control m) ≡ true)
          → MemoryBlockFails f b
      by_second (inl lacks) = inr (inl (lacks_from lacks))
      by_second (inr other) = inr (inr (exit_from other))

      by_first : (is_loose m ≡ true) ⊎ ((lacks_memory m || (is_exit b.kind && ends_otherwise b.control m)) ≡ true)
          → MemoryBlockFails f b
      by_first (inl loose) = inl (loose_from loose)
      by_first (inr later) = by_second (or_cases (lacks_memory m) (is_exit b.kind && ends_otherwise b.control m) later)

  pub block_to : MemoryBlockFails f b → block_fails b m ≡ true
  block_to (inl p) = or_left (is_loose m) _ (loose_to p.0 p.1)
  block_to (inr (inl p)) =
      or_right (is_loose m) _ (or_left (lacks_memory m) _ (lacks_to p.0 p.1 p.2))
  block_to (inr (inr p)) =
      or_right (is_loose m) _ (or_right (lacks_memory m) _
      (and_from (is_exit b.kind) (ends_otherwise b.control m) p.exits (ends_to b.control p.incoming p.asked p.other)))
