-- The tests of values by what is found of their blocks name exactly the values that fail the check of memory.
use Rattle.std.proofs.Common.{◌≡◌, ℕ, zero, suc, ◌<◌, ◌⊎◌, inl, inr, true, false, not, ◌==◌, ◌||◌, List, [], ◌∷◌}
use Rattle.std.proofs.Common.{length, map, get_or, slice_get, slice_index_or, option_map, Option, None, Some}
use Rattle.std.proofs.Common.{MatchOption, Contains, refl, sym, ap, subst, ◌∙◌, arith}
use Rattle.std.specs.List.{All, Any, last_or, list_any}
use Rattle.std.specs.Option.{option_or}
use Rattle.std.proofs.lemmas.Bool.{and_from, and_parts, eq-eqb, not-true, not_from_false, or_cases, or_left, or_right}
use Rattle.std.proofs.lemmas.List.{length-map}
use Rattle.std.proofs.lemmas.List.Folds.{list_any_at}
use Rattle.std.proofs.lemmas.Option.{get_or_from_slice_get, none-some, same_Some, slice_get-get_or, slice_get-map}
use Rattle.std.proofs.lemmas.Option.{slice_get_within}
use Rattle.gossa_base.specs.declared.ids.BlockId.{BlockId}
use Rattle.gossa_base.specs.declared.ids.ValueId.{ValueId}
use Rattle.ssa_ir.specs.declared.func.Block.{Block}
use Rattle.ssa_ir.specs.declared.func.Func.{Func}
use Rattle.ssa_ir.specs.declared.func.SsaUnit.{SsaUnit}
use Rattle.ssa_ir.specs.declared.func.Value.{Value}
use Rattle.ssa_ir.specs.OpKinds.{reads_memory, is_result}
use Rattle.ssa_ir.specs.WellFormed.{BlockIsThere, WellFormedFunc}
use Rattle.ssa_check.specs.declared.memories.Leaves.{Leaves}
use Rattle.ssa_check.specs.declared.memories.Passed.{Passed}
use Rattle.ssa_check.specs.declared.memories.Passed.TheVariants.{NoPath}
use Rattle.ssa_check.specs.declared.memory.BlockMemory.{BlockMemory}
use Rattle.ssa_check.specs.declared.refusal.At.{At}
use Rattle.ssa_check.specs.declared.refusal.Check.TheVariants.{Edges, Memory}
use Rattle.ssa_check.specs.Failing.{LeastPlace, Meets, at_block, at_value}
use Rattle.ssa_tables.specs.Blocks.{index_in, preds_at, preds_of}
use Rattle.ssa_ir.specs.MemoryChains.{is_inner, is_memory_phi, takes, takes_inner}
use Rattle.ssa_ir.specs.MemoryPaths.{Asked, FirstFails, MemoryBlockFails, MemoryPhiFails, MemoryValueFails, ReaderFails}
use Rattle.ssa_ir.specs.MemoryPaths.{ResultFails, TakesOther}
use Rattle.ssa_check.specs.tables.MemoryTables.{AreLeaves, AreMemories, IsMemoryOf, asked_of, block_fails, either_place}
use Rattle.ssa_check.specs.tables.MemoryTables.{ends_otherwise, is_other, memory_in, no_memory, phi_fails, result_fails}
use Rattle.ssa_check.specs.tables.MemoryTables.{some_other, taker_fails, takes_other, value_fails}
use Rattle.ssa_check.specs.tables.PassedMemories.{ArePassedMemories}
use Rattle.ssa_ir.specs.Paths.{IsPath}
use Rattle.ssa_check.specs.tables.Lowest.{lowest_block, lowest_value}
use Rattle.ssa_check.proofs.FirstPlaceLemmas.{then_block, value_first}
use Rattle.ssa_tables.proofs.BlockLemmas.{index_within, name_there, preds_of_block, stands_at}
use Rattle.ssa_check.proofs.MemoryBlockLemmas.{asked_from, asked_to, block_from, block_to, ends_from, ends_to}
use Rattle.ssa_check.proofs.MemoryPathLemmas.{OtherPath, other_said, path_blocks, said_other}

-- ---- some argument of another memory

record OtherAt (passed : List Passed) (preds : List ℕ) (args : List ValueId) : Type 0 where
  pub k : ℕ
  pub pred : ℕ
  pub arg : ValueId
  pub is_pred : slice_get preds k ≡ Some pred
  pub is_arg : slice_get args k ≡ Some arg
  pub other : is_other (slice_index_or passed pred NoPath) arg ≡ true

one_of : {A B C : Type 0} → (A → C) → (B → C) → A ⊎ B → C
one_of left right (inl a) = left a
one_of left right (inr b) = right b

other_later : (passed : List Passed) (p : ℕ) (preds : List ℕ) (a : ValueId) (args : List ValueId)
    → OtherAt passed preds args → OtherAt passed (p ∷ preds) (a ∷ args)
other_later passed p preds a args at =
    record { k = suc at.k; pred = at.pred; arg = at.arg; is_pred = at.is_pred; is_arg = at.is_arg; other = at.other }

other_at : (passed : List Passed) (preds : List ℕ) (args : List ValueId) → some_other passed preds args ≡ true
    → OtherAt passed preds args
other_at passed [] args is = cc
other_at passed (p ∷ preds) [] is = cc
other_at passed (p ∷ preds) (a ∷ args) is =
    one_of {C = OtherAt passed (p ∷ preds) (a ∷ args)}
    (λ here. record { k = zero; pred = p; arg = a; is_pred = refl; is_arg = refl; other = here })
    (λ later. other_later passed p preds a args (other_at passed preds args later))
    (or_cases (is_other (slice_index_or passed p NoPath) a) (some_other passed preds args) is)

other_from : (passed : List Passed) (preds : List ℕ) (args : List ValueId) (k pred : ℕ) (arg : ValueId)
    → slice_get preds k ≡ Some pred → slice_get args k ≡ Some arg
    → is_other (slice_index_or passed pred NoPath) arg ≡ true → some_other passed preds args ≡ true
other_from passed [] args k pred arg is_pred is_arg other = absurd (none-some pred is_pred)
other_from passed (p ∷ preds) [] k pred arg is_pred is_arg other = absurd (none-some arg is_arg)
other_from passed (p ∷ preds) (a ∷ args) zero pred arg is_pred is_arg other =
    or_left (is_other (slice_index_or passed p NoPath) a) (some_other passed preds args)
    ((λ i. is_other (slice_index_or passed (same_Some p pred is_pred i) NoPath) (same_Some a arg is_arg i)) ∙ other)
other_from passed (p ∷ preds) (a ∷ args) (suc k) pred arg is_pred is_arg other =
    or_right (is_other (slice_index_or passed p NoPath) a) (some_other passed preds args)
    (other_from passed preds args k pred arg is_pred is_arg other)

-- ---- predecessors

-- what a look-up through a map gives
record MappedAt {X : Type 0} (g : X → ℕ) (xs : List X) (k n : ℕ) : Type 0 where
  pub item : X
  pub is_item : slice_get xs k ≡ Some item
  pub same : g item ≡ n

mapped_at : {X : Type 0} (g : X → ℕ) (xs : List X) (k n : ℕ) → slice_get (map g xs) k ≡ Some n → MappedAt g xs k n
mapped_at g [] k n is = absurd (none-some n is)
mapped_at g (x ∷ xs) zero n is = record { item = x; is_item = refl; same = same_Some (g x) n is }
mapped_at g (x ∷ xs) (suc k) n is =
    let later = mapped_at g xs k n is in
    record { item = later.item; is_item = later.is_item; same = later.same }

module _ (f : Func) (well : WellFormedFunc f) (b : Block) (of_func : Contains f.blocks b) where
  pred_there : (k : ℕ) (id : BlockId) → slice_get b.preds k ≡ Some id → Any (λ (s : Block). s.id ≡ id) f.blocks
  pred_there k id is =
      let here : All (BlockIsThere f) b.preds =
      subst (λ (x : Block). All (BlockIsThere f) x.preds) of_func.2 (well.preds_there of_func.0 b of_func.1) in
      let there : BlockIsThere f id =
      subst (BlockIsThere f) (get_or_from_slice_get b.preds k id id is)
      (here k id (slice_get_within b.preds k id is)) in
      name_there f id there

  pred_index : (k : ℕ) (id : BlockId) → slice_get b.preds k ≡ Some id
      → slice_get (preds_at (preds_of f) (index_in f.blocks b.id)) k ≡ Some (index_in f.blocks id)
  pred_index k id is =
      ap (λ (l : List ℕ). slice_get l k) (preds_of_block f well b of_func) ∙ slice_get-map (index_in f.blocks) b.preds k
      ∙ ap (option_map (index_in f.blocks)) is

  pred_edge : (k : ℕ) (id : BlockId) → slice_get b.preds k ≡ Some id
      → list_any (λ p. p == index_in f.blocks id) (preds_at (preds_of f) (index_in f.blocks b.id)) ≡ true
  pred_edge k id is =
      let preds : List ℕ = preds_at (preds_of f) (index_in f.blocks b.id) in
      let n : ℕ = index_in f.blocks id in
      let at : slice_get preds k ≡ Some n = pred_index k id is in
      list_any_at (λ p. p == n) preds k 0 (slice_get_within preds k n at)
      (eq-eqb (get_or preds k 0) n (get_or_from_slice_get preds k n 0 at))

index_below : (f : Func) → WellFormedFunc f → (b : Block) → Contains f.blocks b
    → index_in f.blocks b.id < length (preds_of f)
index_below f well b there =
    omega (arith, index_within f well b there, length-map f.blocks (λ (x : Block). map (index_in f.blocks) x.preds))

-- ---- memory phis

module _ (f : Func) (well : WellFormedFunc f) (edges : (u : SsaUnit) → Meets Edges u f) (leaves : List Leaves)
    (are : AreLeaves f leaves) (passed : List Passed) (says : ArePassedMemories (preds_of f) leaves passed) (b : Block)
    (of_func : Contains f.blocks b) (v : Value) where
  phi_to : MemoryPhiFails f b v → phi_fails f passed b v ≡ true
  phi_to fails =
      let source : Block = fails.source in
      let n : ℕ = index_in f.blocks source.id in
      let there : Contains f.blocks source = (path_blocks f (b ∷ source ∷ fails.before) fails.is_path).1.0 in
      let path : IsPath f (source ∷ fails.before) = fails.is_path.2 in
      let other : is_other (slice_index_or passed n NoPath) fails.arg ≡ true =
      other_said f well edges leaves are source there fails.arg (slice_index_or passed n NoPath)
      (says.says n (index_below f well source there)) fails.before path fails.other in
      and_from (is_memory_phi v) (some_other passed (preds_at (preds_of f) (index_in f.blocks b.id)) v.args) fails.phi
      (other_from passed (preds_at (preds_of f) (index_in f.blocks b.id)) v.args fails.k n fails.arg
      (pred_index f well b of_func fails.k source.id fails.is_source) fails.is_arg other)

  phi_from : phi_fails f passed b v ≡ true → MemoryPhiFails f b v
  phi_from is =
      let preds : List ℕ = preds_at (preds_of f) (index_in f.blocks b.id) in
      let parts : (is_memory_phi v ≡ true) × (some_other passed preds v.args ≡ true) =
      and_parts (is_memory_phi v) (some_other passed preds v.args) is in
      let at : OtherAt passed preds v.args = other_at passed preds v.args parts.1 in
      let named : MappedAt (index_in f.blocks) b.preds at.k at.pred =
      mapped_at (index_in f.blocks) b.preds at.k at.pred
      (ap (λ (l : List ℕ). slice_get l at.k) (sym (preds_of_block f well b of_func)) ∙ at.is_pred) in
      let source : Any (λ (x : Block). x.id ≡ named.item) f.blocks =
      pred_there f well b of_func at.k named.item named.is_item in
      let s : Block = source.1 in
      let there : Contains f.blocks s = (source.0, source.2, source.3) in
      let is_source : slice_get b.preds at.k ≡ Some s.id = named.is_item ∙ ap Some (sym source.4) in
      let n : index_in f.blocks s.id ≡ at.pred = ap (index_in f.blocks) source.4 ∙ named.same in
      let other : is_other (slice_index_or passed (index_in f.blocks s.id) NoPath) at.arg ≡ true =
      ap (λ (k : ℕ). is_other (slice_index_or passed k NoPath) at.arg) n ∙ at.other in
      let path : OtherPath f b s at.arg =
      said_other f well edges leaves are s there at.arg b of_func
      (pred_edge f well b of_func at.k s.id is_source)
      (slice_index_or passed (index_in f.blocks s.id) NoPath)
      (says.says (index_in f.blocks s.id) (index_below f well s there)) other in
      record {
        phi = parts.0;
        k = at.k;
        arg = at.arg;
        is_arg = at.is_arg;
        source = s;
        is_source = is_source;
        before = path.before;
        is_path = path.is_path;
        other = path.other;
      }

  -- ---- the test of a value

  module _ (m : BlockMemory) (h : IsMemoryOf f b m) where
    taker_from : taker_fails f b v m ≡ true → FirstFails f b v ⊎ ReaderFails f b v
    taker_from is =
        by_asked (asked_of m) refl (and_parts (is_inner v || reads_memory v.op) (takes_other f b v (asked_of m)) is).1
        (or_cases (is_inner v) (reads_memory v.op)
        (and_parts (is_inner v || reads_memory v.op) (takes_other f b v (asked_of m)) is).0)
      where
        by_asked : (o : Option ValueId) → asked_of m ≡ o → takes_other f b v o ≡ true
            → (is_inner v ≡ true) ⊎ (reads_memory v.op ≡ true) → FirstFails f b v ⊎ ReaderFails f b v
        by_asked None asked other kind = cc
        by_asked (Some incoming) asked other (inl inner) =
            let parts : (not (takes_inner f b v) ≡ true) × (not (takes f v incoming) ≡ true) =
            and_parts (not (takes_inner f b v)) (not (takes f v incoming)) other in
            inl (record {
              incoming = incoming;
              asked = asked_from f well b of_func m h incoming asked;
              inner = inner;
              first = not-true (takes_inner f b v) parts.0;
              other = not-true (takes f v incoming) parts.1;
            })
        by_asked (Some incoming) asked other (inr reads) =
            let parts : (not (takes_inner f b v) ≡ true) × (not (takes f v incoming) ≡ true) =
            and_parts (not (takes_inner f b v)) (not (takes f v incoming)) other in
            inr (record {
              incoming = incoming;
              asked = asked_from f well b of_func m h incoming asked;
              reads = reads;
              not_inner = not-true (takes_inner f b v) parts.0;
              other = not-true (takes f v incoming) parts.1;
            })

    taker_to : (is_inner v || reads_memory v.op) ≡ true → (incoming : ValueId) → Asked f b incoming
        → takes_inner f b v ≡ false → takes f v incoming ≡ false → taker_fails f b v m ≡ true
    taker_to kind incoming asked not_inner other =
        and_from (is_inner v || reads_memory v.op) (takes_other f b v (asked_of m)) kind
        (ap (takes_other f b v) (asked_to f well b of_func m h incoming asked)
        ∙ and_from (not (takes_inner f b v)) (not (takes f v incoming)) (not_from_false (takes_inner f b v) not_inner)
        (not_from_false (takes f v incoming) other))

    result_from : result_fails v m ≡ true → ResultFails f b v
    result_from is =
        let parts : (is_result v.op ≡ true) × (ends_otherwise (last_or None v.args) m ≡ true) =
        and_parts (is_result v.op) (ends_otherwise (last_or None v.args) m) is in
        let found : (incoming : ValueId) × Asked f b incoming × TakesOther f b (last_or None v.args) =
        ends_from f well b of_func m h (last_or None v.args) parts.1 in
        record { incoming = found.0; asked = found.1; result = parts.0; other = found.2 }

    result_to : ResultFails f b v → result_fails v m ≡ true
    result_to fails =
        and_from (is_result v.op) (ends_otherwise (last_or None v.args) m) fails.result
        (ends_to f well b of_func m h (last_or None v.args) fails.incoming fails.asked fails.other)

    pub value_from : value_fails f passed m b v ≡ true → MemoryValueFails f b v
    value_from is =
        by_first (or_cases (taker_fails f b v m) (result_fails v m || phi_fails f passed b v) is)
      where
        by_taker : FirstFails f b v ⊎ ReaderFails f b v → MemoryValueFails f b v
        by_taker (inl first) = inl first
        by_taker (inr reader) = inr (inl reader)

        by_second : (result_fails v m ≡ true) ⊎ (phi_fails f passed b v ≡ true) → MemoryValueFails f b v
        by_second (inl result) = inr (inr (inl (result_from result)))
        by_second (inr phi) = inr (inr (inr (phi_from phi)))

        by_first : (taker_fails f b v m ≡ true) ⊎ ((result_fails v m || phi_fails f passed b v) ≡ true)
            → MemoryValueFails f b v
        by_first (inl taker) = by_taker (taker_from taker)
        by_first (inr later) = by_second (or_cases (result_fails v m) (phi_fails f passed b v) later)

    pub value_to : MemoryValueFails f b v → value_fails f passed m b v ≡ true
    value_to (inl p) =
        or_left (taker_fails f b v m) (result_fails v m || phi_fails f passed b v)
        (taker_to (or_left (is_inner v) (reads_memory v.op) p.inner) p.incoming p.asked p.first p.other)
    value_to (inr (inl p)) =
        or_left (taker_fails f b v m) (result_fails v m || phi_fails f passed b v)
        (taker_to (or_right (is_inner v) (reads_memory v.op) p.reads) p.incoming p.asked p.not_inner p.other)
    value_to (inr (inr (inl p))) =
        or_right (taker_fails f b v m) (result_fails v m || phi_fails f passed b v)
        (or_left (result_fails v m) (phi_fails f passed b v) (result_to p))
    value_to (inr (inr (inr p))) =
        or_right (taker_fails f b v m) (result_fails v m || phi_fails f passed b v)
        (or_right (result_fails v m) (phi_fails f passed b v) (phi_to p))

-- ---- the least place

pub memory_of : (f : Func) → WellFormedFunc f → (memories : List BlockMemory) → AreMemories f memories → (b : Block)
    → Contains f.blocks b → IsMemoryOf f b (memory_in f memories b)
memory_of f well memories are b there =
    let i : ℕ = index_in f.blocks b.id in
    let at : slice_get f.blocks i ≡ Some b = stands_at f well b there in
    let within : i < length memories = omega (arith, slice_get_within f.blocks i b at, are.0) in
    are.1 i b (get_or memories i no_memory) at (slice_get-get_or memories i no_memory within)

module _ (u : SsaUnit) (f : Func) (well : WellFormedFunc f) (edges : (w : SsaUnit) → Meets Edges w f)
    (leaves : List Leaves) (are : AreLeaves f leaves) (passed : List Passed)
    (says : ArePassedMemories (preds_of f) leaves passed) (memories : List BlockMemory) (each : AreMemories f memories)
  where
    found_value : (b : Block) → Contains f.blocks b → (v : Value) → Contains b.values v
        → value_fails f passed (memory_in f memories b) b v ≡ true → MemoryValueFails f b v
    found_value b of_func v of_block =
        value_from f well edges leaves are passed says b of_func v (memory_in f memories b)
        (memory_of f well memories each b of_func)

    named_value : (b : Block) → Contains f.blocks b → (v : Value) → Contains b.values v → MemoryValueFails f b v
        → value_fails f passed (memory_in f memories b) b v ≡ true
    named_value b of_func v of_block =
        value_to f well edges leaves are passed says b of_func v (memory_in f memories b)
        (memory_of f well memories each b of_func)

    found_block : (b : Block) → Contains f.blocks b → block_fails b (memory_in f memories b) ≡ true
        → MemoryBlockFails f b
    found_block b of_func =
        block_from f well b of_func (memory_in f memories b) (memory_of f well memories each b of_func)

    named_block : (b : Block) → Contains f.blocks b → MemoryBlockFails f b
        → block_fails b (memory_in f memories b) ≡ true
    named_block b of_func =
        block_to f well b of_func (memory_in f memories b) (memory_of f well memories each b of_func)

    module _ (value block : Option ℕ)
        (values_are : value ≡ lowest_value (λ b v. value_fails f passed (memory_in f memories b) b v) f)
        (blocks_are : block ≡ lowest_block (λ b. block_fails b (memory_in f memories b)) f) where
      by_value : (o : Option At) → at_value value ≡ o
          → MatchOption (option_or o (at_block block)) (Meets Memory u f) (LeastPlace Memory u f)
      by_value (Some at) is =
          value_first Memory u f well (λ b v. value_fails f passed (memory_in f memories b) b v)
          (λ b. block_fails b (memory_in f memories b)) (λ none. none) found_value named_value found_block named_block
          value values_are at is
      by_value None is =
          then_block Memory u f well (λ b v. value_fails f passed (memory_in f memories b) b v)
          (λ b. block_fails b (memory_in f memories b)) (λ none. none) found_value named_value found_block named_block
          value values_are is block blocks_are

      pub memory_place : MatchOption (either_place value block) (Meets Memory u f) (LeastPlace Memory u f)
      memory_place = by_value (at_value value) refl
