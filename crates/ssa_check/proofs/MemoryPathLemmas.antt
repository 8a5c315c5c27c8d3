-- The memory that a path of blocks passes is the one on the path of their indexes.
use Rattle.std.proofs.Common.{◌≡◌, ◌≢◌, ℕ, ◌<◌, ◌⊎◌, inl, inr, true, false, ◌==◌, List, [], ◌∷◌, length, get_or, drop}
use Rattle.std.proofs.Common.{slice_get, slice_index_or, Option, Some, refl, sym, ap, subst, ◌∙◌, arith}
use Rattle.std.specs.List.{Contains, list_any}
use Rattle.std.proofs.lemmas.Bool.{both_ways, eqb-true, eq-eqb, false_from_ne_true, not-true, not_from_false}
use Rattle.std.proofs.lemmas.Option.{none-some, same_Some, slice_get_within, slice_get-get_or}
use Rattle.gossa_base.specs.declared.ids.ValueId.{ValueId}
use Rattle.ssa_ir.specs.declared.func.Block.{Block}
use Rattle.ssa_ir.specs.declared.func.Func.{Func}
use Rattle.ssa_ir.specs.declared.func.SsaUnit.{SsaUnit}
use Rattle.ssa_ir.specs.FirstOrder.{same_value}
use Rattle.ssa_ir.specs.WellFormed.{WellFormedFunc}
use Rattle.ssa_check.specs.declared.memories.Leaves.{Leaves}
use Rattle.ssa_check.specs.declared.memories.Leaves.TheVariants.{Through, Known, Unknown}
use Rattle.ssa_check.specs.declared.memories.Passed.{Passed}
use Rattle.ssa_check.specs.declared.memories.Passed.TheVariants.{NoPath, Always, Varies}
use Rattle.ssa_check.specs.declared.refusal.Check.TheVariants.{Edges}
use Rattle.ssa_check.specs.tables.ChainTables.{LeavesOf}
use Rattle.ssa_check.specs.Failing.{Meets}
use Rattle.ssa_tables.specs.Blocks.{IsIndexPath, index_in, preds_at, preds_of}
use Rattle.ssa_ir.specs.MemoryChains.{IsLast, has_definer}
use Rattle.ssa_ir.specs.MemoryPaths.{Passes}
use Rattle.ssa_check.specs.tables.MemoryTables.{AreLeaves, SaysPaths, is_other}
use Rattle.ssa_check.specs.tables.PassedMemories.{CameOther, IsReached, PassesOther, SaysBefore, SaysOf, left_by}
use Rattle.ssa_check.specs.tables.PassedMemories.{memory_on}
use Rattle.ssa_ir.specs.Paths.{IsPath, Reached}
use Rattle.ssa_check.proofs.ChainLemmas.{one_last}
use Rattle.ssa_check.proofs.FlowPaths.{block_path, index_path, indexes}
use Rattle.ssa_tables.proofs.BlockLemmas.{same_index, stands_at}

-- ---- numbers of memories

pub same_id : (a b : ValueId) → same_value a b ≡ true → a ≡ b
same_id a b same = λ i. record { 0 = eqb-true a.0 b.0 same i }

pub id_same : (a b : ValueId) → a ≡ b → same_value a b ≡ true
id_same a b is = eq-eqb a.0 b.0 (ap (λ (x : ValueId). x.0) is)

-- ---- the blocks of a path

abbrev pub InBlocks : Func → List Block → Type 0
InBlocks f [] = Unit {0}
InBlocks f (b ∷ path) = Contains f.blocks b × InBlocks f path

pub path_blocks : (f : Func) (path : List Block) → IsPath f path → InBlocks f path
path_blocks f [] is = absurd is
path_blocks f (b ∷ []) is = (is.0, tt)
path_blocks f (b ∷ a ∷ before) is = (is.0, path_blocks f (a ∷ before) is.2)

-- ---- what a block leaves of the memory that comes

-- its last definer, or what comes where it has no definer
abbrev pub LeavesBy : Func → Block → (Comes : Type 0) → ValueId → Type 0
LeavesBy f b Comes memory = ((has_definer b ≡ true) × IsLast f b memory) ⊎ ((has_definer b ≡ false) × Comes)

module _ (f : Func) (well : WellFormedFunc f) (b : Block) (there : Contains f.blocks b) where
  pub left_on : (leaves : Leaves) → LeavesOf f b leaves → (came : Option ValueId) (memory : ValueId) (Comes : Type 0)
      → (Comes → came ≡ Some memory) → LeavesBy f b Comes memory → left_by leaves came ≡ Some memory
  left_on Through h came memory Comes to (inl p) = absurd (both_ways (has_definer b) h p.0)
  left_on Through h came memory Comes to (inr p) = to p.1
  left_on (Known id) h came memory Comes to (inl p) = ap Some (one_last f well b there id memory h.1 p.1)
  left_on (Known id) h came memory Comes to (inr p) = absurd (both_ways (has_definer b) p.0 h.0)
  left_on Unknown h came memory Comes to (inl p) = absurd (h.1 p.1.chained)
  left_on Unknown h came memory Comes to (inr p) = absurd (both_ways (has_definer b) p.0 h.0)

  pub left_from : (leaves : Leaves) → LeavesOf f b leaves → (came : Option ValueId) (memory : ValueId) (Comes : Type 0)
      → (came ≡ Some memory → Comes) → left_by leaves came ≡ Some memory → LeavesBy f b Comes memory
  left_from Through h came memory Comes from is = inr (h, from is)
  left_from (Known id) h came memory Comes from is = inl (h.0, subst (IsLast f b) (same_Some id memory is) h.1)
  left_from Unknown h came memory Comes from is = absurd (none-some memory is)

-- a path passes one memory
pub one_passed : (f : Func) → WellFormedFunc f → (path : List Block) → InBlocks f path → (x y : ValueId)
    → Passes f path x → Passes f path y → x ≡ y
one_passed f well [] there x y p q = absurd p
one_passed f well (b ∷ before) there x y (inl p) (inl q) = one_last f well b there.0 x y p.1 q.1
one_passed f well (b ∷ before) there x y (inl p) (inr q) = absurd (both_ways (has_definer b) q.0 p.0)
one_passed f well (b ∷ before) there x y (inr p) (inl q) = absurd (both_ways (has_definer b) p.0 q.0)
one_passed f well (b ∷ before) there x y (inr p) (inr q) = one_passed f well before there.1 x y p.1 q.1

-- ---- the memory of a path

module _ (f : Func) (well : WellFormedFunc f) (leaves : List Leaves) (are : AreLeaves f leaves) where
  leaves_at : (b : Block) → Contains f.blocks b
      → LeavesOf f b (slice_index_or leaves (index_in f.blocks b.id) Unknown)
  leaves_at b there =
      let i : ℕ = index_in f.blocks b.id in
      let at : slice_get f.blocks i ≡ Some b = stands_at f well b there in
      let within : i < length leaves = omega (arith, slice_get_within f.blocks i b at, are.0) in
      are.1 i b (get_or leaves i Unknown) at (slice_get-get_or leaves i Unknown within)

  pub passes_on : (path : List Block) → InBlocks f path → (memory : ValueId) → Passes f path memory
      → memory_on leaves (indexes f path) ≡ Some memory
  passes_on [] there memory passes = absurd passes
  passes_on (b ∷ before) there memory passes =
      left_on f well b there.0 (slice_index_or leaves (index_in f.blocks b.id) Unknown) (leaves_at b there.0)
      (memory_on leaves (indexes f before)) memory (Passes f before memory) (passes_on before there.1 memory) passes

  pub passes_from : (path : List Block) → InBlocks f path → (memory : ValueId)
      → memory_on leaves (indexes f path) ≡ Some memory → Passes f path memory
  passes_from [] there memory is = absurd (none-some memory is)
  passes_from (b ∷ before) there memory is =
      left_from f well b there.0 (slice_index_or leaves (index_in f.blocks b.id) Unknown) (leaves_at b there.0)
      (memory_on leaves (indexes f before)) memory (Passes f before memory) (passes_from before there.1 memory) is

-- ---- from paths of indexes to paths of blocks

pub record PathTo (f : Func) (b : Block) (before : List ℕ) : Type 0 where
  pub blocks : List Block
  pub is_path : IsPath f (b ∷ blocks)
  pub same : indexes f blocks ≡ before

module _ (f : Func) (well : WellFormedFunc f) where
  -- the first block of a path by its index
  begins : (b : Block) → Contains f.blocks b → (before : List ℕ) (path : List Block) → IsPath f path
      → indexes f path ≡ index_in f.blocks b.id ∷ before → PathTo f b before
  begins b there before [] is same = absurd is
  begins b there before (c ∷ blocks) is same =
      let head : c ≡ b =
      same_index f well c b (path_blocks f (c ∷ blocks) is).0 there (ap (λ (l : List ℕ). get_or l 0 0) same) in
      record {
        blocks = blocks;
        is_path = subst (λ (x : Block). IsPath f (x ∷ blocks)) head is;
        same = ap (λ (l : List ℕ). drop 1 l) same;
      }

  module _ (edges : (u : SsaUnit) → Meets Edges u f) where
    pub path_to : (b : Block) → Contains f.blocks b → (before : List ℕ)
        → IsIndexPath (preds_of f) (index_in f.blocks b.id ∷ before) → PathTo f b before
    path_to b there before is =
        let path = block_path f well edges (index_in f.blocks b.id ∷ before) is in
        begins b there before path.blocks path.is_path path.same

    reached : (b : Block) → Contains f.blocks b → IsReached (preds_of f) (index_in f.blocks b.id) → Reached f b
    reached b there way =
        let path : PathTo f b way.before = path_to b there way.before way.is_path in
        record { before = path.blocks; is_path = path.is_path }

    -- ---- what is said of the paths to a block

    module _ (leaves : List Leaves) (are : AreLeaves f leaves) (b : Block) (there : Contains f.blocks b) where
      other_came : (memory : ValueId) → CameOther (preds_of f) leaves (index_in f.blocks b.id) memory
          → ((before : List Block) → IsPath f (b ∷ before) → Passes f before memory) → ⊥
      other_came memory way all =
          let path : PathTo f b way.before = path_to b there way.before way.is_path in
          way.other
          (ap (memory_on leaves) (sym path.same)
          ∙ passes_on f well leaves are path.blocks (path_blocks f (b ∷ path.blocks) path.is_path).1 memory
          (all path.blocks path.is_path))

      pub says_paths : (before : Passed) → SaysBefore (preds_of f) leaves (index_in f.blocks b.id) before
          → SaysPaths f b before
      says_paths NoPath says = λ way.
          says (indexes f way.before) (index_path f well edges (b ∷ way.before) way.is_path)
      says_paths (Always memory) says = (
        reached b there says.0,
        λ before is.
            passes_from f well leaves are before (path_blocks f (b ∷ before) is).1 memory
            (says.1 (indexes f before) (index_path f well edges (b ∷ before) is)),
      )
      says_paths Varies says = (reached b there says.0, λ memory all. other_came memory (says.1 memory) all)

-- ---- what is said of the paths through the end of a predecessor

-- some path goes on from one block to the next and passed another memory than this one, or none
pub record OtherPath (f : Func) (b source : Block) (memory : ValueId) : Type 0 where
  pub before : List Block
  pub is_path : IsPath f (b ∷ source ∷ before)
  pub other : Passes f (source ∷ before) memory → ⊥

module _ (f : Func) (well : WellFormedFunc f) (edges : (u : SsaUnit) → Meets Edges u f) (leaves : List Leaves)
    (are : AreLeaves f leaves) (source : Block) (there : Contains f.blocks source) (arg : ValueId) where
  -- where a path passed another memory, the test says so
  pub other_said : (passed : Passed) → SaysOf (preds_of f) leaves (index_in f.blocks source.id) passed
      → (before : List Block) → IsPath f (source ∷ before) → (Passes f (source ∷ before) arg → ⊥)
      → is_other passed arg ≡ true
  other_said NoPath says before is other =
      absurd (says (indexes f before) (index_path f well edges (source ∷ before) is))
  other_said (Always memory) says before is other =
      not_from_false (same_value arg memory) (false_from_ne_true (same_value arg memory) (λ same.
      other (passes_from f well leaves are (source ∷ before) (path_blocks f (source ∷ before) is) arg
      (says.1 (indexes f before) (index_path f well edges (source ∷ before) is)
      ∙ ap Some (sym (same_id arg memory same))))))
  other_said Varies says before is other = refl

  module _ (b : Block) (of_b : Contains f.blocks b)
      (edge : list_any (λ p. p == index_in f.blocks source.id) (preds_at (preds_of f) (index_in f.blocks b.id))
      ≡ true) where
    goes_on : (before : List ℕ) → IsIndexPath (preds_of f) (index_in f.blocks source.id ∷ before)
        → memory_on leaves (index_in f.blocks source.id ∷ before) ≢ Some arg → OtherPath f b source arg
    goes_on before is other =
        from_path (path_to f well edges b of_b (index_in f.blocks source.id ∷ before) (edge, is))
      where
        to_source : (blocks : List Block) → IsPath f (b ∷ blocks)
            → indexes f blocks ≡ index_in f.blocks source.id ∷ before
            → OtherPath f b source arg
        to_source [] path same = cc
        to_source (c ∷ rest) path same =
            let head : c ≡ source =
            same_index f well c source (path_blocks f (b ∷ c ∷ rest) path).1.0 there
            (ap (λ (l : List ℕ). get_or l 0 0) same) in
            let tail : indexes f rest ≡ before = ap (λ (l : List ℕ). drop 1 l) same in
            let onward : IsPath f (b ∷ source ∷ rest) = subst (λ (x : Block). IsPath f (b ∷ x ∷ rest)) head path in
            record {
              before = rest;
              is_path = onward;
              other = λ passes.
                  other (ap (λ (l : List ℕ). memory_on leaves (index_in f.blocks source.id ∷ l)) (sym tail)
                  ∙ passes_on f well leaves are (source ∷ rest) (path_blocks f (source ∷ rest) onward.2) arg passes);
            }

        from_path : PathTo f b (index_in f.blocks source.id ∷ before) → OtherPath f b source arg
        from_path path = to_source path.blocks path.is_path path.same

    -- where the test says so, a path goes on that passed another memory
    pub said_other : (passed : Passed) → SaysOf (preds_of f) leaves (index_in f.blocks source.id) passed
        → is_other passed arg ≡ true → OtherPath f b source arg
    said_other NoPath says other = cc
    said_other (Always memory) says other =
        goes_on says.0.before says.0.is_path (λ is.
        both_ways (same_value arg memory) (not-true (same_value arg memory) other)
        (id_same arg memory (same_Some arg memory (sym is ∙ says.1 says.0.before says.0.is_path))))
    said_other Varies says other =
        let way : PassesOther (preds_of f) leaves (index_in f.blocks source.id) arg = says.1 arg in
        goes_on way.before way.is_path way.other
