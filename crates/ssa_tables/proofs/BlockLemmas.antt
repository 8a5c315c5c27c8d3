-- The blocks of a well-formed function by index: names, and where each stands.
use Rattle.std.proofs.Common.{◌≡◌, ◌≢◌, ℕ, zero, suc, ◌<◌, Bool, true, false, cond, ◌==◌, ◌||◌, List, [], ◌∷◌, length}
use Rattle.std.proofs.Common.{map, get_or, find, is_some, Some, slice_get, Any, refl, sym, ap, ◌∙◌, arith}
use Rattle.std.specs.Bool.{beq}
use Rattle.std.specs.List.{Contains, list_any}
use Rattle.std.proofs.lemmas.Bool.{and_from, and_left, and_parts, eq-eqb, eqb-true, ne_eqb}
use Rattle.std.proofs.lemmas.List.{get_or-map, length-map}
use Rattle.std.proofs.lemmas.List.Folds.{Any-from_list_any}
use Rattle.std.proofs.lemmas.Option.{get_or_from_slice_get, slice_get-get_or, slice_get_within}
use Rattle.gossa_base.specs.declared.ids.BlockId.{BlockId}
use Rattle.ssa_ir.specs.declared.func.Block.{Block}
use Rattle.ssa_ir.specs.declared.func.Func.{Func}
use Rattle.ssa_ir.specs.Edges.{same_block}
use Rattle.ssa_ir.specs.WellFormed.{BlockIsThere, Differ, WellFormedFunc}
use Rattle.ssa_tables.specs.Blocks.{index_in, preds_at, preds_of}

some_same : {X : Type 0} (x y : X) → Some x ≡ Some y → x ≡ y
some_same x y same = cc

-- ---- names of blocks

alike : (s t : Bool) → beq s t ≡ true → s ≡ t
alike true true h = refl
alike true false h = cc
alike false true h = cc
alike false false h = refl

pub same_name : (a b : BlockId) → same_block a b ≡ true → a ≡ b
same_name a b same =
    let parts = and_parts (a.n == b.n) (beq a.split b.split) same in
    let split : a.split ≡ b.split = alike a.split b.split parts.1 in
    let number : a.n ≡ b.n = eqb-true a.n b.n parts.0 in
    λ i. record { split = split i; n = number i }

pub same_itself : (id : BlockId) → same_block id id ≡ true
same_itself id = and_from (id.n == id.n) (beq id.split id.split) (eq-eqb id.n id.n refl) (itself id.split)
  where
    itself : (s : Bool) → beq s s ≡ true
    itself true = refl
    itself false = refl

-- ---- the index of a block

index_at : (blocks : List Block) (i : ℕ) (b : Block) → Differ (map (λ x. x.id.n) blocks) → i < length blocks
    → get_or blocks i b ≡ b → index_in blocks b.id ≡ i
index_at [] i b differ lt is = absurd (omega (arith, lt))
index_at (x ∷ blocks) zero b differ lt is =
    ap (λ t. cond t 0 (suc (index_in blocks b.id)))
    (ap (λ (y : Block). same_block y.id b.id) is ∙ same_itself b.id)
index_at (x ∷ blocks) (suc i) b differ lt is =
    ap (λ t. cond t 0 (suc (index_in blocks b.id)))
    (and_left (x.id.n == b.id.n) (beq x.id.split b.id.split) (ne_eqb x.id.n b.id.n apart))
    ∙ ap suc (index_at blocks i b
    (λ j k d before within. differ (suc j) (suc k) d (omega (arith, before)) (omega (arith, within)))
    (omega (arith, lt)) is)
  where
    later : get_or (map (λ (y : Block). y.id.n) blocks) i 0 ≡ b.id.n
    later = get_or-map (λ (y : Block). y.id.n) blocks i b 0 (omega (arith, lt)) ∙ ap (λ (y : Block). y.id.n) is

    apart : x.id.n ≢ b.id.n
    apart same =
        differ 0 (suc i) 0 (omega arith) (omega (arith, lt, length-map blocks (λ (y : Block). y.id.n)))
        (same ∙ sym later)

-- the index of a block is where it stands
pub stands_at : (f : Func) → WellFormedFunc f → (b : Block) → Contains f.blocks b
    → slice_get f.blocks (index_in f.blocks b.id) ≡ Some b
stands_at f well b there =
    ap (slice_get f.blocks) (index_at f.blocks there.0 b well.blocks_differ there.1 there.2)
    ∙ slice_get-get_or f.blocks there.0 b there.1 ∙ ap Some there.2

-- a block that stands somewhere is there
pub block_there : (f : Func) (i : ℕ) (b : Block) → slice_get f.blocks i ≡ Some b → Contains f.blocks b
block_there f i b is = (i, slice_get_within f.blocks i b is, get_or_from_slice_get f.blocks i b b is)

-- where a block stands is its index
pub block_index : (f : Func) → WellFormedFunc f → (i : ℕ) (b : Block) → slice_get f.blocks i ≡ Some b
    → index_in f.blocks b.id ≡ i
block_index f well i b is =
    index_at f.blocks i b well.blocks_differ (slice_get_within f.blocks i b is)
    (get_or_from_slice_get f.blocks i b b is)

pub index_within : (f : Func) → WellFormedFunc f → (b : Block) → Contains f.blocks b
    → index_in f.blocks b.id < length f.blocks
index_within f well b there = slice_get_within f.blocks (index_in f.blocks b.id) b (stands_at f well b there)

-- blocks of one index are the same
pub same_index : (f : Func) → WellFormedFunc f → (a b : Block) → Contains f.blocks a → Contains f.blocks b
    → index_in f.blocks a.id ≡ index_in f.blocks b.id → a ≡ b
same_index f well a b there_a there_b same =
    some_same a b (sym (stands_at f well a there_a) ∙ ap (slice_get f.blocks) same ∙ stands_at f well b there_b)

-- some block stands at each index
pub block_at : (blocks : List Block) (i : ℕ) → i < length blocks → (b : Block) × (slice_get blocks i ≡ Some b)
block_at [] i lt = absurd (omega (arith, lt))
block_at (b ∷ blocks) zero lt = (b, refl)
block_at (b ∷ blocks) (suc i) lt = block_at blocks i (omega (arith, lt))

-- ---- names of blocks that are there

found_any : {X : Type 0} (test : X → Bool) (xs : List X) → is_some (find test xs) ≡ list_any test xs
found_any test [] = refl
found_any {X} test (x ∷ xs) = go (test x) (found_any test xs)
  where
    go : (t : Bool) → is_some (find test xs) ≡ list_any test xs
        → is_some (cond t (Some x) (find test xs)) ≡ (t || list_any test xs)
    go true rest = refl
    go false rest = rest

-- a name that is there is some block's
pub name_there : (f : Func) (id : BlockId) → BlockIsThere f id → Any (λ (b : Block). b.id ≡ id) f.blocks
name_there f id is_there =
    go (Any-from_list_any (λ (b : Block). same_block b.id id) f.blocks
    (sym (found_any (λ (b : Block). same_block b.id id) f.blocks) ∙ is_there))
  where
    go : Any (λ (b : Block). same_block b.id id ≡ true) f.blocks → Any (λ (b : Block). b.id ≡ id) f.blocks
    go (k, c, lt, is, same) = (k, c, lt, is, same_name c.id id same)

-- the indexes of a block's predecessors
pub preds_of_block : (f : Func) → WellFormedFunc f → (b : Block) → Contains f.blocks b
    → preds_at (preds_of f) (index_in f.blocks b.id) ≡ map (index_in f.blocks) b.preds
preds_of_block f well b there =
    get_or-map (λ (x : Block). map (index_in f.blocks) x.preds) f.blocks (index_in f.blocks b.id) b []
    (index_within f well b there)
    ∙ ap (λ (x : Block). map (index_in f.blocks) x.preds)
    (get_or_from_slice_get f.blocks (index_in f.blocks b.id) b b (stands_at f well b there))
