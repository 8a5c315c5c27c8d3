-- The indexes of predecessors are those that the table of blocks gives, and each is that of a block.
use Rattle.std.proofs.Common.{◌≡◌, ℕ, ◌+◌, ◌≤◌, ◌<◌, List, [], ◌∷◌, ◌++◌, length, map, get_or, take, Vec, Global, All}
use Rattle.std.proofs.Common.{Any, sym, ap, subst, ◌∙◌, arith}
use Rattle.std.proofs.lemmas.List.{get_or-map, length-map, map-append, take_all, take_more}
use Rattle.std.proofs.lemmas.List.Elements.{All-cons, All-tail}
use Rattle.gossa_base.specs.declared.ids.BlockId.{BlockId}
use Rattle.ssa_ir.specs.declared.func.Block.{Block}
use Rattle.ssa_ir.specs.declared.func.Func.{Func}
use Rattle.ssa_ir.specs.WellFormed.{BlockIsThere, WellFormedFunc}
use Rattle.ssa_tables.specs.Blocks.{index_in, names_of, place_of, preds_of}
use Rattle.ssa_tables.proofs.BlockLemmas.{index_within, name_there}
use Rattle.ssa_tables.proofs.BlockTableLemmas.{place_is}

-- one more place
pub one_more : {X Y : Type 0} (g : X → Y) (xs : List X) (i : ℕ) (d : X) → i < length xs → (ys : List Y)
    → ys ≡ map g (take i xs) → (y : Y) → y ≡ g (get_or xs i d) → ys ++ y ∷ [] ≡ map g (take (i + 1) xs)
one_more {X} {Y} g xs i d lt ys are y is =
    (λ k. are k ++ is k ∷ [])
    ∙ sym (map-append g (take i xs) (get_or xs i d ∷ []))
    ∙ ap (map g) (sym (take_more xs i d lt))

pub preds_found : (f : Func) (table : List BlockId) → table ≡ names_of f → (blocks : List Block) → blocks ≡ f.blocks
    → (i : ℕ) → length blocks ≤ i → (lists : List (Vec ℕ Global))
    → map (λ preds. preds.items) lists ≡ map (λ b. map (place_of table) b.preds) (take i blocks)
    → map (λ preds. preds.items) lists ≡ preds_of f
preds_found f table of_func blocks same i past lists are =
    are
    ∙ ap (λ (names : List BlockId). map (λ (b : Block). map (place_of names) b.preds) (take i blocks)) of_func
    ∙ ap (λ (l : List Block). map (λ (b : Block). map (place_of (names_of f)) b.preds) l)
    (take_all i blocks past ∙ same)
    ∙ (λ j. map (λ (b : Block). map (λ id. place_is f.blocks id j) b.preds) f.blocks)

module _ (f : Func) (well : WellFormedFunc f) where
  within_name : (id : BlockId) → BlockIsThere f id → index_in f.blocks id < length f.blocks
  within_name id is_there = go (name_there f id is_there)
    where
      go : Any (λ (b : Block). b.id ≡ id) f.blocks → index_in f.blocks id < length f.blocks
      go (k, c, lt, is, same) =
          subst (λ (x : BlockId). index_in f.blocks x < length f.blocks) same (index_within f well c (k, lt, is))

  within_names : (ids : List BlockId) → All (BlockIsThere f) ids
      → All (λ p. p < length f.blocks) (map (index_in f.blocks) ids)
  within_names [] all = λ k d lt. absurd (omega (arith, lt))
  within_names (id ∷ ids) all =
      All-cons (λ p. p < length f.blocks) (index_in f.blocks id) (map (index_in f.blocks) ids)
      (within_name id (all 0 id (omega arith)))
      (within_names ids (All-tail (BlockIsThere f) id ids all))

  within_all : (blocks : List Block) → All (λ (b : Block). All (BlockIsThere f) b.preds) blocks
      → All (λ preds. All (λ p. p < length f.blocks) preds) (map (λ b. map (index_in f.blocks) b.preds) blocks)
  within_all [] all = λ k d lt. absurd (omega (arith, lt))
  within_all (b ∷ blocks) all =
      All-cons (λ preds. All (λ p. p < length f.blocks) preds) (map (index_in f.blocks) b.preds)
      (map (λ c. map (index_in f.blocks) c.preds) blocks) (within_names b.preds (all 0 b (omega arith)))
      (within_all blocks (All-tail (λ (c : Block). All (BlockIsThere f) c.preds) b blocks all))

  -- all indexes of predecessors are those of blocks
  pub preds_within : (lists : List (Vec ℕ Global)) → map (λ preds. preds.items) lists ≡ preds_of f
      → All (λ preds. All (λ p. p < length lists) preds.items) lists
  preds_within lists is k d lt =
      subst (λ n. All (λ p. p < n) (get_or lists k d).items) (sym count)
      (subst (All (λ p. p < length f.blocks)) at
      (within_all f.blocks well.preds_there k []
      (omega (arith, lt, count, length-map f.blocks (λ (b : Block). map (index_in f.blocks) b.preds)))))
    where
      count : length lists ≡ length f.blocks
      count =
          sym (length-map lists (λ (preds : Vec ℕ Global). preds.items)) ∙ ap (λ l. length l) is
          ∙ length-map f.blocks (λ (b : Block). map (index_in f.blocks) b.preds)

      at : get_or (preds_of f) k [] ≡ (get_or lists k d).items
      at =
          ap (λ l. get_or l k []) (sym is) ∙ get_or-map (λ (preds : Vec ℕ Global). preds.items) lists k d [] lt
