-- Paths of blocks and paths of their indexes are the same, where edges agree.
use Rattle.std.proofs.Common.{◌≡◌, ℕ, suc, ◌+◌, ◌<◌, ◌⊎◌, inl, inr, Bool, true, false, cond, not, ◌==◌, ◌||◌}
use Rattle.std.proofs.Common.{eqb, ltb, List, [], ◌∷◌, ◌++◌, length, map, filter, Option, None}
use Rattle.std.proofs.Common.{Some, slice_get, All, Any, refl, sym, ap, subst, ◌∙◌, true≢false, arith}
use Rattle.std.specs.List.{Contains, list_any}
use Rattle.std.proofs.Math.Dec.{eqb-suc-zero}
use Rattle.std.proofs.lemmas.Bool.{eq-eqb, eqb-true, lt-ltb, ltb-false, ltb-true, ne_eqb}
use Rattle.std.proofs.lemmas.Bool.{not_from_false}
use Rattle.std.proofs.lemmas.Bool.Decides.{nat_tests}
use Rattle.std.proofs.lemmas.List.{get_or_past, length-map}
use Rattle.std.proofs.lemmas.List.Elements.{All-cons, All-tail}
use Rattle.std.proofs.lemmas.List.Sums.{AllPass-from_list_all}
use Rattle.std.proofs.lemmas.Option.{same_Some, get_or_from_slice_get}
use Rattle.gossa_base.specs.declared.ids.BlockId.{BlockId}
use Rattle.gossa_base.specs.declared.ids.ValueId.{ValueId}
use Rattle.ssa_ir.specs.declared.func.Block.{Block}
use Rattle.ssa_ir.specs.declared.func.Func.{Func}
use Rattle.ssa_ir.specs.declared.func.SsaUnit.{SsaUnit}
use Rattle.ssa_ir.specs.declared.func.Value.{Value}
use Rattle.ssa_ir.specs.Edges.{same_block, is_first_of}
use Rattle.ssa_ir.specs.FirstOrder.{has_value}
use Rattle.ssa_ir.specs.Lookups.{value_of}
use Rattle.ssa_ir.specs.WellFormed.{BlockIsThere, WellFormedFunc}
use Rattle.ssa_check.specs.declared.refusal.At.TheVariants.{Block as AtBlock}
use Rattle.ssa_check.specs.declared.refusal.Check.TheVariants.{Edges}
use Rattle.ssa_tables.specs.declared.values.Place.{Place}
use Rattle.ssa_check.specs.BlockChecks.{agree, edges_hold, times}
use Rattle.ssa_ir.specs.Definedness.{is_passed}
use Rattle.ssa_check.specs.Failing.{Meets}
use Rattle.ssa_tables.specs.Blocks.{IsIndexPath, index_in, preds_at, preds_of}
use Rattle.ssa_tables.specs.PassedRows.{has_index}
use Rattle.ssa_ir.specs.Paths.{IsPath, goes_to}
use Rattle.ssa_tables.specs.Places.{places_in, places_from, places_of, place_in}
use Rattle.ssa_tables.proofs.BlockLemmas.{block_at, block_index, block_there, index_within, name_there, preds_of_block}
use Rattle.ssa_tables.proofs.BlockLemmas.{same_index, same_itself, same_name}
use Rattle.ssa_check.proofs.CalleeBlockLemmas.{placed}
use Rattle.ssa_tables.proofs.ValueTableLemmas.{at_place, leads_to}

module _ (f : Func) (well : WellFormedFunc f) (a : Block) (there : Contains f.blocks a) where
  -- two blocks have one index where they have one name
  pub same_by_index : (c : Block) → Contains f.blocks c
      → (index_in f.blocks c.id == index_in f.blocks a.id) ≡ same_block c.id a.id
  same_by_index c there_c = go (same_block c.id a.id) refl
    where
      go : (t : Bool) → same_block c.id a.id ≡ t → (index_in f.blocks c.id == index_in f.blocks a.id) ≡ t
      go true same =
          eq-eqb (index_in f.blocks c.id) (index_in f.blocks a.id) (ap (index_in f.blocks) (same_name c.id a.id same))
      go false other =
          ne_eqb (index_in f.blocks c.id) (index_in f.blocks a.id)
          (λ e. true≢false (sym (ap (λ (x : Block). same_block x.id a.id) (same_index f well c a there_c there e)
          ∙ same_itself a.id) ∙ other))

  -- and so has a name that is there
  pub named_by_index : (id : BlockId) → BlockIsThere f id
      → (index_in f.blocks id == index_in f.blocks a.id) ≡ same_block id a.id
  named_by_index id is_there = go (name_there f id is_there)
    where
      go : Any (λ (b : Block). b.id ≡ id) f.blocks
          → (index_in f.blocks id == index_in f.blocks a.id) ≡ same_block id a.id
      go (k, c, lt, is, same) =
          subst (λ (x : BlockId). (index_in f.blocks x == index_in f.blocks a.id) ≡ same_block x a.id) same
          (same_by_index c (k, lt, is))

  any_by_index : (ids : List BlockId) → All (BlockIsThere f) ids
      → list_any (λ p. p == index_in f.blocks a.id) (map (index_in f.blocks) ids)
      ≡ list_any (λ id. same_block id a.id) ids
  any_by_index [] all = refl
  any_by_index (id ∷ ids) all =
      let here : (index_in f.blocks id == index_in f.blocks a.id) ≡ same_block id a.id
      = named_by_index id (all 0 id (omega arith)) in
      let later : list_any (λ p. p == index_in f.blocks a.id) (map (index_in f.blocks) ids)
      ≡ list_any (λ x. same_block x a.id) ids
      = any_by_index ids (All-tail (BlockIsThere f) id ids all) in
      λ i. here i || later i

-- ---- edges

any_counted : {X : Type 0} (test : X → Bool) (xs : List X) → list_any test xs ≡ not (length (filter test xs) == 0)
any_counted test [] = refl
any_counted {X} test (x ∷ xs) = go (test x) (any_counted test xs)
  where
    go : (t : Bool) → list_any test xs ≡ not (length (filter test xs) == 0)
        → (t || list_any test xs) ≡ not (length (cond t (x ∷ filter test xs) (filter test xs)) == 0)
    go true rest = sym (not_from_false (suc (length (filter test xs)) == 0) (eqb-suc-zero (length (filter test xs))))
    go false rest = rest

-- the failing places of a function don't depend on the unit
no_unit : SsaUnit
no_unit = record { sigs = []; funcs = []; cases = [] }

module _ (f : Func) (well : WellFormedFunc f) (edges : (u : SsaUnit) → Meets Edges u f) where
  edges_agree : (a b : Block) → Contains f.blocks a → Contains f.blocks b → agree a b ≡ true
  edges_agree a b there_a there_b = go (edges_hold f b) refl
    where
      go : (t : Bool) → edges_hold f b ≡ t → agree a b ≡ true
      go true holds =
          ap (λ (x : Block). agree x b) (sym there_a.2)
          ∙ AllPass-from_list_all (λ (x : Block). agree x b) f.blocks holds there_a.0 a there_a.1
      go false fails = absurd (edges no_unit (AtBlock b.id) (there_b.0, b, there_b.1, there_b.2, (refl, fails)))

  -- an edge leads to a block where its source is among the predecessors
  pub goes_by_preds : (a b : Block) → Contains f.blocks a → Contains f.blocks b
      → goes_to a b ≡ list_any (λ id. same_block id a.id) b.preds
  goes_by_preds a b there_a there_b =
      any_counted (λ id. same_block id b.id) a.succs
      ∙ ap (λ n. not (n == 0))
      (sym (eqb-true (times a.id b.preds) (times b.id a.succs) (edges_agree a b there_a there_b)))
      ∙ sym (any_counted (λ id. same_block id a.id) b.preds)

  -- and where the index of its source is
  pub goes_by_index : (a b : Block) → Contains f.blocks a → Contains f.blocks b
      → goes_to a b ≡ list_any (λ p. p == index_in f.blocks a.id) (preds_at (preds_of f) (index_in f.blocks b.id))
  goes_by_index a b there_a there_b =
      goes_by_preds a b there_a there_b
      ∙ sym (any_by_index f well a there_a b.preds
      (subst (λ (x : Block). All (BlockIsThere f) x.preds) there_b.2 (well.preds_there there_b.0 b there_b.1)))
      ∙ ap (list_any (λ p. p == index_in f.blocks a.id)) (sym (preds_of_block f well b there_b))

-- ---- paths

abbrev pub indexes : Func → List Block → List ℕ
indexes f path = map (λ b. index_in f.blocks b.id) path

-- the newest block of a path is there
pub newest_there : (f : Func) (b : Block) (before : List Block) → IsPath f (b ∷ before) → Contains f.blocks b
newest_there f b [] is = is.0
newest_there f b (a ∷ before) is = is.0

-- and so are all
pub path_there : (f : Func) (path : List Block) → IsPath f path → All (Contains f.blocks) path
path_there f [] is = absurd is
path_there f (b ∷ []) is = All-cons (Contains f.blocks) b [] is.0 (λ k d lt. absurd (omega (arith, lt)))
path_there f (b ∷ a ∷ before) is =
    All-cons (Contains f.blocks) b (a ∷ before) is.0 (path_there f (a ∷ before) is.2)

first_index : (blocks : List Block) (b : Block) → is_first_of blocks b ≡ true → index_in blocks b.id ≡ 0
first_index [] b first = cc
first_index (x ∷ blocks) b first = ap (λ t. cond t 0 (suc (index_in blocks b.id))) first

is_first : (blocks : List Block) (b : Block) → slice_get blocks 0 ≡ Some b → is_first_of blocks b ≡ true
is_first [] b at = cc
is_first (x ∷ blocks) b at = ap (λ (y : Block). same_block y.id b.id) (same_Some x b at) ∙ same_itself b.id

pub count_preds : (f : Func) → length (preds_of f) ≡ length f.blocks
count_preds f = length-map f.blocks (λ (b : Block). map (index_in f.blocks) b.preds)

pub index_path : (f : Func) → WellFormedFunc f → ((u : SsaUnit) → Meets Edges u f) → (path : List Block)
    → IsPath f path → IsIndexPath (preds_of f) (indexes f path)
index_path f well edges [] is = is
index_path f well edges (b ∷ []) is =
    (first_index f.blocks b is.1, omega (arith, index_within f well b is.0, count_preds f))
index_path f well edges (b ∷ a ∷ before) is = (
  sym (goes_by_index f well edges a b (newest_there f a before is.2) is.0) ∙ is.1,
  index_path f well edges (a ∷ before) is.2,
)

-- the blocks of a path of indexes
pub record BlocksOf (f : Func) (path : List ℕ) : Type 0 where
  pub blocks : List Block
  pub is_path : IsPath f blocks
  pub same : indexes f blocks ≡ path

module _ (f : Func) (well : WellFormedFunc f) (edges : (u : SsaUnit) → Meets Edges u f) (b : ℕ) where
  begun : IsIndexPath (preds_of f) (b ∷ []) → BlocksOf f (b ∷ [])
  begun is = go (block_at f.blocks b (omega (arith, is.1, count_preds f)))
    where
      go : (x : Block) × (slice_get f.blocks b ≡ Some x) → BlocksOf f (b ∷ [])
      go (x, at) = record {
        blocks = x ∷ [];
        is_path = (block_there f b x at, is_first f.blocks x (ap (slice_get f.blocks) (sym is.0) ∙ at));
        same = ap (λ i. i ∷ []) (block_index f well b x at);
      }

  module _ (a : ℕ) (before : List ℕ) (listed : list_any (λ p. p == a) (preds_at (preds_of f) b) ≡ true) where
    pred_within : b < length f.blocks
    pred_within = go (ltb b (length f.blocks)) refl
      where
        go : (t : Bool) → ltb b (length f.blocks) ≡ t → b < length f.blocks
        go true lt = ltb-true b (length f.blocks) lt
        go false past =
            absurd (true≢false (sym listed ∙ ap (list_any (λ p. p == a))
            (get_or_past (preds_of f) b [] (omega (arith, ltb-false b (length f.blocks) past, count_preds f)))))

    longer : (blocks : List Block) → IsPath f blocks → indexes f blocks ≡ a ∷ before → BlocksOf f (b ∷ a ∷ before)
    longer [] is same = absurd is
    longer (x ∷ blocks) is same = go (block_at f.blocks b pred_within)
      where
        x_index : index_in f.blocks x.id ≡ a
        x_index = cc same

        go : (y : Block) × (slice_get f.blocks b ≡ Some y) → BlocksOf f (b ∷ a ∷ before)
        go (y, at) =
            let there : Contains f.blocks y = block_there f b y at in
            let y_index : index_in f.blocks y.id ≡ b = block_index f well b y at in
            let goes : goes_to x y ≡ true
            = goes_by_index f well edges x y (newest_there f x blocks is) there
            ∙ (λ i. list_any (λ p. p == x_index i) (preds_at (preds_of f) (y_index i))) ∙ listed in
            record {
              blocks = y ∷ x ∷ blocks;
              is_path = (there, goes, is);
              same = λ i. y_index i ∷ same i;
            }

pub block_path : (f : Func) → WellFormedFunc f → ((u : SsaUnit) → Meets Edges u f) → (path : List ℕ)
    → IsIndexPath (preds_of f) path → BlocksOf f path
block_path f well edges [] is = absurd is
block_path f well edges (b ∷ []) is = begun f well edges b is
block_path f well edges (b ∷ a ∷ before) is =
    let rest : BlocksOf f (a ∷ before) = block_path f well edges (a ∷ before) is.1 in
    longer f well edges b a before is.0 rest.blocks rest.is_path rest.same

-- ---- the block of a value

-- a place is in this block, or in what follows
in_block_or_later : (block i : ℕ) (values : List Value) (more : List (ℕ × Place)) (id : ValueId) (place : Place)
    → place_in (places_in block i values ++ more) id ≡ Some place
    → (place.block ≡ block) ⊎ (place_in more id ≡ Some place)
in_block_or_later block i [] more id place is = inr is
in_block_or_later block i (v ∷ values) more id place is =
    go (v.id.0 == id.0) is (in_block_or_later block (suc i) values more id place)
  where
    go : (t : Bool)
        → cond t (Some (record { block = block; index = i })) (place_in (places_in block (suc i) values ++ more) id)
        ≡ Some place
        → (place_in (places_in block (suc i) values ++ more) id ≡ Some place
        → (place.block ≡ block) ⊎ (place_in more id ≡ Some place))
        → (place.block ≡ block) ⊎ (place_in more id ≡ Some place)
    go true here later =
        inl (ap (λ (p : Place). p.block) (sym (same_Some (record { block = block; index = i }) place here)))
    go false rest later = later rest

within_from : (b : ℕ) (blocks : List Block) (id : ValueId) (place : Place)
    → place_in (places_from b blocks) id ≡ Some place → place.block < b + length blocks
within_from b [] id place is = cc
within_from b (x ∷ blocks) id place is =
    go (in_block_or_later b 0 x.values (places_from (suc b) blocks) id place is)
    (within_from (suc b) blocks id place)
  where
    go : (place.block ≡ b) ⊎ (place_in (places_from (suc b) blocks) id ≡ Some place)
        → (place_in (places_from (suc b) blocks) id ≡ Some place → place.block < suc b + length blocks)
        → place.block < b + length (x ∷ blocks)
    go (inl here) later = omega (arith, here)
    go (inr rest) later = omega (arith, later rest)

-- a value that is there has a place
pub has_place : (f : Func) (id : ValueId) (v : Value) → value_of f id ≡ Some v
    → (place : Place) × (place_in (places_of f) id ≡ Some place)
has_place f id v is = go (place_in (places_of f) id) refl
  where
    go : (o : Option Place) → place_in (places_of f) id ≡ o → (place : Place) × (place_in (places_of f) id ≡ Some place)
    go None none = let missing : value_of f id ≡ None = leads_to f id ∙ ap (at_place f.blocks) none in cc
    go (Some place) found = (place, found)

module _ (f : Func) (id : ValueId) (place : Place) (is : place_in (places_of f) id ≡ Some place) where
  -- its place is in some block
  pub within_blocks : place.block < length f.blocks
  within_blocks = omega (arith, within_from 0 f.blocks id place is)

  module _ (well : WellFormedFunc f) where
    -- a value stands in the block whose index its place names, and in no other
    pub stands_by : (b : Block) → Contains f.blocks b → has_value b.values id ≡ (index_in f.blocks b.id == place.block)
    stands_by b there = go (block_at f.blocks place.block within_blocks)
      where
        eqb_swap : (m n : ℕ) → eqb m n ≡ eqb n m
        eqb_swap m n = grind (arith, nat_tests)

        go : (h : Block) × (slice_get f.blocks place.block ≡ Some h)
            → has_value b.values id ≡ (index_in f.blocks b.id == place.block)
        go (h, at) =
            let named : has_value b.values id ≡ same_block h.id b.id
            = placed f well b there id place is f.blocks refl (Some (record { ref_ptr = (0, 0); now = h })) (
              sym (lt-ltb place.block (length f.blocks) within_blocks),
              sym (get_or_from_slice_get f.blocks place.block h h at),
              λ lt. refl,
              (within_blocks, λ d. sym (get_or_from_slice_get f.blocks place.block h d at)),
              λ le d. sym (get_or_from_slice_get f.blocks place.block h d at),
            ) in
            named
            ∙ sym (same_by_index f well b there h (block_there f place.block h at))
            ∙ ap (λ i. i == index_in f.blocks b.id) (block_index f well place.block h at)
            ∙ eqb_swap place.block (index_in f.blocks b.id)

    -- a path passes a value where it passes the index of its block
    pub passed_is : (path : List Block) → All (Contains f.blocks) path
        → is_passed path id ≡ has_index (indexes f path) place.block
    passed_is [] all = refl
    passed_is (b ∷ path) all =
        let here : has_value b.values id ≡ (index_in f.blocks b.id == place.block)
        = stands_by b (all 0 b (omega arith)) in
        let later : is_passed path id ≡ has_index (indexes f path) place.block
        = passed_is path (All-tail (Contains f.blocks) b path all) in
        λ i. here i || later i
