-- A function made ready: where its edges go, and its blocks one after the other.
use Rattle.std.proofs.Common.{◌≡◌, ℕ, zero, suc, ◌+◌, ◌≤◌, ◌<◌, ◌⊎◌, inl, inr, List, [], ◌∷◌, ◌++◌, length, get_or}
use Rattle.std.proofs.Common.{slice_get, Option, None, Some, refl, sym, ap, subst, ◌∙◌, arith}
use Rattle.std.specs.List.{position_or_len}
use Rattle.std.proofs.lemmas.Bool.{cases_lt}
use Rattle.std.proofs.lemmas.List.{get_or_append_left, get_or_at, get_or_past, length_push}
use Rattle.std.proofs.lemmas.Option.{get_or_from_slice_get, same_Some, slice_get-get_or, slice_get_within}
use Rattle.gossa_base.specs.declared.ids.BlockId.{BlockId}
use Rattle.ssa_ir.specs.declared.func.Block.{Block}
use Rattle.ssa_ir.specs.declared.func.Func.{Func}
use Rattle.ssa_ir.specs.Edges.{block_named, edge_number, same_block, times_before}
use Rattle.ssa_ir.specs.Lookups.{values_of}
use Rattle.ssa_ir.specs.WellFormed.{WellFormedFunc}
use Rattle.ssa_meaning.specs.declared.ready.Way.{Way}
use Rattle.ssa_meaning.specs.declared.ready.ReadyBlock.{ReadyBlock}
use Rattle.ssa_meaning.specs.declared.ready.ReadyFunc.{ReadyFunc}
use Rattle.ssa_meaning.specs.tables.Ready.{Arrives, GoesNowhere, IsReady, IsReadyBlock, LeadsTo}
use Rattle.block_order.specs.Apart.{AreApart}
use Rattle.ssa_meaning.proofs.ApartLemmas.{are_apart, block_apart}
use Rattle.ssa_tables.proofs.BlockTableLemmas.{block_at}
use Rattle.ssa_tables.specs.Blocks.{names}

-- ---- edges

-- among none a block doesn't stand
pub none_before : (ids : List BlockId) (j : ℕ) (id : BlockId) → j ≡ 0 → times_before ids j id ≡ 0
none_before [] j id none = refl
none_before (x ∷ ids) zero id none = refl
none_before (x ∷ ids) (suc j) id none = absurd (omega (arith, none))

module _ (f : Func) (b : Block) (j : ℕ) (id : BlockId) (stands : slice_get b.succs j ≡ Some id) (keys : List BlockId)
    (table : keys ≡ names f.blocks) (place : ℕ) (is : place ≡ position_or_len (λ name. same_block name id) keys) where
  found : block_named f.blocks id ≡ slice_get f.blocks place
  found =
      block_at f.blocks id
      ∙ ap (λ l. slice_get f.blocks (position_or_len (λ name. same_block name id) l)) (sym table)
      ∙ ap (slice_get f.blocks) (sym is)

  pub goes_nowhere : None ≡ slice_get f.blocks place → GoesNowhere f b j
  goes_nowhere none other at =
      ap (block_named f.blocks) (same_Some other id (sym at ∙ stands)) ∙ found ∙ sym none

  pub arrives_at : (target : Block) → Some target ≡ slice_get f.blocks place → (edge : ℕ)
      → edge ≡ edge_number b target j → Arrives f b j (record { block = place; edge = edge })
  arrives_at target at edge number = record {
    id = id;
    target = target;
    successor = stands;
    named = found ∙ sym at;
    stands = sym at;
    edge = number;
  }

-- ---- what was made for each of the first n

abbrev pub MadeFor : {X : Type 0} → (ℕ → X → Type 0) → List X → ℕ → Type 0
MadeFor {X} P xs n = (length xs ≡ n) × ((j : ℕ) (d : X) → j < n → P j (get_or xs j d))

pub made_none : {X : Type 0} (P : ℕ → X → Type 0) (xs : List X) → xs ≡ [] → MadeFor P xs 0
made_none P xs none = (ap (λ l. length l) none, λ j d lt. absurd (omega (arith, lt)))

pub made_further : {X : Type 0} (P : ℕ → X → Type 0) (xs : List X) (n : ℕ) (x : X) → MadeFor P xs n → P n x
    → (ys : List X) → ys ≡ xs ++ x ∷ [] → MadeFor P ys (n + 1)
made_further {X} P xs n x h made ys is = (
  ap (λ l. length l) is ∙ length_push xs x ∙ ap (λ k. k + 1) h.0,
  λ j d lt. subst (λ (l : List X). P j (get_or l j d)) (sym is) (go j d (cases_lt j n) lt),
)
  where
    go : (j : ℕ) (d : X) → (j < n) ⊎ (n ≤ j) → j < n + 1 → P j (get_or (xs ++ x ∷ []) j d)
    go j d (inl before) lt =
        subst (P j) (sym (get_or_append_left xs (x ∷ []) d j (omega (arith, before, h.0)))) (h.1 j d before)
    go j d (inr past) lt =
        let last : n ≡ j = omega (arith, past, lt) in
        subst (λ k. P k (get_or (xs ++ x ∷ []) k d)) last (subst (P n) (sym (get_or_at xs x [] d n h.0)) made)

-- where so many ways were made as there are successors, past them there is none
pub all_ways : (f : Func) (b : Block) (ways : List (Option Way)) (n : ℕ) → MadeFor (LeadsTo f b) ways n
    → length b.succs ≤ n → (j : ℕ) → LeadsTo f b j (get_or ways j None)
all_ways f b ways n h all j = go (cases_lt j n)
  where
    go : (j < n) ⊎ (n ≤ j) → LeadsTo f b j (get_or ways j None)
    go (inl before) = h.1 j None before
    go (inr past) =
        subst (LeadsTo f b j) (sym (get_or_past ways j None (omega (arith, past, h.0))))
        (λ id at. absurd (omega (arith, slice_get_within b.succs j id at, past, all)))

-- a block made ready is that of its index
abbrev pub ReadyAt : Func → ℕ → ReadyBlock → Type 0
ReadyAt f i r = (b : Block) → slice_get f.blocks i ≡ Some b → IsReadyBlock f b r

pub all_ready : (f : Func) (made : ReadyFunc) (n : ℕ) → MadeFor (ReadyAt f) made.blocks.items n → n ≡ length f.blocks
    → IsReady f made
all_ready f made n h all = record {
  blocks = h.0 ∙ all;
  each = λ i b r at_block at. subst (IsReadyBlock f b) (get_or_from_slice_get made.blocks.items i r r at)
      (h.1 i r (omega (arith, slice_get_within f.blocks i b at_block, all)) b at_block);
}

-- the item that a loop is at is that of its index
pub ready_at : (f : Func) (i : ℕ) (b : Block) (blocks : List Block) → blocks ≡ f.blocks → i < length blocks
    → get_or blocks i b ≡ b → (r : ReadyBlock) → IsReadyBlock f b r → ReadyAt f i r
ready_at f i b blocks same within is r ready c at =
    subst (λ (x : Block). IsReadyBlock f x r)
    (sym is ∙ ap (λ l. get_or l i b) same ∙ get_or_from_slice_get f.blocks i c b at) ready

-- the values of a block of a well-formed function have different numbers
pub values_apart : (f : Func) → WellFormedFunc f → (i : ℕ) (b : Block) (blocks : List Block) → blocks ≡ f.blocks
    → i < length blocks → get_or blocks i b ≡ b → AreApart b.values
values_apart f whole i b blocks same within is =
    block_apart f.blocks i b (are_apart (values_of f) whole.values_differ)
    (ap (λ l. slice_get l i) (sym same) ∙ slice_get-get_or blocks i b within ∙ ap Some is)
