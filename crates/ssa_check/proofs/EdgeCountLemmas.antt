-- How often an edge stands among those that the blocks of a function list.
use Rattle.std.proofs.Common.{◌≡◌, ◌≢◌, ℕ, zero, suc, ◌+◌, ◌<◌, ◌⊎◌, inl, inr, Bool, true, false, cond, eqb, ◌==◌, ◌&&◌}
use Rattle.std.proofs.Common.{List, [], ◌∷◌, ◌++◌, length, map, get_or, filter, find, flat_map, is_some, Some, refl}
use Rattle.std.proofs.Common.{subst, sym, ap, ◌∙◌, All, Any, length-append, arith}
use Rattle.std.specs.Bool.{beq}
use Rattle.std.proofs.lemmas.Bool.{eqb-true, eq-eqb, ne_eqb, and_right, and_parts, cases_eq}
use Rattle.std.proofs.lemmas.List.Elements.{filter-append, All-tail}
use Rattle.gossa_base.specs.declared.ids.BlockId.{BlockId}
use Rattle.ssa_ir.specs.declared.func.Block.{Block}
use Rattle.ssa_ir.specs.declared.func.Func.{Func}
use Rattle.ssa_ir.specs.Edges.{same_block}
use Rattle.ssa_ir.specs.WellFormed.{BlockIsThere, Differ, WellFormedFunc}
use Rattle.ssa_check.specs.declared.edges.Edge.{Edge}
use Rattle.ssa_check.specs.BlockChecks.{times}
use Rattle.ssa_check.specs.tables.EdgeTables.{same_edge, outgoing, incoming, all_outgoing, all_incoming}
use Rattle.ssa_check.proofs.EdgeOrderLemmas.{count}
use Rattle.graphs.proofs.AnyLemmas.{any_here, any_later}

count_append : (e : Edge) (xs ys : List Edge) → count e (xs ++ ys) ≡ count e xs + count e ys
count_append e xs ys =
    ap (λ l. length l) (filter-append (λ x. same_edge x e) xs ys)
    ∙ length-append (filter (λ x. same_edge x e) xs) (filter (λ x. same_edge x e) ys)

-- ---- one block

-- how often a number stands among those of blocks
abbrev pub times_number : ℕ → List BlockId → ℕ
times_number n ids = length (filter (λ x. x.n == n) ids)

module _ (e : Edge) (n : ℕ) where
  abbrev from_here : List BlockId → List Edge
  from_here ids = map (λ t. record { target = t.n; source = n }) ids

  abbrev to_here : List BlockId → List Edge
  to_here ids = map (λ s. record { target = n; source = s.n }) ids

  counted_from : (ids : List BlockId) → e.source ≡ n → count e (from_here ids) ≡ times_number e.target ids
  counted_from [] is = refl
  counted_from (x ∷ ids) is =
      ap (λ t. length (cond (eqb x.n e.target && t) (record { target = x.n; source = n } ∷ rest) rest))
      (eq-eqb n e.source (sym is))
      ∙ go (eqb x.n e.target) (counted_from ids is)
    where
      rest : List Edge
      rest = filter (λ y. same_edge y e) (from_here ids)

      go : (t : Bool) → length rest ≡ times_number e.target ids
          → length (cond (t && true) (record { target = x.n; source = n } ∷ rest) rest)
          ≡ length (cond t (x ∷ filter (λ y. y.n == e.target) ids) (filter (λ y. y.n == e.target) ids))
      go true h = ap suc h
      go false h = h

  none_from : (ids : List BlockId) → e.source ≢ n → count e (from_here ids) ≡ 0
  none_from [] other = refl
  none_from (x ∷ ids) other =
      ap (λ t. length (cond t (record { target = x.n; source = n } ∷ filter (λ y. same_edge y e) (from_here ids))
      (filter (λ y. same_edge y e) (from_here ids))))
      (and_right (eqb x.n e.target) (eqb n e.source) (ne_eqb n e.source (λ is. other (sym is))))
      ∙ none_from ids other

  counted_to : (ids : List BlockId) → e.target ≡ n → count e (to_here ids) ≡ times_number e.source ids
  counted_to [] is = refl
  counted_to (x ∷ ids) is =
      ap (λ t. length (cond (t && eqb x.n e.source) (record { target = n; source = x.n } ∷ rest) rest))
      (eq-eqb n e.target (sym is))
      ∙ go (eqb x.n e.source) (counted_to ids is)
    where
      rest : List Edge
      rest = filter (λ y. same_edge y e) (to_here ids)

      go : (t : Bool) → length rest ≡ times_number e.source ids
          → length (cond t (record { target = n; source = x.n } ∷ rest) rest)
          ≡ length (cond t (x ∷ filter (λ y. y.n == e.source) ids) (filter (λ y. y.n == e.source) ids))
      go true h = ap suc h
      go false h = h

  none_to : (ids : List BlockId) → e.target ≢ n → count e (to_here ids) ≡ 0
  none_to [] other = refl
  none_to (x ∷ ids) other =
      ap (λ t. length (cond (t && eqb x.n e.source)
      (record { target = n; source = x.n } ∷ filter (λ y. same_edge y e) (to_here ids))
      (filter (λ y. same_edge y e) (to_here ids))))
      (ne_eqb n e.target (λ is. other (sym is)))
      ∙ none_to ids other

-- ---- all blocks

-- no block has this number
abbrev pub Apart : ℕ → List Block → Type 0
Apart n [] = Unit {0}
Apart n (b ∷ blocks) = (n ≢ b.id.n) × Apart n blocks

abbrev pub AllApart : List Block → Type 0
AllApart [] = Unit {0}
AllApart (b ∷ blocks) = Apart b.id.n blocks × AllApart blocks

apart_from : (n : ℕ) (blocks : List Block)
    → ((j d : ℕ) → j < length (map (λ (b : Block). b.id.n) blocks)
    → n ≢ get_or (map (λ (b : Block). b.id.n) blocks) j d)
    → Apart n blocks
apart_from n [] h = tt
apart_from n (b ∷ blocks) h =
    (h 0 n (omega arith), apart_from n blocks (λ j d within. h (suc j) d (omega (arith, within))))

pub all_apart : (blocks : List Block) → Differ (map (λ (b : Block). b.id.n) blocks) → AllApart blocks
all_apart [] h = tt
all_apart (b ∷ blocks) h = (
  apart_from b.id.n blocks (λ j d within. h 0 (suc j) d (omega arith) (omega (arith, within))),
  all_apart blocks (λ i j d before within. h (suc i) (suc j) d (omega (arith, before)) (omega (arith, within))),
)

pub apart_at : (n : ℕ) (blocks : List Block) (k : ℕ) (s : Block) → k < length blocks → get_or blocks k s ≡ s
    → Apart n blocks
    → n ≢ s.id.n
apart_at n [] k s within is apart = absurd (omega (arith, within))
apart_at n (b ∷ blocks) zero s within is apart = λ same. apart.0 (same ∙ ap (λ (x : Block). x.id.n) (sym is))
apart_at n (b ∷ blocks) (suc k) s within is apart = apart_at n blocks k s (omega (arith, within)) is apart.1

-- a block has this number, or none has
pub some_or_none : (n : ℕ) (blocks : List Block) → Any (λ (b : Block). n ≡ b.id.n) blocks ⊎ Apart n blocks
some_or_none n [] = inr tt
some_or_none n (b ∷ blocks) = go (cases_eq n b.id.n) (some_or_none n blocks)
  where
    go : (n ≡ b.id.n) ⊎ (n ≡ b.id.n → ⊥) → Any (λ (x : Block). n ≡ x.id.n) blocks ⊎ Apart n blocks
        → Any (λ (x : Block). n ≡ x.id.n) (b ∷ blocks) ⊎ Apart n (b ∷ blocks)
    go (inl here) later = inl (any_here b blocks here)
    go (inr other) (inl later) = inl (any_later b blocks later)
    go (inr other) (inr none) = inr (other, none)

-- where each block but one lists the edge not at all
module _ (edges_of : Block → List Edge) (e : Edge) (n : ℕ)
    (others : (b : Block) → n ≢ b.id.n → count e (edges_of b) ≡ 0) where
  pub none_lists : (blocks : List Block) → Apart n blocks → count e (flat_map edges_of blocks) ≡ 0
  none_lists [] apart = refl
  none_lists (b ∷ blocks) apart =
      omega (arith, count_append e (edges_of b) (flat_map edges_of blocks), others b apart.0, none_lists blocks apart.1)

  pub one_lists : (blocks : List Block) (k : ℕ) (s : Block) → k < length blocks → get_or blocks k s ≡ s
      → AllApart blocks
      → n ≡ s.id.n → count e (flat_map edges_of blocks) ≡ count e (edges_of s)
  one_lists [] k s within is apart here = absurd (omega (arith, within))
  one_lists (b ∷ blocks) zero s within is apart here =
      let rest : count e (flat_map edges_of blocks) ≡ 0 =
      none_lists blocks (subst (λ m. Apart m blocks) (ap (λ (x : Block). x.id.n) is ∙ sym here) apart.0) in
      let first : count e (edges_of b) ≡ count e (edges_of s) = ap (λ (x : Block). count e (edges_of x)) is in
      omega (arith, count_append e (edges_of b) (flat_map edges_of blocks), rest, first)
  one_lists (b ∷ blocks) (suc k) s within is apart here =
      let other : n ≢ b.id.n =
      λ same. apart_at b.id.n blocks k s (omega (arith, within)) is apart.0 (sym same ∙ here) in
      let rest : count e (flat_map edges_of blocks) ≡ count e (edges_of s) =
      one_lists blocks k s (omega (arith, within)) is apart.1 here in
      omega (arith, count_append e (edges_of b) (flat_map edges_of blocks), others b other, rest)

-- ---- names of blocks that are there

beq_same : (a b : Bool) → beq a b ≡ true → a ≡ b
beq_same true true h = refl
beq_same true false h = cc
beq_same false true h = cc
beq_same false false h = refl

-- what a name that is found is the name of
found_of : (id : BlockId) (blocks : List Block) → is_some (find (λ (b : Block). same_block b.id id) blocks) ≡ true
    → Any (λ (b : Block). same_block b.id id ≡ true) blocks
found_of id [] h = cc
found_of id (b ∷ blocks) h = go (same_block b.id id) refl h (found_of id blocks)
  where
    go : (t : Bool) → same_block b.id id ≡ t
        → is_some (cond t (Some b) (find (λ (x : Block). same_block x.id id) blocks)) ≡ true
        → (is_some (find (λ (x : Block). same_block x.id id) blocks) ≡ true
        → Any (λ (x : Block). same_block x.id id ≡ true) blocks)
        → Any (λ (x : Block). same_block x.id id ≡ true) (b ∷ blocks)
    go true here h later = any_here b blocks here
    go false other h later = any_later b blocks (later h)

module _ (f : Func) (whole : WellFormedFunc f) where
  pub unsplit_of : (s : Block) (k : ℕ) → k < length f.blocks → get_or f.blocks k s ≡ s → s.id.split ≡ false
  unsplit_of s k within is = ap (λ (x : Block). x.id.split) (sym is) ∙ whole.unsplit k s within

  there_unsplit : (id : BlockId) → BlockIsThere f id → id.split ≡ false
  there_unsplit id there = go (found_of id f.blocks there)
    where
      go : Any (λ (b : Block). same_block b.id id ≡ true) f.blocks → id.split ≡ false
      go (k, b, within, is, same) =
          sym (beq_same b.id.split id.split (and_parts (eqb b.id.n id.n) (beq b.id.split id.split) same).1)
          ∙ unsplit_of b k within is

  there_numbered : (id : BlockId) → BlockIsThere f id → Any (λ (b : Block). id.n ≡ b.id.n) f.blocks
  there_numbered id there = go (found_of id f.blocks there)
    where
      go : Any (λ (b : Block). same_block b.id id ≡ true) f.blocks → Any (λ (b : Block). id.n ≡ b.id.n) f.blocks
      go (k, b, within, is, same) =
          (k, b, within, is, sym (eqb-true b.id.n id.n (and_parts (eqb b.id.n id.n) (beq b.id.split id.split) same).0))

  -- an unsplit name stands as often as its number
  pub times_by_number : (id : BlockId) → id.split ≡ false → (ids : List BlockId) → All (BlockIsThere f) ids
      → times id ids ≡ times_number id.n ids
  times_by_number id unsplit [] all = refl
  times_by_number id unsplit (x ∷ ids) all =
      ap (λ t. length (cond (eqb x.n id.n && t) (x ∷ rest) rest)) alike
      ∙ go (eqb x.n id.n) (times_by_number id unsplit ids (All-tail (BlockIsThere f) x ids all))
    where
      rest : List BlockId
      rest = filter (λ y. same_block y id) ids

      alike : beq x.split id.split ≡ true
      alike = λ i. beq (there_unsplit x (all 0 x (omega arith)) i) (unsplit i)

      go : (t : Bool) → length rest ≡ times_number id.n ids
          → length (cond (t && true) (x ∷ rest) rest)
          ≡ length (cond t (x ∷ filter (λ y. y.n == id.n) ids) (filter (λ y. y.n == id.n) ids))
      go true h = ap suc h
      go false h = h

  -- what no block has for its number stands in no list
  pub none_named : (n : ℕ) → Apart n f.blocks → (ids : List BlockId) → All (BlockIsThere f) ids → times_number n ids ≡ 0
  none_named n apart [] all = refl
  none_named n apart (x ∷ ids) all =
      ap (λ t. length (cond t (x ∷ filter (λ y. y.n == n) ids) (filter (λ y. y.n == n) ids)))
      (ne_eqb x.n n (λ same. other same (there_numbered x (all 0 x (omega arith)))))
      ∙ none_named n apart ids (All-tail (BlockIsThere f) x ids all)
    where
      other : x.n ≡ n → Any (λ (b : Block). x.n ≡ b.id.n) f.blocks → ⊥
      other same (k, b, within, is, named) = apart_at n f.blocks k b within is apart (sym same ∙ named)

  -- ---- the edges of a function

  pub outgoing_of : (e : Edge) (s : Block) (k : ℕ) → k < length f.blocks → get_or f.blocks k s ≡ s → e.source ≡ s.id.n
      → count e (all_outgoing f) ≡ times_number e.target s.succs
  outgoing_of e s k within is here =
      one_lists outgoing e e.source (λ b other. none_from e b.id.n b.succs other) f.blocks k s within is
      (all_apart f.blocks whole.blocks_differ) here
      ∙ counted_from e s.id.n s.succs here

  pub incoming_of : (e : Edge) (t : Block) (k : ℕ) → k < length f.blocks → get_or f.blocks k t ≡ t → e.target ≡ t.id.n
      → count e (all_incoming f) ≡ times_number e.source t.preds
  incoming_of e t k within is here =
      one_lists incoming e e.target (λ b other. none_to e b.id.n b.preds other) f.blocks k t within is
      (all_apart f.blocks whole.blocks_differ) here
      ∙ counted_to e t.id.n t.preds here

  pub no_outgoing : (e : Edge) → Apart e.source f.blocks → count e (all_outgoing f) ≡ 0
  no_outgoing e apart = none_lists outgoing e e.source (λ b other. none_from e b.id.n b.succs other) f.blocks apart

  pub no_incoming : (e : Edge) → Apart e.target f.blocks → count e (all_incoming f) ≡ 0
  no_incoming e apart = none_lists incoming e e.target (λ b other. none_to e b.id.n b.preds other) f.blocks apart
