-- The names of a function's blocks in a table: each goes behind those before it, and its place is the index of its
-- block.
use Rattle.std.proofs.Common.{◌≡◌, ℕ, suc, ◌+◌, ◌<◌, Bool, true, false, cond, not, ◌&&◌, eqb, nat_eq, nat_lt, List, []}
use Rattle.std.proofs.Common.{◌∷◌, ◌++◌, length, map, get_or, position, slice_get, take, None, Some, All, refl, sym, ap}
use Rattle.std.proofs.Common.{subst, ◌∙◌, if◌then◌else◌, arith}
use Rattle.std.specs.Bool.{beq}
use Rattle.std.specs.List.{list_any, position_or_len}
use Rattle.std.proofs.lemmas.Bool.{and_parts, eqb-true, false_from_ne_true, ltb-false}
use Rattle.std.proofs.lemmas.Bool.Decides.{nat_tests}
use Rattle.std.proofs.lemmas.List.{get_or-map, get_or-take, length-map, length-take, take_more, map-append}
use Rattle.std.proofs.lemmas.List.Folds.{list_any_none}
use Rattle.std.proofs.lemmas.List.Sums.{prefix_len-le-length}
use Rattle.indexmap.specs.IndexSet.{insert_key}
use Rattle.gossa_base.specs.declared.ids.BlockId.{BlockId}
use Rattle.ssa_ir.specs.declared.func.Block.{Block}
use Rattle.ssa_ir.specs.Edges.{block_named, same_block}
use Rattle.ssa_ir.specs.WellFormed.{Differ}
use Rattle.ssa_tables.specs.Blocks.{index_in, names, place_of}

-- names are compared alike in the table and in the definition
pub same_either : (a b : BlockId) → (beq a.split b.split && nat_eq a.n b.n) ≡ same_block b a
same_either a b = go a.split b.split (swap a.n b.n)
  where
    swap : (m n : ℕ) → eqb m n ≡ eqb n m
    swap m n = grind (arith, nat_tests)

    left : (x : Bool) → false ≡ (x && false)
    left true = refl
    left false = refl

    right : (x : Bool) → x ≡ (x && true)
    right true = refl
    right false = refl

    go : (s t : Bool) → eqb a.n b.n ≡ eqb b.n a.n → (beq s t && nat_eq a.n b.n) ≡ (eqb b.n a.n && beq t s)
    go true true h = h ∙ right (eqb b.n a.n)
    go true false h = left (eqb b.n a.n)
    go false true h = left (eqb b.n a.n)
    go false false h = h ∙ right (eqb b.n a.n)

not_found : (t : Bool) (n : ℕ) → cond t (Some n) None ≡ None → t ≡ false
not_found true n none = cc
not_found false n none = refl

-- a name that no block has has their number for its place
pub place_of_none : {X : Type 0} (p q : X → Bool) (xs : List X) → ((x : X) → p x ≡ q x) → position p xs ≡ None
    → length xs ≡ position_or_len q xs
place_of_none {X} p q xs same none =
    omega (
      arith,
      prefix_len-le-length (λ x. not (p x)) xs,
      ltb-false (position_or_len p xs) (length xs)
          (not_found (nat_lt (position_or_len p xs) (length xs)) (position_or_len p xs) none),
    )
    ∙ ap (λ (t : X → Bool). position_or_len t xs) (λ i x. same x i)

-- ---- names that differ

-- the name of a block isn't among those before it
absent : (same : BlockId → BlockId → Bool) → ((a b : BlockId) → same a b ≡ true → a.n ≡ b.n) → (blocks : List Block)
    → Differ (map (λ b. b.id.n) blocks) → (i : ℕ) (d : Block) → i < length blocks
    → list_any (same (get_or blocks i d).id) (names (take i blocks)) ≡ false
absent same sound blocks differ i d within =
    list_any_none (same (get_or blocks i d).id) (names (take i blocks)) apart
  where
    number : (k : ℕ) → k < length blocks → get_or (map (λ (b : Block). b.id.n) blocks) k 0 ≡ (get_or blocks k d).id.n
    number k lt = get_or-map (λ (b : Block). b.id.n) blocks k d 0 lt

    apart : All (λ y. same (get_or blocks i d).id y ≡ false) (names (take i blocks))
    apart k e lt = false_from_ne_true (same (get_or blocks i d).id (get_or (names (take i blocks)) k e)) met
      where
        before : k < i
        before = omega (arith, lt, length-map (take i blocks) (λ (b : Block). b.id), length-take i blocks)

        there : get_or (names (take i blocks)) k e ≡ (get_or blocks k d).id
        there =
            get_or-map (λ (b : Block). b.id) (take i blocks) k d e
            (omega (arith, lt, length-map (take i blocks) (λ (b : Block). b.id)))
            ∙ ap (λ (b : Block). b.id) (get_or-take i blocks k d before)

        met : same (get_or blocks i d).id (get_or (names (take i blocks)) k e) ≡ true → ⊥
        met h =
            differ k i 0 before (omega (arith, within, length-map blocks (λ (b : Block). b.id.n)))
            (number k (omega (arith, before, within))
            ∙ sym (sound (get_or blocks i d).id (get_or blocks k d).id
            (subst (λ (y : BlockId). same (get_or blocks i d).id y ≡ true) there h))
            ∙ sym (number i within))

-- so it is put in behind them
pub name_put : (same : BlockId → BlockId → Bool) → ((a b : BlockId) → same a b ≡ true → a.n ≡ b.n)
    → (blocks : List Block)
    → Differ (map (λ b. b.id.n) blocks) → (i : ℕ) (b : Block) → i < length blocks → get_or blocks i b ≡ b
    → (keys : List BlockId) → keys ≡ names (take i blocks) → insert_key same keys b.id ≡ names (take (i + 1) blocks)
name_put same sound blocks differ i b within is keys are =
    ap (insert_key same keys) (ap (λ (x : Block). x.id) (sym is))
    ∙ ap (λ l. insert_key same l (get_or blocks i b).id) are
    ∙ ap (λ t. if t then names (take i blocks) else names (take i blocks) ++ (get_or blocks i b).id ∷ [])
    (absent same sound blocks differ i b within)
    ∙ sym (map-append (λ (x : Block). x.id) (take i blocks) (get_or blocks i b ∷ []))
    ∙ ap names (sym (take_more blocks i b within))

-- equal names have equal numbers
pub same_numbers : (a b : BlockId) → (beq a.split b.split && nat_eq a.n b.n) ≡ true → a.n ≡ b.n
same_numbers a b h = eqb-true a.n b.n (and_parts (beq a.split b.split) (nat_eq a.n b.n) h).1

-- ---- the block of a name

-- it stands at the place of the name
pub block_at : (blocks : List Block) (id : BlockId)
    → block_named blocks id ≡ slice_get blocks (position_or_len (λ name. same_block name id) (names blocks))
block_at [] id = refl
block_at (b ∷ blocks) id = go (same_block b.id id) (block_at blocks id)
  where
    place : ℕ
    place = position_or_len (λ name. same_block name id) (names blocks)

    go : (t : Bool) → block_named blocks id ≡ slice_get blocks place
        → cond t (Some b) (block_named blocks id) ≡ slice_get (b ∷ blocks) (cond (not t) (1 + place) 0)
    go true h = refl
    go false h = h ∙ ap (slice_get (b ∷ blocks)) {x = suc place} {y = 1 + place} (omega arith)

-- the place of a name is the index of its block
pub place_is : (blocks : List Block) (id : BlockId) → place_of (names blocks) id ≡ index_in blocks id
place_is [] id = refl
place_is (b ∷ blocks) id = go (same_block b.id id) (place_is blocks id)
  where
    go : (t : Bool) → place_of (names blocks) id ≡ index_in blocks id
        → cond (not t) (1 + place_of (names blocks) id) 0 ≡ cond t 0 (suc (index_in blocks id))
    go true rest = refl
    go false rest = omega (arith, rest)
