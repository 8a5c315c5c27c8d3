-- The block in which a value stands, by its place: no two blocks have one value, and no two one number.
use Rattle.std.proofs.Common.{◌≡◌, ℕ, zero, suc, ◌+◌, ◌<◌, ◌⊎◌, inl, inr, Bool, true, false, ◌&&◌, ◌||◌, ◌==◌, List, []}
use Rattle.std.proofs.Common.{◌∷◌, ◌++◌, length, get_or, map, flat_map, slice_get, Contains, Bor, Option, None, Some}
use Rattle.std.proofs.Common.{MatchOption, option_copied, refl, sym, ap, subst, ◌∙◌, true≢false, zero-add}
use Rattle.std.proofs.Common.{if◌then◌else◌, arith}
use Rattle.std.specs.Bool.{beq}
use Rattle.std.specs.Option.{option_or}
use Rattle.std.specs.Slice.{IsItemAt}
use Rattle.std.proofs.lemmas.Bool.{and_from, and_parts, cases_order, eqb-true, eq-eqb, false_from_ne_true, or_left}
use Rattle.std.proofs.lemmas.Bool.{or_right}
use Rattle.std.proofs.lemmas.List.{length-append, length-map, map-append, get_or_append_left, get_or-append-add}
use Rattle.std.proofs.lemmas.List.{get_or-map}
use Rattle.std.proofs.lemmas.List.Folds.{Any-from_list_any, list_any-append}
use Rattle.std.proofs.lemmas.Option.{get_or_from_slice_get, none-some, slice_get-get_or}
use Rattle.gossa_base.specs.declared.ids.ValueId.{ValueId}
use Rattle.ssa_ir.specs.declared.func.Block.{Block}
use Rattle.ssa_ir.specs.declared.func.Func.{Func}
use Rattle.ssa_ir.specs.declared.func.Value.{Value}
use Rattle.ssa_ir.specs.Edges.{same_block}
use Rattle.ssa_ir.specs.FirstOrder.{has_value, same_value}
use Rattle.ssa_ir.specs.WellFormed.{Differ, WellFormedFunc}
use Rattle.ssa_tables.specs.declared.values.Place.{Place}
use Rattle.ssa_tables.specs.Places.{places_in, places_from, places_of, place_in}
use Rattle.gossa_base.proofs.ListPlaces.{item_copied}

-- ---- a value stands in one block

abbrev numbers : List Value → List ℕ
numbers values = map (λ v. v.id.0) values

-- a number that is on both sides
twice : (xs ys : List ℕ) (n : ℕ) → Differ (xs ++ ys) → Contains xs n → Contains ys n → ⊥
twice xs ys n differ (i, lt, is) (j, later, also) =
    differ i (length xs + j) n (omega (arith, lt)) (omega (arith, later, length-append xs ys))
    (get_or_append_left xs ys n i lt ∙ is ∙ sym also ∙ sym (get_or-append-add xs ys j n))

differ_behind : (xs ys : List ℕ) → Differ (xs ++ ys) → Differ ys
differ_behind xs ys differ i j d lt within same =
    differ (length xs + i) (length xs + j) d (omega (arith, lt)) (omega (arith, within, length-append xs ys))
    (get_or-append-add xs ys i d ∙ same ∙ sym (get_or-append-add xs ys j d))

has_number : (values : List Value) (id : ValueId) → has_value values id ≡ true
    → Contains (map (λ v. v.id.0) values) id.0
has_number values id has = by_place (Any-from_list_any (λ v. same_value v.id id) values has)
  where
    by_place : (k : ℕ) × (v : Value) × (k < length values) × (get_or values k v ≡ v) × (same_value v.id id ≡ true)
        → Contains (map (λ v. v.id.0) values) id.0
    by_place (k, v, lt, is, same) = (
      k,
      omega (arith, lt, length-map values (λ (w : Value). w.id.0)),
      get_or-map (λ (w : Value). w.id.0) values k v id.0 lt ∙ ap (λ (w : Value). w.id.0) is
          ∙ eqb-true v.id.0 id.0 same,
    )

abbrev all_values : List Block → List Value
all_values blocks = flat_map (λ b. b.values) blocks

in_some : (blocks : List Block) (id : ValueId) (i : ℕ) (d : Block) → i < length blocks
    → has_value (get_or blocks i d).values id ≡ true → has_value (all_values blocks) id ≡ true
in_some [] id i d lt has = absurd (omega (arith, lt))
in_some (b ∷ blocks) id zero d lt has =
    list_any-append (λ v. same_value v.id id) b.values (all_values blocks)
    ∙ or_left (has_value b.values id) (has_value (all_values blocks) id) has
in_some (b ∷ blocks) id (suc i) d lt has =
    list_any-append (λ v. same_value v.id id) b.values (all_values blocks)
    ∙ or_right (has_value b.values id) (has_value (all_values blocks) id)
    (in_some blocks id i d (omega (arith, lt)) has)

-- the numbers of a block, and those of the blocks behind it
parted : (b : Block) (blocks : List Block) → Differ (numbers (all_values (b ∷ blocks)))
    → Differ (numbers b.values ++ numbers (all_values blocks))
parted b blocks differ = subst Differ (map-append (λ (v : Value). v.id.0) b.values (all_values blocks)) differ

two_blocks : (blocks : List Block) (id : ValueId) (i j : ℕ) (d : Block) → Differ (numbers (all_values blocks)) → i < j
    → j < length blocks
    → has_value (get_or blocks i d).values id ≡ true → has_value (get_or blocks j d).values id ≡ true → ⊥
two_blocks [] id i j d differ before within here later = omega (arith, within)
two_blocks (b ∷ blocks) id i zero d differ before within here later = omega (arith, before)
two_blocks (b ∷ blocks) id zero (suc j) d differ before within here later =
    twice (numbers b.values) (numbers (all_values blocks)) id.0 (parted b blocks differ) (has_number b.values id here)
    (has_number (all_values blocks) id (in_some blocks id j d (omega (arith, within)) later))
two_blocks (b ∷ blocks) id (suc i) (suc j) d differ before within here later =
    two_blocks blocks id i j d (differ_behind (numbers b.values) (numbers (all_values blocks)) (parted b blocks differ))
    (omega (arith, before)) (omega (arith, within)) here later

-- ---- the place of a value is in the block that has it

place_in-append : (xs ys : List (ℕ × Place)) (id : ValueId)
    → place_in (xs ++ ys) id ≡ option_or (place_in xs id) (place_in ys id)
place_in-append [] ys id = refl
place_in-append ((n, place) ∷ xs) ys id =
    ap (λ rest. if n == id.0 then Some place else rest) (place_in-append xs ys id)
    ∙ either (n == id.0) place (place_in xs id) (place_in ys id)
  where
    either : (b : Bool) (p : Place) (rest more : Option Place)
        → (if b then Some p else option_or rest more) ≡ option_or (if b then Some p else rest) more
    either true p rest more = refl
    either false p rest more = refl

abbrev InBlock : ℕ → Bool → Option Place → Type 0
InBlock block has place = MatchOption place (has ≡ false) (λ p. (p.block ≡ block) × (has ≡ true))

here_or_later : (b has : Bool) (place : Place) (block : ℕ) (rest : Option Place) → place.block ≡ block
    → InBlock block has rest
    → InBlock block (b || has) (if b then Some place else rest)
here_or_later true has place block rest is later = (is, refl)
here_or_later false has place block rest is later = later

in_block : (block i : ℕ) (values : List Value) (id : ValueId)
    → InBlock block (has_value values id) (place_in (places_in block i values) id)
in_block block i [] id = refl
in_block block i (v ∷ values) id =
    here_or_later (v.id.0 == id.0) (has_value values id) (record { block = block; index = i }) block
    (place_in (places_in block (suc i) values) id) refl (in_block block (suc i) values id)

-- what the place of a value says of the blocks from number b on
abbrev IsHome : ℕ → List Block → ValueId → Option Place → Type 0
IsHome b blocks id None = (i : ℕ) (d : Block) → i < length blocks → has_value (get_or blocks i d).values id ≡ false
IsHome b blocks id (Some p) =
    (i : ℕ) × (p.block ≡ b + i) × (i < length blocks) × ((d : Block) → has_value (get_or blocks i d).values id ≡ true)

first_or_later : (b : ℕ) (x : Block) (blocks : List Block) (id : ValueId) (first later : Option Place)
    → InBlock b (has_value x.values id) first → IsHome (suc b) blocks id later
    → IsHome b (x ∷ blocks) id (option_or first later)
first_or_later b x blocks id (Some p) later here rest = (zero, omega (arith, here.0), omega arith, λ d. here.1)
first_or_later b x blocks id None (Some p) here (i, block, lt, has) =
    (suc i, omega (arith, block), omega (arith, lt), has)
first_or_later b x blocks id None None here rest = nowhere
  where
    nowhere : (i : ℕ) (d : Block) → i < length (x ∷ blocks) → has_value (get_or (x ∷ blocks) i d).values id ≡ false
    nowhere zero d lt = here
    nowhere (suc i) d lt = rest i d (omega (arith, lt))

home : (b : ℕ) (blocks : List Block) (id : ValueId) → IsHome b blocks id (place_in (places_from b blocks) id)
home b [] id = λ i d lt. absurd (omega (arith, lt))
home b (x ∷ blocks) id =
    subst (IsHome b (x ∷ blocks) id) (sym (place_in-append (places_in b 0 x.values) (places_from (suc b) blocks) id))
    (first_or_later b x blocks id (place_in (places_in b 0 x.values) id) (place_in (places_from (suc b) blocks) id)
    (in_block b 0 x.values id) (home (suc b) blocks id))

-- ---- whether a value stands in a block

same_itself : (b : Block) → same_block b.id b.id ≡ true
same_itself b = and_from (b.id.n == b.id.n) (beq b.id.split b.id.split) (eq-eqb b.id.n b.id.n refl) (alike b.id.split)
  where
    alike : (s : Bool) → beq s s ≡ true
    alike true = refl
    alike false = refl

-- the parts of a block's number in the other order
pub same_parts : (a b : Block) → (beq a.id.split b.id.split && (a.id.n == b.id.n)) ≡ same_block a.id b.id
same_parts a b = swapped (beq a.id.split b.id.split) (a.id.n == b.id.n)
  where
    swapped : (x y : Bool) → (x && y) ≡ (y && x)
    swapped true true = refl
    swapped true false = refl
    swapped false true = refl
    swapped false false = refl

-- blocks of one number stand at one place
same_place : (blocks : List Block) (i k : ℕ) (d : Block) → Differ (map (λ b. b.id.n) blocks) → i < length blocks
    → k < length blocks
    → (get_or blocks i d).id.n ≡ (get_or blocks k d).id.n → i ≡ k
same_place blocks i k d differ lt within same = by_order (cases_order i k)
  where
    number_at : (j : ℕ) → j < length blocks
        → get_or (map (λ (b : Block). b.id.n) blocks) j 0 ≡ (get_or blocks j d).id.n
    number_at j h = get_or-map (λ (b : Block). b.id.n) blocks j d 0 h

    count : length (map (λ (b : Block). b.id.n) blocks) ≡ length blocks
    count = length-map blocks (λ (b : Block). b.id.n)

    by_order : (i ≡ k) ⊎ ((i < k) ⊎ (k < i)) → i ≡ k
    by_order (inl e) = e
    by_order (inr (inl before)) =
        absurd (differ i k 0 before (omega (arith, within, count)) (number_at i lt ∙ same ∙ sym (number_at k within)))
    by_order (inr (inr behind)) =
        absurd (differ k i 0 behind (omega (arith, lt, count)) (number_at k within ∙ sym same ∙ sym (number_at i lt)))

module _ (f : Func) (whole : WellFormedFunc f) (b : Block) (there : Contains f.blocks b) (id : ValueId) where
  -- a value that has no place stands in no block
  pub not_placed : place_in (places_of f) id ≡ None → has_value b.values id ≡ false
  not_placed none =
      ap (λ (x : Block). has_value x.values id) (sym there.2)
      ∙ subst (IsHome 0 f.blocks id) none (home 0 f.blocks id) there.0 b there.1

  module _ (h : Block) (i : ℕ) (lt : i < length f.blocks) (at : get_or f.blocks i b ≡ h)
      (has : has_value h.values id ≡ true) where
    at_home : i ≡ there.0 → h ≡ b
    at_home e = sym at ∙ ap (λ j. get_or f.blocks j b) e ∙ there.2

    not_elsewhere : same_block h.id b.id ≡ false → (i ≡ there.0) ⊎ ((i < there.0) ⊎ (there.0 < i))
        → has_value b.values id ≡ true → ⊥
    not_elsewhere other (inl e) also =
        true≢false (sym (ap (λ (x : Block). same_block x.id b.id) (at_home e) ∙ same_itself b) ∙ other)
    not_elsewhere other (inr (inl before)) also =
        two_blocks f.blocks id i there.0 b whole.values_differ before there.1
        (ap (λ (x : Block). has_value x.values id) at ∙ has) (ap (λ (x : Block). has_value x.values id) there.2 ∙ also)
    not_elsewhere other (inr (inr behind)) also =
        two_blocks f.blocks id there.0 i b whole.values_differ behind lt
        (ap (λ (x : Block). has_value x.values id) there.2 ∙ also) (ap (λ (x : Block). has_value x.values id) at ∙ has)

    by_number : (same : Bool) → same_block h.id b.id ≡ same → has_value b.values id ≡ same
    by_number true e =
        let number : h.id.n ≡ b.id.n
        = eqb-true h.id.n b.id.n (and_parts (h.id.n == b.id.n) (beq h.id.split b.id.split) e).0 in
        let both : (get_or f.blocks i b).id.n ≡ (get_or f.blocks there.0 b).id.n
        = ap (λ (x : Block). x.id.n) at ∙ number ∙ ap (λ (x : Block). x.id.n) (sym there.2) in
        let home_is : h ≡ b = at_home (same_place f.blocks i there.0 b whole.blocks_differ lt there.1 both) in
        ap (λ (x : Block). has_value x.values id) (sym home_is) ∙ has
    by_number false e = false_from_ne_true (has_value b.values id) (not_elsewhere e (cases_order i there.0))

  -- a value that has a place stands in the block that `get` gives at its index
  pub placed : (p : Place) → place_in (places_of f) id ≡ Some p → (blocks : List Block) → blocks ≡ f.blocks
      → (r : Option (Bor Block)) → IsItemAt blocks p.block r
      → MatchOption r ⊥ (λ h. has_value b.values id ≡ same_block h.now.id b.id)
  placed p is blocks same r item =
      by_home (subst (IsHome 0 f.blocks id) is (home 0 f.blocks id)) r
      (ap (λ (l : List Block). slice_get l p.block) (sym same) ∙ sym (item_copied blocks p.block r item))
    where
      by_home : IsHome 0 f.blocks id (Some p) → (o : Option (Bor Block))
          → slice_get f.blocks p.block ≡ option_copied o
          → MatchOption o ⊥ (λ h. has_value b.values id ≡ same_block h.now.id b.id)
      by_home (i, block, lt, has) None get =
          none-some (get_or f.blocks i b)
          (sym get ∙ ap (slice_get f.blocks) (block ∙ zero-add i) ∙ slice_get-get_or f.blocks i b lt)
      by_home (i, block, lt, has) (Some h) get =
          let at : get_or f.blocks i b ≡ h.now
          = get_or_from_slice_get f.blocks i h.now b (ap (slice_get f.blocks) (sym (block ∙ zero-add i)) ∙ get) in
          by_number h.now i lt at (ap (λ (x : Block). has_value x.values id) (sym at) ∙ has b)
          (same_block h.now.id b.id) refl
