-- The table of uses: what one more block adds to it, and that it says of a block's control whether something else uses
-- it.
use Rattle.std.proofs.Common.{◌≡◌, ◌≢◌, ℕ, zero, suc, ◌<◌, Bool, true, false, cond, eqb, nat_eq, not, ◌&&◌, ◌||◌, List}
use Rattle.std.proofs.Common.{[], ◌∷◌, ◌++◌, length, get_or, flat_map, None, Some, Contains, refl, subst, sym, ap, ◌∙◌}
use Rattle.std.proofs.Common.{arith}
use Rattle.std.specs.Bool.{beq}
use Rattle.std.specs.List.{list_any}
use Rattle.std.proofs.lemmas.Bool.{eqb-true, ne_eqb, eq-eqb, and_left, and_right, or_right}
use Rattle.std.proofs.lemmas.List.{flat_map_more}
use Rattle.std.proofs.lemmas.List.Folds.{list_any-append}
use Rattle.gossa_base.specs.declared.ids.ValueId.{ValueId}
use Rattle.ssa_ir.specs.declared.func.Block.{Block}
use Rattle.ssa_ir.specs.declared.func.Func.{Func}
use Rattle.ssa_ir.specs.Edges.{same_block}
use Rattle.ssa_ir.specs.FirstOrder.{same_value}
use Rattle.ssa_ir.specs.WellFormed.{WellFormedFunc}
use Rattle.ssa_check.specs.declared.controls.UseTable.{UseTable}
use Rattle.ssa_check.specs.BlockChecks.{controls, is_used_elsewhere}
use Rattle.ssa_check.specs.tables.Uses.{is_noted, is_taken, is_control, several_pass, is_used_among, TellsOf}
use Rattle.ssa_check.proofs.EdgeCountLemmas.{Apart, AllApart, all_apart, apart_at}

-- ---- one more block

several_step : (p a t s : Bool) → ((p && (a || (t || false))) || (s || (a && t))) ≡ (((p && a) || s) || ((p || a) && t))
several_step false a t s = refl
several_step true true t s = refl
several_step true false true true = refl
several_step true false true false = refl
several_step true false false true = refl
several_step true false false false = refl

none_of_one : (t : Bool) → ((t && false) || false) ≡ false
none_of_one true = refl
none_of_one false = refl

several_with : {X : Type 0} (test : X → Bool) (xs : List X) (x : X)
    → several_pass test (xs ++ x ∷ []) ≡ (several_pass test xs || (list_any test xs && test x))
several_with test [] x = none_of_one (test x)
several_with test (y ∷ xs) x =
    (λ i. (test y && list_any-append test xs (x ∷ []) i) || several_with test xs x i)
    ∙ several_step (test y) (list_any test xs) (test x) (several_pass test xs)

or_false : (t : Bool) → (t || false) ≡ t
or_false true = refl
or_false false = refl

ends_with : (id : ValueId) (blocks : List Block) (b : Block)
    → list_any (is_control id) (blocks ++ b ∷ []) ≡ (list_any (is_control id) blocks || is_control id b)
ends_with id blocks b =
    list_any-append (is_control id) blocks (b ∷ [])
    ∙ ap (λ t. list_any (is_control id) blocks || t) (or_false (is_control id b))

taken_with : (id : ValueId) (blocks : List Block) (b : Block)
    → is_taken id (flat_map (λ (x : Block). x.values) (blocks ++ b ∷ []))
    ≡ (is_taken id (flat_map (λ (x : Block). x.values) blocks) || is_taken id b.values)
taken_with id blocks b =
    ap (λ values. is_taken id values) (sym (flat_map_more (λ (x : Block). x.values) [] blocks b))
    ∙ list_any-append (λ v. list_any (same_value id) v.args) (flat_map (λ (x : Block). x.values) blocks) b.values

in_turn : (t v s x : Bool) → ((t || v) || (s || x)) ≡ (((t || s) || v) || x)
in_turn true v s x = refl
in_turn false true true x = refl
in_turn false true false x = refl
in_turn false false true x = refl
in_turn false false false x = refl

used_with : (id : ValueId) (blocks : List Block) (b : Block)
    → is_used_among id (blocks ++ b ∷ [])
    ≡ ((is_used_among id blocks || is_taken id b.values) || (list_any (is_control id) blocks && is_control id b))
used_with id blocks b =
    (λ i. taken_with id blocks b i || several_with (is_control id) blocks b i)
    ∙ in_turn (is_taken id (flat_map (λ (x : Block). x.values) blocks)) (is_taken id b.values)
    (several_pass (is_control id) blocks) (list_any (is_control id) blocks && is_control id b)

-- a table that took note of one more block
told : (blocks : List Block) (b : Block) (old new : UseTable) → TellsOf blocks old
    → ((id : ValueId) → is_noted id new.used.keys
    ≡ ((is_noted id old.used.keys || is_taken id b.values) || (is_noted id old.ends.keys && is_control id b)))
    → ((id : ValueId) → is_noted id new.ends.keys ≡ (is_noted id old.ends.keys || is_control id b))
    → TellsOf (blocks ++ b ∷ []) new
told blocks b old new h used ends = record {
  used = λ id. used id
      ∙ (λ i. (h.used id i || is_taken id b.values) || (h.ends id i && is_control id b))
      ∙ sym (used_with id blocks b);
  ends = λ id. ends id ∙ ap (λ t. t || is_control id b) (h.ends id) ∙ sym (ends_with id blocks b);
}

put_one : (t e : Bool) → cond t true e ≡ (e || t)
put_one true true = refl
put_one true false = refl
put_one false true = refl
put_one false false = refl

no_more : (x e t : Bool) → t ≡ false → x ≡ (x || (e && t))
no_more x e t none = sym (or_false x) ∙ ap (λ y. x || y) (sym (and_right e t none))

noted_alike : (a b : ValueId) (numbers : List ℕ) → same_value a b ≡ true → is_noted b numbers ≡ is_noted a numbers
noted_alike a b numbers same = ap (λ n. list_any (nat_eq n) numbers) (sym (eqb-true a.0 b.0 same))

-- a block without a control
pub without_control : (blocks : List Block) (b : Block) (old new : UseTable) → TellsOf blocks old → b.control ≡ None
    → ((id : ValueId) → is_noted id new.used.keys ≡ (is_noted id old.used.keys || is_taken id b.values))
    → new.ends.keys ≡ old.ends.keys → TellsOf (blocks ++ b ∷ []) new
without_control blocks b old new h none used ends =
    told blocks b old new h
    (λ id. used id ∙ no_more (is_noted id old.used.keys || is_taken id b.values) (is_noted id old.ends.keys)
    (is_control id b) (no id))
    (λ id. ap (λ ks. is_noted id ks) ends ∙ sym (or_false (is_noted id old.ends.keys))
    ∙ ap (λ t. is_noted id old.ends.keys || t) (sym (no id)))
  where
    no : (id : ValueId) → is_control id b ≡ false
    no id = ap (λ o. controls id o) none

-- a control that is noted: whether it was before makes it used
with_control : (blocks : List Block) (b : Block) (a : ValueId) (old new : UseTable) → TellsOf blocks old
    → b.control ≡ Some a
    → ((id : ValueId) → is_noted id new.used.keys
    ≡ ((is_noted id old.used.keys || is_taken id b.values) || (is_noted id old.ends.keys && same_value a id)))
    → ((id : ValueId) → is_noted id new.ends.keys ≡ cond (same_value a id) true (is_noted id old.ends.keys))
    → TellsOf (blocks ++ b ∷ []) new
with_control blocks b a old new h some used ends =
    told blocks b old new h
    (λ id. used id
    ∙ ap (λ t. (is_noted id old.used.keys || is_taken id b.values) || (is_noted id old.ends.keys && t)) (its id))
    (λ id. ends id ∙ put_one (same_value a id) (is_noted id old.ends.keys)
    ∙ ap (λ t. is_noted id old.ends.keys || t) (its id))
  where
    its : (id : ValueId) → same_value a id ≡ is_control id b
    its id = ap (λ o. controls id o) (sym some)

-- a control that no block before ends by
pub first_control : (blocks : List Block) (b : Block) (a : ValueId) (old new : UseTable) → TellsOf blocks old
    → b.control ≡ Some a → is_noted a old.ends.keys ≡ false
    → ((id : ValueId) → is_noted id new.used.keys ≡ (is_noted id old.used.keys || is_taken id b.values))
    → ((id : ValueId) → is_noted id new.ends.keys ≡ cond (same_value a id) true (is_noted id old.ends.keys))
    → TellsOf (blocks ++ b ∷ []) new
first_control blocks b a old new h some fresh used ends =
    with_control blocks b a old new h some
    (λ id. used id ∙ sym (or_false (is_noted id old.used.keys || is_taken id b.values))
    ∙ ap (λ t. (is_noted id old.used.keys || is_taken id b.values) || t) (sym (neither id (same_value a id) refl))) ends
  where
    neither : (id : ValueId) (t : Bool) → same_value a id ≡ t → (is_noted id old.ends.keys && same_value a id) ≡ false
    neither id true same =
        and_left (is_noted id old.ends.keys) (same_value a id) (noted_alike a id old.ends.keys same ∙ fresh)
    neither id false other = and_right (is_noted id old.ends.keys) (same_value a id) other

-- a control that a block before ends by
pub shared_control : (blocks : List Block) (b : Block) (a : ValueId) (old new : UseTable) → TellsOf blocks old
    → b.control ≡ Some a → is_noted a old.ends.keys ≡ true
    → ((id : ValueId) → is_noted id new.used.keys
    ≡ cond (same_value a id) true (is_noted id old.used.keys || is_taken id b.values))
    → ((id : ValueId) → is_noted id new.ends.keys ≡ cond (same_value a id) true (is_noted id old.ends.keys))
    → TellsOf (blocks ++ b ∷ []) new
shared_control blocks b a old new h some there used ends =
    with_control blocks b a old new h some
    (λ id. used id ∙ put_one (same_value a id) (is_noted id old.used.keys || is_taken id b.values)
    ∙ ap (λ t. (is_noted id old.used.keys || is_taken id b.values) || t) (both id (same_value a id) refl)) ends
  where
    both : (id : ValueId) (t : Bool) → same_value a id ≡ t
        → same_value a id ≡ (is_noted id old.ends.keys && same_value a id)
    both id true same = ap (λ t. t && same_value a id) (sym (noted_alike a id old.ends.keys same ∙ there))
    both id false other = other ∙ sym (and_right (is_noted id old.ends.keys) (same_value a id) other)

-- ---- the control of a block

beq_refl : (t : Bool) → beq t t ≡ true
beq_refl true = refl
beq_refl false = refl

same_as_itself : (b : Block) → same_block b.id b.id ≡ true
same_as_itself b = (λ i. eq-eqb b.id.n b.id.n refl i && beq b.id.split b.id.split) ∙ beq_refl b.id.split

-- other blocks that pass a test
abbrev pub other_passes : (Block → Bool) → Block → Block → Bool
other_passes test b other = not (same_block other.id b.id) && test other

module _ (test : Block → Bool) (b : Block) where
  not_same : (other : Block) → b.id.n ≢ other.id.n → same_block other.id b.id ≡ false
  not_same other apart =
      and_left (eqb other.id.n b.id.n) (beq other.id.split b.id.split)
      (ne_eqb other.id.n b.id.n (λ same. apart (sym same)))

  other_is : (other : Block) → b.id.n ≢ other.id.n → other_passes test b other ≡ test other
  other_is other apart = ap (λ t. not t && test other) (not_same other apart)

  -- where the block itself is not among them
  others_are : (blocks : List Block) → Apart b.id.n blocks
      → list_any (other_passes test b) blocks ≡ list_any test blocks
  others_are [] apart = refl
  others_are (x ∷ blocks) apart = λ i. other_is x apart.0 i || others_are blocks apart.1 i

  several_is_some : (blocks : List Block) → (list_any test blocks || several_pass test blocks) ≡ list_any test blocks
  several_is_some [] = refl
  several_is_some (x ∷ blocks) = go (test x) (list_any test blocks) (several_pass test blocks) (several_is_some blocks)
    where
      go : (p a s : Bool) → (a || s) ≡ a → ((p || a) || ((p && a) || s)) ≡ (p || a)
      go true a s h = refl
      go false a s h = h

  stands_there : (blocks : List Block) (k : ℕ) → k < length blocks → get_or blocks k b ≡ b → test b ≡ true
      → list_any test blocks ≡ true
  stands_there [] k within is passes = absurd (omega (arith, within))
  stands_there (x ∷ blocks) zero within is passes =
      ap (λ t. t || list_any test blocks) (ap test is ∙ passes)
  stands_there (x ∷ blocks) (suc k) within is passes =
      or_right (test x) (list_any test blocks) (stands_there blocks k (omega (arith, within)) is passes)

  -- several pass where one does beside this one
  several_beside : (blocks : List Block) (k : ℕ) → k < length blocks → get_or blocks k b ≡ b → AllApart blocks
      → test b ≡ true
      → several_pass test blocks ≡ list_any (other_passes test b) blocks
  several_beside [] k within is apart passes = absurd (omega (arith, within))
  several_beside (x ∷ blocks) zero within is apart passes =
      ap (λ t. (t && list_any test blocks) || several_pass test blocks) (ap test is ∙ passes)
      ∙ several_is_some blocks
      ∙ sym (others_are blocks (subst (λ (y : Block). Apart y.id.n blocks) is apart.0))
      ∙ ap (λ t. (not t && test x) || list_any (other_passes test b) blocks)
      (sym (ap (λ (y : Block). same_block y.id b.id) is ∙ same_as_itself b))
  several_beside (x ∷ blocks) (suc k) within is apart passes =
      ap (λ t. (test x && t) || several_pass test blocks) (stands_there blocks k (omega (arith, within)) is passes)
      ∙ ap (λ t. t || several_pass test blocks) (and_true (test x))
      ∙ (λ i. sym (other_is x (λ same. apart_at x.id.n blocks k b (omega (arith, within)) is apart.0 (sym same))) i
      || several_beside blocks k (omega (arith, within)) is apart.1 passes i)
    where
      and_true : (t : Bool) → (t && true) ≡ t
      and_true true = refl
      and_true false = refl

-- the uses of a block's control are those by others
pub used_elsewhere : (f : Func) → WellFormedFunc f → (b : Block) → Contains f.blocks b → (id : ValueId)
    → is_control id b ≡ true
    → is_used_among id f.blocks ≡ is_used_elsewhere f b id
used_elsewhere f whole b there id is_its =
    ap (λ t. is_taken id (flat_map (λ (x : Block). x.values) f.blocks) || t)
    (several_beside (is_control id) b f.blocks there.0 there.1 there.2 (all_apart f.blocks whole.blocks_differ) is_its)
