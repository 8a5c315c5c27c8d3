-- From the least number on a cycle to the least place that fails the check Cycle; and what earlier checks give to
-- blocks.
use Rattle.std.proofs.Common.{◌≡◌, ◌≢◌, ℕ, zero, suc, ◌+◌, nat_lt, ◌≤◌, ◌⊎◌, inl, inr, Bool, true, false}
use Rattle.std.proofs.Common.{if◌then◌else◌, List, [], ◌∷◌, ◌++◌, length, get_or, map, Option, None, Some, MatchOption}
use Rattle.std.proofs.Common.{refl, subst, sym, ap, ◌∙◌, arith}
use Rattle.std.specs.List.{All, AllPairs, Any, flat_map}
use Rattle.std.proofs.lemmas.Bool.{eqb-true, ltb-false, ltb-true, true_from_ne_false}
use Rattle.std.proofs.lemmas.List.{get_or-append-add, get_or_append_left, length-append, length-map}
use Rattle.std.proofs.lemmas.List.Quantifiers.{Any-push}
use Rattle.std.proofs.lemmas.Option.{get_or_from_slice_get, slice_get-get_or, slice_get_within}
use Rattle.gossa_base.specs.declared.ids.ValueId.{ValueId}
use Rattle.ssa_ir.specs.declared.op.Op.{Op}
use Rattle.ssa_ir.specs.declared.op.Op.TheVariants.{SelectN}
use Rattle.ssa_ir.specs.declared.func.Block.{Block}
use Rattle.ssa_ir.specs.declared.func.Func.{Func}
use Rattle.ssa_ir.specs.declared.func.SsaUnit.{SsaUnit}
use Rattle.ssa_ir.specs.declared.func.Value.{Value}
use Rattle.ssa_ir.specs.OpKinds.{is_follower}
use Rattle.ssa_ir.specs.Lookups.{values_of}
use Rattle.ssa_ir.specs.Ops.{row_of}
use Rattle.ssa_ir.specs.WellFormed.{WellFormedFunc}
use Rattle.ssa_check.specs.declared.refusal.At.{At as Where}
use Rattle.ssa_check.specs.declared.refusal.At.TheVariants.{Func as AtFunc, Value as AtValue, Block as AtBlock}
use Rattle.ssa_check.specs.declared.refusal.Check.TheVariants.{Arity, Cycle}
use Rattle.ssa_check.specs.Failing.{FailsAt, IsBefore, LeastPlace, Meets, at_value}
use Rattle.block_order.specs.LowestOnCycle.{HasItems, IsLeast, IsOnCycle}
use Rattle.ssa_check.specs.tables.Lowest.{lower_of}
use Rattle.ssa_check.specs.ValueChecks.{arity_holds, is_number_of}
use Rattle.gossa_base.proofs.ListPlaces.{At, any_from_at}
use Rattle.graphs.proofs.AnyLemmas.{any_none, any_front, any_push_cases}

-- ---- the least place

any_map : {X : Type 0} {P Q : X → Type 0} → ((x : X) → P x → Q x) → (xs : List X) → Any P xs → Any Q xs
any_map each xs (k, x, within, is, p) = (k, x, within, is, each x p)

-- the number of a value of a function that is on a cycle of its block
abbrev pub OnCycleOf : List Block → ℕ → Type 0
OnCycleOf blocks n = Any (λ (b : Block). IsOnCycle b.values n) blocks

module _ (u : SsaUnit) (f : Func) where
  fails_number : (id : ValueId) → FailsAt Cycle u f (AtValue id) → OnCycleOf f.blocks id.0
  fails_number id fails =
      any_map (λ (b : Block). any_map (λ (v : Value) p. (ap (λ (w : ValueId). w.0) p.0, p.1)) b.values) f.blocks fails

  number_fails : (n : ℕ) → OnCycleOf f.blocks n → FailsAt Cycle u f (AtValue (record { 0 = n }))
  number_fails n some =
      any_map (λ (b : Block). any_map (λ (v : Value) p. ((λ i. record { 0 = p.0 i }), p.1)) b.values) f.blocks some

  met : IsLeast None (OnCycleOf f.blocks) → Meets Cycle u f
  met none AtFunc fails = fails
  met none (AtValue id) fails = none id.0 (fails_number id fails)
  met none (AtBlock id) (k, b, within, is, p) = p.1

  least : (m : ℕ) → IsLeast (Some m) (OnCycleOf f.blocks) → (other : Where)
      → IsBefore other (AtValue (record { 0 = m })) → FailsAt Cycle u f other → ⊥
  least m h AtFunc before fails = fails
  least m h (AtValue id) before fails = omega (arith, before, h.1 id.0 (fails_number id fails))
  least m h (AtBlock id) before fails = absurd before

  pub cycle_place : (r : Option ℕ) → IsLeast r (OnCycleOf f.blocks)
      → MatchOption (at_value r) (Meets Cycle u f) (LeastPlace Cycle u f)
  cycle_place None h = met h
  cycle_place (Some m) h = record { fails = number_fails m h.0; least = least m h }

-- ---- what earlier checks give

follower_arity : (op : Op) (n : ℕ) → is_follower op ≡ true → is_number_of (row_of op).arity n ≡ true → n ≡ 1
follower_arity SelectN n follows h = eqb-true n 1 h
follower_arity _ n follows h = cc

-- a function that meets the check Arity has selects of one argument
selects_one : (u : SsaUnit) (f : Func) → Meets Arity u f → (k : ℕ) (b : Block) → At f.blocks k b
    → All (λ (v : Value). is_follower v.op ≡ true → length v.args ≡ 1) b.values
selects_one u f meets k b at i d within follows =
    let v : Value = get_or b.values i d in
    follower_arity v.op (length v.args) follows (true_from_ne_false (arity_holds v) (λ fails. meets (AtValue v.id)
    (any_from_at (λ (c : Block). Any (λ (w : Value). (w.id ≡ v.id) × (arity_holds w ≡ false)) c.values) f.blocks k b at
    (any_from_at (λ (w : Value). (w.id ≡ v.id) × (arity_holds w ≡ false)) b.values i v
    (slice_get-get_or b.values i d within) (refl, fails)))))

get_or_map : {X Y : Type 0} (g : X → Y) (xs : List X) (i : ℕ) (d : X) → get_or (map g xs) i (g d) ≡ g (get_or xs i d)
get_or_map g [] i d = refl
get_or_map g (x ∷ xs) zero d = refl
get_or_map g (x ∷ xs) (suc i) d = get_or_map g xs i d

abbrev Apart : List Value → Type 0
Apart values = AllPairs (λ (v w : Value). v.id.0 ≢ w.id.0) values

apart_from : (values : List Value) → AllPairs (λ a b. a ≢ b) (map (λ (v : Value). v.id.0) values) → Apart values
apart_from values h i j d before within same =
    h i j d.id.0 before (omega (arith, within, length-map values (λ (v : Value). v.id.0)))
    (get_or_map (λ (v : Value). v.id.0) values i d ∙ same ∙ sym (get_or_map (λ (v : Value). v.id.0) values j d))

apart_left : (xs ys : List Value) → Apart (xs ++ ys) → Apart xs
apart_left xs ys h i j d before within same =
    h i j d before (omega (arith, within, length-append xs ys))
    (ap (λ (v : Value). v.id.0) (get_or_append_left xs ys d i (omega (arith, before, within))) ∙ same
    ∙ sym (ap (λ (v : Value). v.id.0) (get_or_append_left xs ys d j within)))

apart_right : (xs ys : List Value) → Apart (xs ++ ys) → Apart ys
apart_right xs ys h i j d before within same =
    h (length xs + i) (length xs + j) d (omega (arith, before)) (omega (arith, within, length-append xs ys))
    (ap (λ (v : Value). v.id.0) (get_or-append-add xs ys i d) ∙ same
    ∙ sym (ap (λ (v : Value). v.id.0) (get_or-append-add xs ys j d)))

-- a number of the front isn't behind it
apart_both : (xs ys : List Value) → Apart (xs ++ ys) → (i j : ℕ) (v w : Value) → At xs i v → At ys j w
    → v.id.0 ≡ w.id.0 → ⊥
apart_both xs ys h i j v w at_v at_w same =
    h i (length xs + j) v (omega (arith, slice_get_within xs i v at_v))
    (omega (arith, slice_get_within ys j w at_w, length-append xs ys))
    (ap (λ (z : Value). z.id.0)
    (get_or_append_left xs ys v i (slice_get_within xs i v at_v) ∙ get_or_from_slice_get xs i v v at_v) ∙ same
    ∙ sym (ap (λ (z : Value). z.id.0) (get_or-append-add xs ys j v ∙ get_or_from_slice_get ys j w v at_w)))

abbrev all_values : List Block → List Value
all_values blocks = flat_map (λ (b : Block). b.values) blocks

apart_block : (blocks : List Block) → Apart (all_values blocks) → (k : ℕ) (b : Block) → At blocks k b → Apart b.values
apart_block [] h k b at = cc
apart_block (c ∷ blocks) h zero b at =
    let one : c ≡ b = cc in
    subst (λ (z : Block). Apart z.values) one (apart_left c.values (all_values blocks) h)
apart_block (c ∷ blocks) h (suc k) b at = apart_block blocks (apart_right c.values (all_values blocks) h) k b at

pub has_items : (u : SsaUnit) (f : Func) → WellFormedFunc f → Meets Arity u f → (k : ℕ) (b : Block) → At f.blocks k b
    → HasItems b.values
has_items u f well meets k b at = record {
  numbers_differ = apart_block f.blocks (apart_from (values_of f) well.values_differ) k b at;
  selects_one = selects_one u f meets k b at;
}

-- ---- a number stands in one block

at_front : {X : Type 0} (xs ys : List X) (i : ℕ) (x : X) → At xs i x → At (xs ++ ys) i x
at_front [] ys i x at = cc
at_front (y ∷ xs) ys zero x at = at
at_front (y ∷ xs) ys (suc i) x at = at_front xs ys i x at

at_back : {X : Type 0} (xs ys : List X) (i : ℕ) (x : X) → At ys i x → (j : ℕ) × At (xs ++ ys) j x
at_back [] ys i x at = (i, at)
at_back (y ∷ xs) ys i x at = let there : (j : ℕ) × At (xs ++ ys) j x = at_back xs ys i x at in (suc there.0, there.1)

at_all : (blocks : List Block) (k : ℕ) (b : Block) (i : ℕ) (v : Value) → At blocks k b → At b.values i v
    → (j : ℕ) × At (all_values blocks) j v
at_all [] k b i v at at_v = cc
at_all (c ∷ blocks) zero b i v at at_v =
    let one : b ≡ c = cc in
    (i, at_front c.values (all_values blocks) i v (subst (λ (z : Block). At z.values i v) one at_v))
at_all (c ∷ blocks) (suc k) b i v at at_v =
    let there : (j : ℕ) × At (all_values blocks) j v = at_all blocks k b i v at at_v in
    at_back c.values (all_values blocks) there.0 v there.1

one_in : (blocks : List Block) → Apart (all_values blocks) → (j k : ℕ) (b c : Block) → At blocks j b → At blocks k c
    → (i l : ℕ) (v w : Value) → At b.values i v → At c.values l w → v.id.0 ≡ w.id.0 → b ≡ c
one_in [] apart j k b c at_b at_c i l v w at_v at_w same = cc
one_in (d ∷ blocks) apart zero zero b c at_b at_c i l v w at_v at_w same =
    let one : d ≡ b = cc in let other : d ≡ c = cc in sym one ∙ other
one_in (d ∷ blocks) apart zero (suc k) b c at_b at_c i l v w at_v at_w same =
    let one : b ≡ d = cc in
    let behind : (m : ℕ) × At (all_values blocks) m w = at_all blocks k c l w at_c at_w in
    absurd (apart_both d.values (all_values blocks) apart i behind.0 v w
    (subst (λ (z : Block). At z.values i v) one at_v) behind.1 same)
one_in (d ∷ blocks) apart (suc j) zero b c at_b at_c i l v w at_v at_w same =
    let one : c ≡ d = cc in
    let behind : (m : ℕ) × At (all_values blocks) m v = at_all blocks j b i v at_b at_v in
    absurd (apart_both d.values (all_values blocks) apart l behind.0 w v
    (subst (λ (z : Block). At z.values l w) one at_w) behind.1 (sym same))
one_in (d ∷ blocks) apart (suc j) (suc k) b c at_b at_c i l v w at_v at_w same =
    one_in blocks (apart_right d.values (all_values blocks) apart) j k b c at_b at_c i l v w at_v at_w same

pub one_standing : (f : Func) → WellFormedFunc f → (j k : ℕ) (b c : Block) → At f.blocks j b → At f.blocks k c
    → (i l : ℕ) (v w : Value) → At b.values i v → At c.values l w → v.id.0 ≡ w.id.0 → b ≡ c
one_standing f well = one_in f.blocks (apart_from (values_of f) well.values_differ)

-- ---- the least over blocks

pub same_least : (r : Option ℕ) (A B : ℕ → Type 0) → ((n : ℕ) → A n → B n) → ((n : ℕ) → B n → A n) → IsLeast r A
    → IsLeast r B
same_least None A B there back h = λ n b. h n (back n b)
same_least (Some m) A B there back h = (there m h.0, λ n b. h.1 n (back n b))

lower_by : (m n : ℕ) (A B : ℕ → Type 0) → IsLeast (Some m) A → IsLeast (Some n) B → (b : Bool) → nat_lt n m ≡ b
    → IsLeast (Some (if b then n else m)) (λ k. A k ⊎ B k)
lower_by m n A B a b true e = (inr b.0, least)
  where
    least : (k : ℕ) → A k ⊎ B k → n ≤ k
    least k (inl is) = omega (arith, a.1 k is, ltb-true n m e)
    least k (inr is) = b.1 k is
lower_by m n A B a b false e = (inl a.0, least)
  where
    least : (k : ℕ) → A k ⊎ B k → m ≤ k
    least k (inl is) = a.1 k is
    least k (inr is) = omega (arith, b.1 k is, ltb-false n m e)

-- the lower of the least of two kinds is the least of both
pub lower_is_least : (r s : Option ℕ) (A B : ℕ → Type 0) → IsLeast r A → IsLeast s B
    → IsLeast (lower_of r s) (λ k. A k ⊎ B k)
lower_is_least None None A B a b = none
  where
    none : (k : ℕ) → A k ⊎ B k → ⊥
    none k (inl is) = a k is
    none k (inr is) = b k is
lower_is_least None (Some n) A B a b = (inr b.0, least)
  where
    least : (k : ℕ) → A k ⊎ B k → n ≤ k
    least k (inl is) = absurd (a k is)
    least k (inr is) = b.1 k is
lower_is_least (Some m) None A B a b = (inl a.0, least)
  where
    least : (k : ℕ) → A k ⊎ B k → m ≤ k
    least k (inl is) = a.1 k is
    least k (inr is) = absurd (b k is)
lower_is_least (Some m) (Some n) A B a b = lower_by m n A B a b (nat_lt n m) refl

pub none_yet : IsLeast None (OnCycleOf [])
none_yet n some = any_none some

-- one more block
pub one_more_block : (front : List Block) (b : Block) (r s : Option ℕ) → IsLeast r (OnCycleOf front)
    → IsLeast s (IsOnCycle b.values)
    → IsLeast (lower_of r s) (OnCycleOf (front ++ b ∷ []))
one_more_block front b r s before here =
    same_least (lower_of r s) (λ k. OnCycleOf front k ⊎ IsOnCycle b.values k) (OnCycleOf (front ++ b ∷ [])) there back
    (lower_is_least r s (OnCycleOf front) (IsOnCycle b.values) before here)
  where
    there : (k : ℕ) → OnCycleOf front k ⊎ IsOnCycle b.values k → OnCycleOf (front ++ b ∷ []) k
    there k (inl some) = any_front front (b ∷ []) some
    there k (inr is) = Any-push (λ (c : Block). IsOnCycle c.values k) front b is

    back : (k : ℕ) → OnCycleOf (front ++ b ∷ []) k → OnCycleOf front k ⊎ IsOnCycle b.values k
    back k some = any_push_cases front b some
