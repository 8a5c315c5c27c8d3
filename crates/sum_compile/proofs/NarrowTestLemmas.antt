-- A function passes the test exactly where it is narrow.
use Rattle.std.proofs.Common.{◌≡◌, ◌==◌, ℕ, zero, suc, ◌+◌, ◌-◌, ◌≤◌, true, false, not, ◌&&◌, leb, List, [], ◌∷◌, ◌++◌}
use Rattle.std.proofs.Common.{length, get_or, take, replicate, Option, None, Some, slice_get, refl, sym, ap, subst, ◌∙◌}
use Rattle.std.proofs.Common.{arith}
use Rattle.std.specs.List.{list_all}
use Rattle.std.proofs.lemmas.Bool.{eqb-true, false≢true}
use Rattle.std.proofs.lemmas.List.{length-append, length-replicate}
use Rattle.std.proofs.lemmas.Option.{slice_get_within}
use Rattle.gossa_base.specs.declared.ids.ValueId.{ValueId}
use Rattle.ssa_ir.specs.declared.types.Scalar.{Scalar}
use Rattle.ssa_ir.specs.declared.types.Scalar.TheVariants.{I64}
use Rattle.ssa_ir.specs.declared.types.Sig.{Sig}
use Rattle.ssa_ir.specs.declared.func.Value.{Value}
use Rattle.ssa_ir.specs.declared.func.Kind.{Kind}
use Rattle.ssa_ir.specs.declared.func.Kind.TheVariants.{Ret}
use Rattle.ssa_ir.specs.declared.func.Block.{Block}
use Rattle.ssa_ir.specs.declared.func.Func.{Func}
use Rattle.sum_compile.specs.Narrow.{Step, init_value, result_value, values_from, narrow_block, block_of, narrow_sig}
use Rattle.sum_compile.specs.Narrow.{func_of, vid, IsAbove, StepsFit, takes_once, Narrow}
use Rattle.sum_compile.specs.NarrowTest.{is_int64, is_one_int64, is_init, are_steps, take_new, no_flags, is_last}
use Rattle.sum_compile.specs.NarrowTest.{is_result, are_body, are_narrow, is_ret, is_control, is_whole, is_narrow_block}
use Rattle.sum_compile.specs.NarrowTest.{is_narrow_sig, has_narrow_block, is_narrow}
use Rattle.sum_compile.proofs.NarrowLemmas.{length-values_from, last_value, step_values, values_from_is}
use Rattle.sum_compile.proofs.NarrowLemmas.{length-step_values, front_is}
use Rattle.sum_compile.proofs.NumberedLemmas.{same_number}
use Rattle.sum_compile.proofs.OnceLemmas.{TakeNone, once_from_test, test_from_once}
use Rattle.sum_compile.proofs.PartTestLemmas.{and_both, both_and, is_false, one_int64_is, all_int64_are, all_int64}
use Rattle.sum_compile.proofs.PartTestLemmas.{empty_is, within_is, is_within}
use Rattle.sum_compile.proofs.ValueTestLemmas.{init_is, steps_are, are_step_values, result_is, is_result_value}

-- the steps and the result of a narrow function's values
pub record IsBodyOf (params : ℕ) (values : List Value) : Type 0 where
  pub steps : List Step
  pub returned : ℕ
  pub fit : StepsFit params 2 steps
  pub once : takes_once steps ≡ true
  pub result : IsAbove (length steps + 2) returned
  pub are : values ≡ values_from 2 steps returned

-- a list, cut in front of its last item
cut_last : (values : List Value) (k : ℕ) (v : Value) → length values ≡ suc k → slice_get values k ≡ Some v
    → values ≡ take k values ++ v ∷ []
cut_last [] k v count e = absurd (omega (arith, count))
cut_last (u ∷ []) zero v count e = let same : u ≡ v = cc in ap (λ x. x ∷ []) same
cut_last (u ∷ []) (suc k) v count e = absurd (omega (arith, count))
cut_last (u ∷ w ∷ values) zero v count e = absurd (omega (arith, count))
cut_last (u ∷ w ∷ values) (suc k) v count e = ap (λ l. u ∷ l) (cut_last (w ∷ values) k v (omega (arith, count)) e)

body_cut : (params : ℕ) (values : List Value) (last : Option Value) → params ≤ 16
    → slice_get values (length values - 1) ≡ last
    → is_last (length values + 1) last ≡ true → are_steps params 2 (take (length values - 1) values) ≡ true
    → take_new no_flags (take (length values - 1) values) ≡ true → IsBodyOf params values
body_cut params values None few e last steps new = cc
body_cut params values (Some v) few e last steps new =
    let front = take (length values - 1) values in
    let whole : values ≡ front ++ v ∷ [] =
    cut_last values (length values - 1) v (omega (arith, slice_get_within values (length values - 1) v e)) e in
    let are = steps_are params 2 front steps in
    let returns = result_is (length values + 1) v last in
    let once =
    once_from_test params 2 no_flags are.steps few refl are.fit (sym (ap (take_new no_flags) are.are) ∙ new) in
    let count : length values ≡ length are.steps + 1 =
    omega (arith, ap length whole, length-append front (v ∷ []), ap length are.are, length-step_values 2 are.steps) in
    record {
      steps = are.steps;
      returned = returns.returned;
      fit = are.fit;
      once = once.0;
      result = subst (λ n. IsAbove n returns.returned) (omega arith) returns.above;
      are =
          whole ∙ ap (λ l. l ++ v ∷ []) are.are ∙ ap (λ x. step_values 2 are.steps ++ x ∷ []) returns.is
          ∙ sym (values_from_is 2 (length values + 1) are.steps returns.returned (omega arith));
    }

body_is : (params : ℕ) (values : List Value) → params ≤ 16 → are_body params values ≡ true → IsBodyOf params values
body_is params values few e =
    let front = take (length values - 1) values in
    let last = slice_get values (length values - 1) in
    let parts = and_both (is_last (length values + 1) last) (are_steps params 2 front && take_new no_flags front) e in
    let others = and_both (are_steps params 2 front) (take_new no_flags front) parts.1 in
    body_cut params values last few refl parts.0 others.0 others.1

no_flag : (n i : ℕ) → get_or (replicate n false) i false ≡ false
no_flag zero i = refl
no_flag (suc n) zero = refl
no_flag (suc n) (suc i) = no_flag n i

none_flagged : (steps : List Step) → TakeNone no_flags steps
none_flagged steps i has = absurd (false≢true (sym (no_flag 16 i) ∙ has))

body_passes : (params : ℕ) (steps : List Step) (r : ℕ) → params ≤ 16 → StepsFit params 2 steps
    → takes_once steps ≡ true
    → IsAbove (length steps + 2) r → are_body params (values_from 2 steps r) ≡ true
body_passes params steps r few fit once above =
    let values = values_from 2 steps r in
    let count : length values - 1 ≡ length steps = omega (arith, length-values_from 2 steps r) in
    let number : length values + 1 ≡ length steps + 2 = omega (arith, length-values_from 2 steps r) in
    let front : take (length values - 1) values ≡ step_values 2 steps =
    ap (λ k. take k values) count ∙ front_is 2 steps r in
    let last : slice_get values (length values - 1) ≡ Some (result_value (length steps + 2) r) =
    ap (slice_get values) count ∙ last_value 2 steps r ∙ ap (λ k. Some (result_value k r)) (omega arith) in
    both_and (is_last (length values + 1) (slice_get values (length values - 1))) _
    (ap (λ o. is_last (length values + 1) o) last ∙ ap (λ k. is_result k (result_value (length steps + 2) r)) number
    ∙ is_result_value (length steps + 2) r above)
    (both_and (are_steps params 2 (take (length values - 1) values)) _
    (ap (are_steps params 2) front ∙ are_step_values params 2 steps fit)
    (ap (take_new no_flags) front ∙ test_from_once params 2 no_flags steps few refl fit once (none_flagged steps)))

-- the whole block
ret_is : (k : Kind) → is_ret k ≡ true → k ≡ Ret
ret_is Ret e = refl
ret_is _ e = cc

control_is : (n : ℕ) (o : Option ValueId) → is_control n o ≡ true → o ≡ Some (vid n)
control_is n None e = cc
control_is n (Some id) e = ap (λ k. Some (vid k)) (eqb-true id.0 n e)

whole_is : (b : Block) → is_whole b ≡ true → b ≡ narrow_block (length b.values) b.values
whole_is b e =
    let ends = is_ret b.kind && is_control (length b.values) b.control in
    let first =
    and_both (not b.id.split) ((b.id.n == 1) && ((length b.preds == 0) && ((length b.succs == 0) && ends))) e in
    let second = and_both (b.id.n == 1) ((length b.preds == 0) && ((length b.succs == 0) && ends)) first.1 in
    let third = and_both (length b.preds == 0) ((length b.succs == 0) && ends) second.1 in
    let fourth = and_both (length b.succs == 0) ends third.1 in
    let fifth = and_both (is_ret b.kind) (is_control (length b.values) b.control) fourth.1 in
    let split : b.id.split ≡ false = is_false b.id.split first.0 in
    let number : b.id.n ≡ 1 = eqb-true b.id.n 1 second.0 in
    λ i. record {
      id = record { split = split i; n = number i };
      preds = empty_is b.preds third.0 i;
      values = b.values;
      kind = ret_is b.kind fifth.0 i;
      control = control_is (length b.values) b.control fifth.1 i;
      succs = empty_is b.succs fourth.0 i;
    }

-- the one block
pub record IsBlockOf (params : ℕ) (b : Block) : Type 0 where
  pub steps : List Step
  pub returned : ℕ
  pub few_values : length steps + 2 ≤ 500
  pub fit : StepsFit params 2 steps
  pub once : takes_once steps ≡ true
  pub result : IsAbove (length steps + 2) returned
  pub is : b ≡ block_of steps returned

values_are : (params : ℕ) (b : Block) (values : List Value) → params ≤ 16 → values ≡ b.values → length b.values ≤ 500
    → b ≡ narrow_block (length b.values) b.values → are_narrow params values ≡ true → IsBlockOf params b
values_are params b [] few at low whole e = cc
values_are params b (first ∷ values) few at low whole e =
    let parts = and_both (is_init first) (are_body params values) e in
    let body = body_is params values few parts.1 in
    let all : b.values ≡ init_value ∷ values_from 2 body.steps body.returned =
    sym at ∙ ap (λ v. v ∷ values) (init_is first parts.0) ∙ ap (λ l. init_value ∷ l) body.are in
    let count : length b.values ≡ length body.steps + 2 =
    omega (arith, ap length all, length-values_from 2 body.steps body.returned) in
    record {
      steps = body.steps;
      returned = body.returned;
      few_values = omega (arith, count);
      fit = body.fit;
      once = body.once;
      result = body.result;
      is = whole ∙ ap (λ n. narrow_block n b.values) count ∙ ap (narrow_block (length body.steps + 2)) all;
    }

block_is : (params : ℕ) (b : Block) → params ≤ 16 → is_narrow_block params b ≡ true → IsBlockOf params b
block_is params b few e =
    let parts = and_both (leb (length b.values) 500) (is_whole b && are_narrow params b.values) e in
    let others = and_both (is_whole b) (are_narrow params b.values) parts.1 in
    values_are params b b.values few refl (within_is (length b.values) 500 parts.0) (whole_is b others.0) others.1

block_passes : (params : ℕ) (steps : List Step) (r : ℕ) → params ≤ 16 → length steps + 2 ≤ 500
    → StepsFit params 2 steps
    → takes_once steps ≡ true → IsAbove (length steps + 2) r → is_narrow_block params (block_of steps r) ≡ true
block_passes params steps r few low fit once above =
    let values = values_from 2 steps r in
    let count : length values + 1 ≡ length steps + 2 = omega (arith, length-values_from 2 steps r) in
    let control : is_control (length (init_value ∷ values)) (Some (vid (length steps + 2))) ≡ true =
    same_number (length steps + 2) (length (init_value ∷ values)) (omega (arith, count)) in
    both_and (leb (length (init_value ∷ values)) 500) _
    (is_within (length (init_value ∷ values)) 500 (omega (arith, count)))
    (both_and (is_whole (block_of steps r)) (are_body params values) control
    (body_passes params steps r few fit once above))

-- the signature
pub record IsSigOf (s : Sig) : Type 0 where
  pub few_params : length s.params ≤ 16
  pub is : s ≡ narrow_sig s.name (length s.params)

sig_is : (s : Sig) → is_narrow_sig s ≡ true → IsSigOf s
sig_is s e =
    let parts = and_both (leb (length s.params) 16) (list_all is_int64 s.params && is_one_int64 s.results) e in
    let types = and_both (list_all is_int64 s.params) (is_one_int64 s.results) parts.1 in
    record {
      few_params = within_is (length s.params) 16 parts.0;
      is = λ i. record {
        name = s.name;
        params = all_int64_are s.params types.0 i;
        results = one_int64_is s.results types.1 i;
      };
    }

sig_passes : (name : List ℕ) (params : ℕ) → params ≤ 16 → is_narrow_sig (narrow_sig name params) ≡ true
sig_passes name params few =
    both_and (leb (length (replicate params I64)) 16) _
    (is_within (length (replicate params I64)) 16 (omega (arith, length-replicate {A = Scalar} params I64)))
    (both_and (list_all is_int64 (replicate params I64)) true (all_int64 params) refl)

-- a function that passes is narrow
func_is : (f : Func) (blocks : List Block) → blocks ≡ f.blocks → IsSigOf f.sig
    → has_narrow_block (length f.sig.params) blocks ≡ true → Narrow f
func_is f [] at sig e = cc
func_is f (b ∷ []) at sig e =
    let block = block_is (length f.sig.params) b sig.few_params e in
    let blocks : f.blocks ≡ block_of block.steps block.returned ∷ [] = sym at ∙ ap (λ x. x ∷ []) block.is in
    record {
      params = length f.sig.params;
      steps = block.steps;
      returned = block.returned;
      few_params = sig.few_params;
      few_values = block.few_values;
      fit = block.fit;
      once = block.once;
      result = block.result;
      made = λ i. record { sig = sig.is i; blocks = blocks i };
    }
func_is f (b ∷ c ∷ blocks) at sig e = cc

pub narrow_from_test : (f : Func) → is_narrow f ≡ true → Narrow f
narrow_from_test f e =
    let parts = and_both (is_narrow_sig f.sig) (has_narrow_block (length f.sig.params) f.blocks) e in
    func_is f f.blocks refl (sig_is f.sig parts.0) parts.1

-- a narrow function passes
func_passes : (name : List ℕ) (params : ℕ) (steps : List Step) (r : ℕ) → params ≤ 16 → length steps + 2 ≤ 500
    → StepsFit params 2 steps
    → takes_once steps ≡ true → IsAbove (length steps + 2) r → is_narrow (func_of name params steps r) ≡ true
func_passes name params steps r few low fit once above =
    both_and (is_narrow_sig (narrow_sig name params)) _ (sig_passes name params few)
    (ap (λ k. is_narrow_block k (block_of steps r)) (length-replicate {A = Scalar} params I64)
    ∙ block_passes params steps r few low fit once above)

pub test_from_narrow : (f : Func) → Narrow f → is_narrow f ≡ true
test_from_narrow f h =
    ap is_narrow h.made
    ∙ func_passes f.sig.name h.params h.steps h.returned h.few_params h.few_values h.fit h.once h.result
