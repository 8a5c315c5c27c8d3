-- The block of a narrow function ends by its last value, a MakeResult that nothing else uses.
use Rattle.std.proofs.Common.{◌≡◌, ℕ, suc, ◌+◌, ◌<◌, ◌≤◌, Bool, true, false, not, ◌&&◌, ◌||◌, cond, eqb, List, [], ◌∷◌}
use Rattle.std.proofs.Common.{length, None, Some, find, refl, ap, ◌∙◌, arith}
use Rattle.std.specs.List.{list_any}
use Rattle.std.proofs.lemmas.Bool.{or_right}
use Rattle.std.proofs.lemmas.Bool.Decides.{nat_tests}
use Rattle.std.proofs.lemmas.List.Folds.{list_any_none}
use Rattle.std.proofs.lemmas.Option.{slice_get_within}
use Rattle.ssa_ir.specs.declared.op.Width.TheVariants.{W64}
use Rattle.ssa_ir.specs.declared.func.SsaUnit.{SsaUnit}
use Rattle.ssa_ir.specs.declared.func.Value.{Value}
use Rattle.ssa_ir.specs.FirstOrder.{has_value, same_value}
use Rattle.ssa_ir.specs.Lookups.{is_numbered, value_of, values_of}
use Rattle.ssa_ir.specs.declared.classes.Class.TheVariants.{Int}
use Rattle.ssa_check.specs.declared.refusal.Check.TheVariants.{Control}
use Rattle.ssa_check.specs.BlockChecks.{control_holds, has_results, is_used_elsewhere}
use Rattle.ssa_check.specs.Failing.{Meets}
use Rattle.ssa_check.specs.OpTypes.{are}
use Rattle.sum_compile.specs.Narrow.{Step, TakeArg, MakeConst, AddTwo, vid, step_value, init_value, result_value}
use Rattle.sum_compile.specs.Narrow.{values_from, block_of, func_of, IsAbove, StepFits, StepsFit}
use Rattle.sum_compile.proofs.NarrowChecks.{all_of_block, each_value, narrow_meets, passes}
use Rattle.sum_compile.proofs.NarrowClasses.{above_class}
use Rattle.sum_compile.proofs.NarrowLemmas.{step_number}
use Rattle.sum_compile.proofs.NumberedLemmas.{same_number, other_number}

higher_number : (a b : ℕ) → b < a → eqb a b ≡ false
higher_number a b h = grind (arith, nat_tests)

-- the last value is found by its number
result_found : (n m : ℕ) (steps : List Step) (r : ℕ) → m ≡ n + length steps
    → find (is_numbered (vid m)) (values_from n steps r) ≡ Some (result_value m r)
result_found n m [] r is =
    ap (λ b. cond b (Some (result_value n r)) None) (same_number n m (omega (arith, is)))
    ∙ ap (λ k. Some (result_value k r)) (omega (arith, is))
result_found n m (s ∷ steps) r is =
    let v = step_value n s in
    ap (λ b. cond b (Some v) (find (is_numbered (vid m)) (values_from (suc n) steps r)))
    (other_number v.id.0 m (omega (arith, is, step_number n s)))
    ∙ result_found (suc n) m steps r (omega (arith, is))

-- the block has it
has_result : (n m : ℕ) (steps : List Step) (r : ℕ) → m ≡ n + length steps
    → has_value (values_from n steps r) (vid m) ≡ true
has_result n m [] r is = ap (λ b. b || false) (same_number n m (omega (arith, is)))
has_result n m (s ∷ steps) r is =
    or_right (same_value (step_value n s).id (vid m)) (has_value (values_from (suc n) steps r) (vid m))
    (has_result (suc n) m steps r (omega (arith, is)))

-- a value takes neither of two that stand below it
takes_neither : (m a b : ℕ) → a < m → b < m → list_any (same_value (vid m)) (vid a ∷ vid b ∷ []) ≡ false
takes_neither m a b low lower = λ i. higher_number m a low i || (higher_number m b lower i || false)

-- whether a value takes the one of number m
abbrev takes_it : ℕ → Value → Bool
takes_it m v = list_any (same_value (vid m)) v.args

-- no value takes the last one
step_takes_none : (m params n : ℕ) (s : Step) → n ≤ m → StepFits params n s
    → takes_it m (step_value n s) ≡ false
step_takes_none m params n (TakeArg i) le fits = refl
step_takes_none m params n (MakeConst c) le fits = refl
step_takes_none m params n (AddTwo a b) le fits =
    takes_neither m a b (omega (arith, le, fits.0.above)) (omega (arith, le, fits.1.above))

takes_last : (name : List ℕ) (params : ℕ) (steps : List Step) (r : ℕ) → StepsFit params 2 steps
    → IsAbove (length steps + 2) r
    → list_any (takes_it (length steps + 2)) (values_of (func_of name params steps r)) ≡ false
takes_last name params steps r fit above =
    let m = length steps + 2 in
    ap (list_any (takes_it m)) (all_of_block name params steps r)
    ∙ list_any_none (takes_it m) (block_of steps r).values
    (each_value (λ v. takes_it m v ≡ false) params steps r fit refl
    (λ i s at fits. step_takes_none m params (2 + i) s (omega (arith, slice_get_within steps i s at)) fits)
    (takes_neither m r 1 above.above (omega arith)))

-- the block ends by a MakeResult that nothing else uses
control_passes : (name : List ℕ) (params : ℕ) (steps : List Step) (r : ℕ) → StepsFit params 2 steps
    → IsAbove (length steps + 2) r
    → control_holds (func_of name params steps r) (block_of steps r) ≡ true
control_passes name params steps r fit above =
    let f = func_of name params steps r in
    let b = block_of steps r in
    let m = length steps + 2 in
    let found : value_of f (vid m) ≡ Some (result_value m r) =
    ap (find (is_numbered (vid m))) (all_of_block name params steps r)
    ∙ ap (λ t. cond t (Some init_value) (find (is_numbered (vid m)) (values_from 2 steps r)))
    (other_number 1 m (omega arith))
    ∙ result_found 2 m steps r (omega arith) in
    let returns : has_results f (value_of f (vid m)) ≡ true =
    ap (has_results f) found
    ∙ ap (λ c. are (c ∷ []) (Int W64 ∷ []) && true) (above_class name params steps r r above) in
    let has : has_value b.values (vid m) ≡ true =
    or_right (same_value init_value.id (vid m)) (has_value (values_from 2 steps r) (vid m))
    (has_result 2 m steps r (omega arith)) in
    let unused : is_used_elsewhere f b (vid m) ≡ false =
    ap (λ t. t || false) (takes_last name params steps r fit above) in
    λ i. returns i && has i && not (unused i)

pub control_met : (u : SsaUnit) (name : List ℕ) (params : ℕ) (steps : List Step) (r : ℕ) → StepsFit params 2 steps
    → IsAbove (length steps + 2) r
    → Meets Control u (func_of name params steps r)
control_met u name params steps r fit above =
    narrow_meets Control u name params steps r (λ fails. fails)
    (passes (control_holds (func_of name params steps r) (block_of steps r))
    (control_passes name params steps r fit above))
    (λ k d lt fails. fails)
