-- The values of a narrow function have the classes that their ops ask.
use Rattle.std.proofs.Common.{◌≡◌, ℕ, suc, ◌+◌, ◌<◌, ◌≤◌, Bool, true, false, true≢false, ◌&&◌, cond, eqb, List, [], ◌∷◌}
use Rattle.std.proofs.Common.{length, Option, Some, find, refl, ap, ◌∙◌, arith}
use Rattle.std.proofs.lemmas.Bool.{eqb-false}
use Rattle.std.proofs.lemmas.Option.{slice_get_within}
use Rattle.ssa_ir.specs.declared.op.Width.TheVariants.{W64}
use Rattle.ssa_ir.specs.declared.func.SsaUnit.{SsaUnit}
use Rattle.ssa_ir.specs.declared.func.Value.{Value}
use Rattle.ssa_ir.specs.Lookups.{is_numbered}
use Rattle.ssa_ir.specs.declared.classes.Class.{Class}
use Rattle.ssa_ir.specs.declared.classes.Class.TheVariants.{Int}
use Rattle.ssa_check.specs.declared.refusal.Check.TheVariants.{Types}
use Rattle.ssa_ir.specs.Classes.{is_scalar}
use Rattle.ssa_check.specs.Failing.{Meets}
use Rattle.ssa_check.specs.OpTypes.{are, class_at, class_of_value}
use Rattle.ssa_check.specs.ValueChecks.{types_hold}
use Rattle.sum_compile.specs.Narrow.{Step, TakeArg, MakeConst, AddTwo, vid, step_value, init_value, result_value}
use Rattle.sum_compile.specs.Narrow.{values_from, func_of, IsAbove, StepFits, StepsFit}
use Rattle.sum_compile.proofs.NarrowChecks.{all_of_block, each_value, narrow_meets, passes}
use Rattle.sum_compile.proofs.NarrowLemmas.{step_number}
use Rattle.sum_compile.proofs.NumberedLemmas.{other_number}

-- the value of a step is an integer of 64 bits
step_class : (n : ℕ) (s : Step) → class_of_value (Some (step_value n s)) ≡ Int W64
step_class n (TakeArg i) = refl
step_class n (MakeConst c) = refl
step_class n (AddTwo a b) = refl

-- the class of what is found, by whether the first value is it
found_by : (v : Value) (rest : Option Value) (b : Bool) (c : Class) → class_of_value (Some v) ≡ c
    → (b ≡ false → class_of_value rest ≡ c) → class_of_value (cond b (Some v) rest) ≡ c
found_by v rest true c here later = here
found_by v rest false c here later = later refl

-- what is found by the number of a step's value is one too
step_found : (n : ℕ) (steps : List Step) (r k : ℕ) → n ≤ k → k < n + length steps
    → class_of_value (find (is_numbered (vid k)) (values_from n steps r)) ≡ Int W64
step_found n [] r k low high = absurd (omega (arith, low, high))
step_found n (s ∷ steps) r k low high =
    let v = step_value n s in
    found_by v (find (is_numbered (vid k)) (values_from (suc n) steps r)) (eqb v.id.0 k) (Int W64) (step_class n s)
    (λ apart. step_found (suc n) steps r k (omega (arith, low, eqb-false v.id.0 k apart, step_number n s))
    (omega (arith, high)))

-- a value above the last one is an integer
pub above_class : (name : List ℕ) (params : ℕ) (steps : List Step) (r k : ℕ) → IsAbove (length steps + 2) k
    → class_at (func_of name params steps r) (vid k) ≡ Int W64
above_class name params steps r k above =
    ap (λ l. class_of_value (find (is_numbered (vid k)) l)) (all_of_block name params steps r)
    ∙ ap (λ b. class_of_value (cond b (Some init_value) (find (is_numbered (vid k)) (values_from 2 steps r))))
    (other_number 1 k (omega (arith, above.behind_first)))
    ∙ step_found 2 steps r k above.behind_first (omega (arith, above.above))

-- two integers are what a sum asks
two_ints : (c d : Class) → c ≡ Int W64 → d ≡ Int W64 → (are (c ∷ d ∷ []) (Int W64 ∷ Int W64 ∷ []) && true) ≡ true
two_ints c d e h = λ i. are (e i ∷ h i ∷ []) (Int W64 ∷ Int W64 ∷ []) && true

step_types : (name : List ℕ) (params : ℕ) (steps : List Step) (r n : ℕ) (s : Step) → StepFits params n s
    → n < length steps + 2
    → types_hold (func_of name params steps r) (step_value n s) ≡ true
step_types name params steps r n (TakeArg i) fits inside = refl
step_types name params steps r n (MakeConst c) fits inside = refl
step_types name params steps r n (AddTwo a b) fits inside =
    let class = class_at (func_of name params steps r) in
    let above_last : (k : ℕ) → IsAbove n k → class (vid k) ≡ Int W64 =
    λ k above. above_class name params steps r k
    (record { behind_first = above.behind_first; above = omega (arith, above.above, inside) }) in
    two_ints (class (vid a)) (class (vid b)) (above_last a fits.0) (above_last b fits.1)

pub types_met : (u : SsaUnit) (name : List ℕ) (params : ℕ) (steps : List Step) (r : ℕ) → StepsFit params 2 steps
    → IsAbove (length steps + 2) r
    → Meets Types u (func_of name params steps r)
types_met u name params steps r fit above =
    let f = func_of name params steps r in
    narrow_meets Types u name params steps r (λ fails. fails) (λ fails. fails)
    (each_value (λ v. types_hold f v ≡ false → ⊥) params steps r fit true≢false
    (λ i s at fits. passes (types_hold f (step_value (2 + i) s))
    (step_types name params steps r (2 + i) s fits (omega (arith, slice_get_within steps i s at))))
    (passes (types_hold f (result_value (length steps + 2) r))
    (ap (λ c. (is_scalar c && true) && true) (above_class name params steps r r above))))
