-- A narrow function has one memory at the entry, and takes each of its parameters once.
use Rattle.std.proofs.Common.{◌≡◌, ℕ, pos, zero, suc, ◌+◌, ◌<◌, ◌≤◌, Bool, true, false, true≢false, not, ◌&&◌, ltb}
use Rattle.std.proofs.Common.{List, [], ◌∷◌, replicate, Some, slice_get, refl, sym, ap, ◌∙◌, arith}
use Rattle.std.specs.List.{list_any}
use Rattle.std.specs.Ordering.{int_eq}
use Rattle.std.proofs.lemmas.Bool.{and_left, and_right, or_from, or_left, or_right}
use Rattle.std.proofs.lemmas.Bool.Decides.{nat_tests, Decides-int_eq}
use Rattle.std.proofs.lemmas.List.Folds.{list_any_none}
use Rattle.ssa_ir.specs.declared.types.Scalar.TheVariants.{I64}
use Rattle.ssa_ir.specs.declared.func.SsaUnit.{SsaUnit}
use Rattle.ssa_ir.specs.declared.func.Value.{Value}
use Rattle.ssa_ir.specs.Lookups.{values_of}
use Rattle.ssa_check.specs.declared.refusal.Check.TheVariants.{ArgOrInit}
use Rattle.ssa_check.specs.Failing.{Meets}
use Rattle.ssa_check.specs.ValueChecks.{arg_or_init_holds, is_lower, is_of_class}
use Rattle.ssa_ir.specs.OpKinds.{is_arg, is_init}
use Rattle.sum_compile.specs.Narrow.{Step, TakeArg, MakeConst, AddTwo, step_value, init_value, values_from, block_of}
use Rattle.sum_compile.specs.Narrow.{func_of, StepFits, StepsFit, takes, takes_once}
use Rattle.sum_compile.proofs.NarrowChecks.{all_of_block, each_value, narrow_meets, passes}
use Rattle.sum_compile.proofs.NumberedLemmas.{same_number}
use Rattle.sum_compile.proofs.PartTestLemmas.{and_both, is_false}

not_lower : (a b : ℕ) → b ≤ a → ltb a b ≡ false
not_lower a b h = grind (arith, nat_tests)

-- an InitMem of a lower number than v1
abbrev is_lower_init : Value → Bool
is_lower_init u = is_init u.op && is_lower u init_value

no_lower_init : (name : List ℕ) (params : ℕ) (steps : List Step) (r : ℕ) → StepsFit params 2 steps
    → list_any is_lower_init (values_of (func_of name params steps r)) ≡ false
no_lower_init name params steps r fit =
    ap (list_any is_lower_init) (all_of_block name params steps r)
    ∙ list_any_none is_lower_init (block_of steps r).values
    (each_value (λ v. is_lower_init v ≡ false) params steps r fit refl (λ i s at fits. step (2 + i) s) refl)
  where
    step : (n : ℕ) (s : Step) → is_lower_init (step_value n s) ≡ false
    step n (TakeArg i) = refl
    step n (MakeConst c) = refl
    step n (AddTwo a b) = refl

-- an Arg of parameter i with a lower number than k
abbrev is_lower_arg : (i k : ℕ) → Value → Bool
is_lower_arg i k u = is_arg u.op && int_eq u.aux (pos i) && ltb u.id.0 k

-- no value from a number on has a lower one
none_lower : (i k n : ℕ) (steps : List Step) (r : ℕ) → k ≤ n
    → list_any (is_lower_arg i k) (values_from n steps r) ≡ false
none_lower i k n [] r le = refl
none_lower i k n (TakeArg j ∷ steps) r le =
    or_from (int_eq (pos j) (pos i) && ltb n k) (list_any (is_lower_arg i k) (values_from (suc n) steps r))
    (and_right (int_eq (pos j) (pos i)) (ltb n k) (not_lower n k le)) (none_lower i k (suc n) steps r
    (omega (arith, le)))
none_lower i k n (MakeConst c ∷ steps) r le = none_lower i k (suc n) steps r (omega (arith, le))
none_lower i k n (AddTwo a b ∷ steps) r le = none_lower i k (suc n) steps r (omega (arith, le))

-- a step that stands among others takes its parameter
is_taken : (i : ℕ) (steps : List Step) (at : ℕ) → slice_get steps at ≡ Some (TakeArg i)
    → list_any (takes i) steps ≡ true
is_taken i [] at e = cc
is_taken i (s ∷ steps) zero e =
    let same : s ≡ TakeArg i = cc in
    or_left (takes i s) (list_any (takes i) steps) (ap (takes i) same ∙ same_number i i refl)
is_taken i (s ∷ steps) (suc at) e = or_right (takes i s) (list_any (takes i) steps) (is_taken i steps at e)

-- so a step that takes its parameter alone takes another one than a later step
another : (i j : ℕ) (steps : List Step) (at : ℕ) → not (list_any (takes j) steps) ≡ true
    → slice_get steps at ≡ Some (TakeArg i)
    → int_eq (pos j) (pos i) ≡ false
another i j steps at new there = go (int_eq (pos j) (pos i)) refl
  where
    go : (b : Bool) → int_eq (pos j) (pos i) ≡ b → int_eq (pos j) (pos i) ≡ false
    go true same =
        let whole : pos j ≡ pos i = (Decides-int_eq (pos j) (pos i)).0 same in
        let one : j ≡ i = cc in
        absurd (true≢false (sym (is_taken i steps at there) ∙ ap (λ k. list_any (takes k) steps) (sym one)
        ∙ is_false (list_any (takes j) steps) new))
    go false apart = apart

-- of steps that take each parameter once, none before another one takes its parameter
no_lower_arg : (i k n : ℕ) (steps : List Step) (r at : ℕ) → takes_once steps ≡ true
    → slice_get steps at ≡ Some (TakeArg i) → k ≡ n + at
    → list_any (is_lower_arg i k) (values_from n steps r) ≡ false
no_lower_arg i k n [] r at once there is = cc
no_lower_arg i k n (s ∷ steps) r zero once there is = none_lower i k n (s ∷ steps) r (omega (arith, is))
no_lower_arg i k n (MakeConst c ∷ steps) r (suc at) once there is =
    no_lower_arg i k (suc n) steps r at once there (omega (arith, is))
no_lower_arg i k n (AddTwo a b ∷ steps) r (suc at) once there is =
    no_lower_arg i k (suc n) steps r at once there (omega (arith, is))
no_lower_arg i k n (TakeArg j ∷ steps) r (suc at) once there is =
    let parts = and_both (not (list_any (takes j) steps)) (takes_once steps) once in
    or_from (int_eq (pos j) (pos i) && ltb n k) (list_any (is_lower_arg i k) (values_from (suc n) steps r))
    (and_left (int_eq (pos j) (pos i)) (ltb n k) (another i j steps at parts.0 there))
    (no_lower_arg i k (suc n) steps r at parts.1 there (omega (arith, is)))

-- the type of a parameter
param_type : (params i : ℕ) → i < params → slice_get (replicate params I64) i ≡ Some I64
param_type zero i lt = absurd (omega (arith, lt))
param_type (suc params) zero lt = refl
param_type (suc params) (suc i) lt = param_type params i (omega (arith, lt))

-- the value of a step has the number and the class of a parameter, and is the only one, or it is no parameter
step_holds : (name : List ℕ) (params : ℕ) (steps : List Step) (r at : ℕ) (s : Step) → takes_once steps ≡ true
    → slice_get steps at ≡ Some s → StepFits params (2 + at) s
    → arg_or_init_holds (func_of name params steps r) (block_of steps r) (step_value (2 + at) s) ≡ true
step_holds name params steps r at (MakeConst c) once there fits = refl
step_holds name params steps r at (AddTwo a b) once there fits = refl
step_holds name params steps r at (TakeArg i) once there fits =
    let v = step_value (2 + at) (TakeArg i) in
    let alone : list_any (is_lower_arg i (2 + at)) (values_of (func_of name params steps r)) ≡ false =
    ap (list_any (is_lower_arg i (2 + at))) (all_of_block name params steps r)
    ∙ no_lower_arg i (2 + at) 2 steps r at once there refl in
    λ j. is_of_class v (param_type params i fits j) && not (alone j)

pub arg_or_init_met : (u : SsaUnit) (name : List ℕ) (params : ℕ) (steps : List Step) (r : ℕ)
    → StepsFit params 2 steps → takes_once steps ≡ true
    → Meets ArgOrInit u (func_of name params steps r)
arg_or_init_met u name params steps r fit once =
    let f = func_of name params steps r in
    let b = block_of steps r in
    narrow_meets ArgOrInit u name params steps r true≢false (λ fails. fails)
    (each_value (λ v. arg_or_init_holds f b v ≡ false → ⊥) params steps r fit
    (passes (arg_or_init_holds f b init_value)
    (ap (λ lower. not lower && true) (no_lower_init name params steps r fit)))
    (λ i s at fits. passes (arg_or_init_holds f b (step_value (2 + i) s))
    (step_holds name params steps r i s once at fits))
    true≢false)
