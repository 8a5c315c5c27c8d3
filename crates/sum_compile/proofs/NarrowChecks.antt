-- What holds of each value of a narrow function, by cases: the first, those of the steps, and the last. A check
-- is met where none of them fails it.
use Rattle.std.proofs.Common.{◌≡◌, ℕ, zero, suc, ◌+◌, ◌<◌, Bool, true, false, true≢false, List, [], ◌∷◌, length, get_or}
use Rattle.std.proofs.Common.{All, Some, slice_get, refl, sym, subst, ◌∙◌, append-nil, arith}
use Rattle.ssa_ir.specs.declared.func.Block.{Block}
use Rattle.ssa_ir.specs.declared.func.SsaUnit.{SsaUnit}
use Rattle.ssa_ir.specs.declared.func.Value.{Value}
use Rattle.ssa_ir.specs.Lookups.{values_of}
use Rattle.ssa_check.specs.declared.refusal.At.TheVariants.{Func as AtFunc, Value as AtValue, Block as AtBlock}
use Rattle.ssa_check.specs.declared.refusal.Check.{Check}
use Rattle.ssa_check.specs.Failing.{FuncFails, ValueFails, BlockFails, Meets}
use Rattle.sum_compile.specs.Narrow.{Step, step_value, init_value, result_value, values_from, block_of, func_of}
use Rattle.sum_compile.specs.Narrow.{StepFits, StepsFit}

-- the only item of a list
only_item : {X : Type 0} (x y : X) (k : ℕ) → k < 1 → get_or (x ∷ []) k y ≡ y → x ≡ y
only_item x y zero lt e = e
only_item x y (suc k) lt e = absurd (omega (arith, lt))

-- the values from number n on: a property of each step's value and of the last value is one of each
each_from : (P : Value → Type 0) (params n m : ℕ) (steps : List Step) (r : ℕ) → m ≡ n + length steps
    → StepsFit params n steps
    → ((i : ℕ) (s : Step) → slice_get steps i ≡ Some s → StepFits params (n + i) s → P (step_value (n + i) s))
    → P (result_value m r) → All P (values_from n steps r)
each_from P params n m [] r end fit step last zero d lt = subst (λ k. P (result_value k r)) (omega (arith, end)) last
each_from P params n m [] r end fit step last (suc k) d lt = absurd (omega (arith, lt))
each_from P params n m (s ∷ steps) r end fit step last zero d lt =
    let here : n ≡ n + 0 = omega arith in
    subst (λ k. P (step_value k s)) (sym here) (step 0 s refl (subst (λ k. StepFits params k s) here fit.0))
each_from P params n m (s ∷ steps) r end fit step last (suc k) d lt =
    each_from P params (suc n) m steps r (omega (arith, end)) fit.1
    (λ i t at fits.
    let there : suc n + i ≡ n + suc i = omega arith in
    subst (λ j. P (step_value j t)) (sym there)
    (step (suc i) t at (subst (λ j. StepFits params j t) there fits)))
    last k d (omega (arith, lt))

-- a property of the first value, of each step's value and of the last value is one of each value of the block
pub each_value : (P : Value → Type 0) (params : ℕ) (steps : List Step) (r : ℕ) → StepsFit params 2 steps
    → P init_value
    → ((i : ℕ) (s : Step) → slice_get steps i ≡ Some s → StepFits params (2 + i) s → P (step_value (2 + i) s))
    → P (result_value (length steps + 2) r) → All P (block_of steps r).values
each_value P params steps r fit first step last zero d lt = first
each_value P params steps r fit first step last (suc k) d lt =
    each_from P params 2 (length steps + 2) steps r (omega arith) fit step last k d (omega (arith, lt))

-- where no value of a block fails, none of that block does, however it is named
none_fails : (Fails : Block → Value → Type 0) (a b : Block) → a ≡ b → All (λ v. Fails a v → ⊥) a.values
    → (v : Value) (j : ℕ) → j < length b.values → get_or b.values j v ≡ v → Fails b v → ⊥
none_fails Fails a b one none v j inside at fails =
    subst (λ x. (i : ℕ) → i < length x.values → get_or x.values i v ≡ v → Fails x v → ⊥) one
    (λ i lt there. subst (λ w. Fails a w → ⊥) there (none i v lt)) j inside at fails

-- a narrow function meets a check where it doesn't fail it itself, and neither its block nor any value does
pub narrow_meets : (c : Check) (u : SsaUnit) (name : List ℕ) (params : ℕ) (steps : List Step) (r : ℕ)
    → (FuncFails c u (func_of name params steps r) → ⊥)
    → (BlockFails c u (func_of name params steps r) (block_of steps r) → ⊥)
    → All (λ v. ValueFails c u (func_of name params steps r) (block_of steps r) v → ⊥) (block_of steps r).values
    → Meets c u (func_of name params steps r)
narrow_meets c u name params steps r no_func no_block no_value AtFunc fails = no_func fails
narrow_meets c u name params steps r no_func no_block no_value (AtBlock id) (k, b, within, is, p) =
    no_block
    (subst (BlockFails c u (func_of name params steps r)) (sym (only_item (block_of steps r) b k within is)) p.1)
narrow_meets c u name params steps r no_func no_block no_value (AtValue id) (k, b, within, is, (j, v, inside, at, p)) =
    let one : block_of steps r ≡ b = only_item (block_of steps r) b k within is in
    none_fails (ValueFails c u (func_of name params steps r)) (block_of steps r) b one no_value v j inside at p.1

-- all values of a narrow function are those of its block
pub all_of_block : (name : List ℕ) (params : ℕ) (steps : List Step) (r : ℕ)
    → values_of (func_of name params steps r) ≡ (block_of steps r).values
all_of_block name params steps r = append-nil (block_of steps r).values

-- a test that passes doesn't fail
pub passes : (b : Bool) → b ≡ true → b ≡ false → ⊥
passes b holds fails = true≢false (sym holds ∙ fails)
