-- A narrow function defines what it uses: its values have all numbers from 1 on, and take and return none but these.
use Rattle.std.proofs.Common.{◌≡◌, ℕ, zero, suc, ◌+◌, ◌<◌, ◌≤◌, inl, inr, Bool, true, false, true≢false, ◌||◌, eqb}
use Rattle.std.proofs.Common.{List, [], ◌∷◌, length, All, refl, sym, ap, ◌∙◌, arith}
use Rattle.std.proofs.lemmas.Bool.{eqb-false, or_left}
use Rattle.std.proofs.lemmas.List.Elements.{All-contains}
use Rattle.std.proofs.lemmas.Option.{slice_get_within}
use Rattle.gossa_base.specs.declared.ids.ValueId.{ValueId}
use Rattle.ssa_ir.specs.declared.func.Block.{Block}
use Rattle.ssa_ir.specs.declared.func.Func.{Func}
use Rattle.ssa_ir.specs.declared.func.SsaUnit.{SsaUnit}
use Rattle.ssa_ir.specs.declared.func.Value.{Value}
use Rattle.ssa_ir.specs.FirstOrder.{has_value}
use Rattle.ssa_ir.specs.OpKinds.{is_phi}
use Rattle.ssa_check.specs.declared.refusal.Check.TheVariants.{Undefined}
use Rattle.ssa_ir.specs.Definedness.{Misses, ValueMisses, is_passed}
use Rattle.ssa_check.specs.Failing.{Meets}
use Rattle.sum_compile.specs.Narrow.{Step, TakeArg, MakeConst, AddTwo, vid, step_value, init_value, result_value}
use Rattle.sum_compile.specs.Narrow.{values_from, block_of, func_of, IsAbove, StepFits, StepsFit}
use Rattle.sum_compile.proofs.NarrowChecks.{each_value, narrow_meets}
use Rattle.sum_compile.proofs.NarrowLemmas.{step_number}
use Rattle.sum_compile.proofs.NumberedLemmas.{same_number}

-- ---- the numbers of the block

-- one of two tests passes where the second one does if the first one fails
by_first : (b rest : Bool) → (b ≡ false → rest ≡ true) → (b || rest) ≡ true
by_first true rest later = refl
by_first false rest later = later refl

-- the values from a number on have all numbers up to that of the last
has_from : (n k : ℕ) (steps : List Step) (r : ℕ) → n ≤ k → k ≤ n + length steps
    → has_value (values_from n steps r) (vid k) ≡ true
has_from n k [] r low high = ap (λ b. b || false) (same_number n k (omega (arith, low, high)))
has_from n k (s ∷ steps) r low high =
    let v = step_value n s in
    by_first (eqb v.id.0 k) (has_value (values_from (suc n) steps r) (vid k))
    (λ apart. has_from (suc n) k steps r (omega (arith, low, eqb-false v.id.0 k apart, step_number n s))
    (omega (arith, high)))

-- the block has all numbers from 1 to that of the last value
has_number : (k : ℕ) (steps : List Step) (r : ℕ) → 1 ≤ k → k ≤ length steps + 2
    → has_value (block_of steps r).values (vid k) ≡ true
has_number k steps r low high =
    by_first (eqb 1 k) (has_value (values_from 2 steps r) (vid k))
    (λ apart. has_from 2 k steps r (omega (arith, low, eqb-false 1 k apart)) (omega (arith, high)))

-- ---- no use misses its definition

-- a value of the block itself is passed on each path to it
none_misses : (f : Func) (b : Block) (id : ValueId) → has_value b.values id ≡ true → Misses f b id → ⊥
none_misses f b id has m =
    true≢false (sym (or_left (has_value b.values id) (is_passed m.before id) has) ∙ m.missed)

-- so a value that is no phi, and takes values of the block alone, misses none
no_value_misses : (f : Func) (b : Block) (v : Value) → is_phi v.op ≡ false
    → All (λ id. has_value b.values id ≡ true) v.args → ValueMisses f b v → ⊥
no_value_misses f b v plain has (inl (phi, p)) = true≢false (sym phi ∙ plain)
no_value_misses f b v plain has (inr (p, (k, id, within, is, m))) =
    none_misses f b id (All-contains (λ i. has_value b.values i ≡ true) v.args id has (k, within, is)) m

-- what holds of two arguments holds of all
both : (P : ValueId → Type 0) (a b : ValueId) → P a → P b → All P (a ∷ b ∷ [])
both P a b p q zero d lt = p
both P a b p q (suc zero) d lt = q
both P a b p q (suc (suc k)) d lt = absurd (omega (arith, lt))

pub undefined_met : (u : SsaUnit) (name : List ℕ) (params : ℕ) (steps : List Step) (r : ℕ) → StepsFit params 2 steps
    → IsAbove (length steps + 2) r
    → Meets Undefined u (func_of name params steps r)
undefined_met u name params steps r fit above =
    let f = func_of name params steps r in
    let b = block_of steps r in
    narrow_meets Undefined u name params steps r (λ fails. fails)
    (none_misses f b (vid (length steps + 2)) (has_number (length steps + 2) steps r (omega arith) (omega arith)))
    (each_value (λ v. ValueMisses f b v → ⊥) params steps r fit
    (no_value_misses f b init_value refl (λ k d lt. absurd (omega (arith, lt))))
    (λ i s at fits. step (2 + i) s fits (omega (arith, slice_get_within steps i s at)))
    (no_value_misses f b (result_value (length steps + 2) r) refl
    (both (λ id. has_value b.values id ≡ true) (vid r) (vid 1) (has_above (length steps + 2) r (omega arith) above)
    (has_number 1 steps r (omega arith) (omega arith)))))
  where
    has_above : (n k : ℕ) → n ≤ length steps + 2 → IsAbove n k
        → has_value (block_of steps r).values (vid k) ≡ true
    has_above n k inside stands =
        has_number k steps r (omega (arith, stands.behind_first)) (omega (arith, stands.above, inside))

    step : (n : ℕ) (s : Step) → StepFits params n s → n < length steps + 2
        → ValueMisses (func_of name params steps r) (block_of steps r) (step_value n s) → ⊥
    step n (TakeArg i) fits inside =
        no_value_misses (func_of name params steps r) (block_of steps r) (step_value n (TakeArg i)) refl
        (λ k d lt. absurd (omega (arith, lt)))
    step n (MakeConst c) fits inside =
        no_value_misses (func_of name params steps r) (block_of steps r) (step_value n (MakeConst c)) refl
        (λ k d lt. absurd (omega (arith, lt)))
    step n (AddTwo a b) fits inside =
        no_value_misses (func_of name params steps r) (block_of steps r) (step_value n (AddTwo a b)) refl
        (both (λ id. has_value (block_of steps r).values id ≡ true) (vid a) (vid b)
        (has_above n a (omega (arith, inside)) fits.0) (has_above n b (omega (arith, inside)) fits.1))
