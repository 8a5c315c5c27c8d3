-- A narrow function meets all checks.
use Rattle.std.proofs.Common.{◌≡◌, ℕ, ◌+◌, true, false, true≢false, List, length, sym, subst}
use Rattle.ssa_ir.specs.declared.func.Func.{Func}
use Rattle.ssa_ir.specs.declared.func.SsaUnit.{SsaUnit}
use Rattle.ssa_check.specs.declared.refusal.Check.TheVariants.{Entry, Edges, PhiArity, Arity, Types, ArgOrInit, Callee}
use Rattle.ssa_check.specs.declared.refusal.Check.TheVariants.{Memory, Cycle, Undefined, Control}
use Rattle.ssa_check.specs.Failing.{Meets, MeetsAll}
use Rattle.ssa_check.specs.ValueChecks.{phi_holds, arity_holds}
use Rattle.ssa_check.specs.CalleeCheck.{callee_holds}
use Rattle.sum_compile.specs.Narrow.{Step, TakeArg, MakeConst, AddTwo, step_value, block_of, func_of, IsAbove, StepsFit}
use Rattle.sum_compile.specs.Narrow.{takes_once, Narrow}
use Rattle.sum_compile.proofs.NarrowChecks.{each_value, narrow_meets}
use Rattle.sum_compile.proofs.NarrowClasses.{types_met}
use Rattle.sum_compile.proofs.NarrowControls.{control_met}
use Rattle.sum_compile.proofs.NarrowCycles.{cycle_met}
use Rattle.sum_compile.proofs.NarrowDefined.{undefined_met}
use Rattle.sum_compile.proofs.NarrowInputs.{arg_or_init_met}
use Rattle.sum_compile.proofs.NarrowMemory.{memory_met}

-- ---- the entry, edges, and numbers of arguments: nothing of these goes by the steps

entry_met : (u : SsaUnit) (name : List ℕ) (params : ℕ) (steps : List Step) (r : ℕ)
    → Meets Entry u (func_of name params steps r)
entry_met u name params steps r =
    narrow_meets Entry u name params steps r true≢false true≢false (λ k d lt fails. fails)

edges_met : (u : SsaUnit) (name : List ℕ) (params : ℕ) (steps : List Step) (r : ℕ)
    → Meets Edges u (func_of name params steps r)
edges_met u name params steps r =
    narrow_meets Edges u name params steps r (λ fails. fails) true≢false (λ k d lt fails. fails)

phi_met : (u : SsaUnit) (name : List ℕ) (params : ℕ) (steps : List Step) (r : ℕ) → StepsFit params 2 steps
    → Meets PhiArity u (func_of name params steps r)
phi_met u name params steps r fit =
    let f = func_of name params steps r in
    let b = block_of steps r in
    narrow_meets PhiArity u name params steps r (λ fails. fails) (λ fails. fails)
    (each_value (λ v. phi_holds f b v ≡ false → ⊥) params steps r fit true≢false
    (λ i s at fits. step (2 + i) s) true≢false)
  where
    step : (n : ℕ) (s : Step) → phi_holds (func_of name params steps r) (block_of steps r) (step_value n s) ≡ false
        → ⊥
    step n (TakeArg i) = true≢false
    step n (MakeConst c) = true≢false
    step n (AddTwo a b) = true≢false

arity_met : (u : SsaUnit) (name : List ℕ) (params : ℕ) (steps : List Step) (r : ℕ) → StepsFit params 2 steps
    → Meets Arity u (func_of name params steps r)
arity_met u name params steps r fit =
    narrow_meets Arity u name params steps r (λ fails. fails) (λ fails. fails)
    (each_value (λ v. arity_holds v ≡ false → ⊥) params steps r fit true≢false
    (λ i s at fits. step (2 + i) s) true≢false)
  where
    step : (n : ℕ) (s : Step) → arity_holds (step_value n s) ≡ false → ⊥
    step n (TakeArg i) = true≢false
    step n (MakeConst c) = true≢false
    step n (AddTwo a b) = true≢false

callee_met : (u : SsaUnit) (name : List ℕ) (params : ℕ) (steps : List Step) (r : ℕ) → StepsFit params 2 steps
    → Meets Callee u (func_of name params steps r)
callee_met u name params steps r fit =
    let f = func_of name params steps r in
    let b = block_of steps r in
    narrow_meets Callee u name params steps r (λ fails. fails) (λ fails. fails)
    (each_value (λ v. callee_holds u f b v ≡ false → ⊥) params steps r fit true≢false
    (λ i s at fits. step (2 + i) s) true≢false)
  where
    step : (n : ℕ) (s : Step)
        → callee_holds u (func_of name params steps r) (block_of steps r) (step_value n s) ≡ false → ⊥
    step n (TakeArg i) = true≢false
    step n (MakeConst c) = true≢false
    step n (AddTwo a b) = true≢false

-- ---- all checks

made_accepted : (u : SsaUnit) (name : List ℕ) (params : ℕ) (steps : List Step) (r : ℕ) → StepsFit params 2 steps
    → takes_once steps ≡ true
    → IsAbove (length steps + 2) r → MeetsAll u (func_of name params steps r)
made_accepted u name params steps r fit once above Entry = entry_met u name params steps r
made_accepted u name params steps r fit once above Edges = edges_met u name params steps r
made_accepted u name params steps r fit once above PhiArity = phi_met u name params steps r fit
made_accepted u name params steps r fit once above Arity = arity_met u name params steps r fit
made_accepted u name params steps r fit once above Types = types_met u name params steps r fit above
made_accepted u name params steps r fit once above ArgOrInit = arg_or_init_met u name params steps r fit once
made_accepted u name params steps r fit once above Callee = callee_met u name params steps r fit
made_accepted u name params steps r fit once above Memory = memory_met u name params steps r fit
made_accepted u name params steps r fit once above Cycle = cycle_met u name params steps r fit above
made_accepted u name params steps r fit once above Undefined = undefined_met u name params steps r fit above
made_accepted u name params steps r fit once above Control = control_met u name params steps r fit above

-- a narrow function meets all checks
pub narrow_accepted : (u : SsaUnit) (f : Func) → Narrow f → MeetsAll u f
narrow_accepted u f h =
    subst (MeetsAll u) (sym h.made) (made_accepted u f.sig.name h.params h.steps h.returned h.fit h.once h.result)
