-- A narrow function has one memory, v1: no value makes another one, and its result takes it.
use Rattle.std.proofs.Common.{◌≡◌, ℕ, suc, ◌+◌, ◌≤◌, inl, inr, Bool, false, true≢false, cond, List, [], ◌∷◌, length}
use Rattle.std.proofs.Common.{All, None, Some, find, refl, sym, ap, subst, ◌∙◌, arith}
use Rattle.std.specs.List.{Contains, filter}
use Rattle.ssa_ir.specs.declared.func.Block.{Block}
use Rattle.ssa_ir.specs.declared.func.Func.{Func}
use Rattle.ssa_ir.specs.declared.func.SsaUnit.{SsaUnit}
use Rattle.ssa_ir.specs.declared.func.Value.{Value}
use Rattle.ssa_ir.specs.OpKinds.{reads_memory, is_result}
use Rattle.ssa_check.specs.declared.refusal.Check.TheVariants.{Memory}
use Rattle.ssa_check.specs.Failing.{Meets}
use Rattle.ssa_ir.specs.MemoryChains.{Chained, is_inner, is_memory_phi}
use Rattle.ssa_ir.specs.MemoryPaths.{IsIncoming, IsIncomingBy, IsOutgoing, MemoryBlockFails, MemoryValueFails}
use Rattle.ssa_ir.specs.MemoryPaths.{ResultFails}
use Rattle.sum_compile.specs.Narrow.{Step, TakeArg, MakeConst, AddTwo, vid, step_value, init_value, result_value}
use Rattle.sum_compile.specs.Narrow.{block_of, func_of, StepsFit}
use Rattle.sum_compile.proofs.NarrowChecks.{each_value, narrow_meets}

-- where no value passes a test, none is kept, and none is found
none_kept : (test : Value → Bool) (values : List Value) → All (λ v. test v ≡ false) values → filter test values ≡ []
none_kept test [] none = refl
none_kept test (v ∷ values) none =
    ap (λ b. cond b (v ∷ filter test values) (filter test values)) (none 0 v (omega arith))
    ∙ none_kept test values (λ k d lt. none (suc k) d (omega (arith, lt)))

none_found : (test : Value → Bool) (values : List Value) → All (λ v. test v ≡ false) values → find test values ≡ None
none_found test [] none = refl
none_found test (v ∷ values) none =
    ap (λ b. cond b (Some v) (find test values)) (none 0 v (omega arith))
    ∙ none_found test values (λ k d lt. none (suc k) d (omega (arith, lt)))

-- a value neither changes nor reads nor joins memories
record Keeps (v : Value) : Type 0 where
  no_inner : is_inner v ≡ false
  no_reader : reads_memory v.op ≡ false
  no_phi : is_memory_phi v ≡ false

-- the value of a step does so, and is no result
step_keeps : (n : ℕ) (s : Step) → Keeps (step_value n s)
step_keeps n (TakeArg i) = record { no_inner = refl; no_reader = refl; no_phi = refl }
step_keeps n (MakeConst c) = record { no_inner = refl; no_reader = refl; no_phi = refl }
step_keeps n (AddTwo a b) = record { no_inner = refl; no_reader = refl; no_phi = refl }

no_result : (n : ℕ) (s : Step) → is_result (step_value n s).op ≡ false
no_result n (TakeArg i) = refl
no_result n (MakeConst c) = refl
no_result n (AddTwo a b) = refl

-- each value of the block does so
all_keep : (params : ℕ) (steps : List Step) (r : ℕ) → StepsFit params 2 steps → All Keeps (block_of steps r).values
all_keep params steps r fit =
    each_value Keeps params steps r fit (record { no_inner = refl; no_reader = refl; no_phi = refl })
    (λ i s at fits. step_keeps (2 + i) s)
    (record { no_inner = refl; no_reader = refl; no_phi = refl })

-- so the block is chained, without any inner definer
abbrev chain_of : (f : Func) (b : Block) → All Keeps b.values → Chained f b
chain_of f b all =
    record {
      one_phi =
          subst (λ l. length l ≤ 1) (sym (none_kept is_memory_phi b.values (λ k d lt. (all k d lt).no_phi)))
          (omega arith);
      chain = [];
      within = λ k d lt. absurd (omega (arith, lt));
      whole =
          subst (All (Contains [])) (sym (none_kept is_inner b.values (λ k d lt. (all k d lt).no_inner)))
          (λ k d lt. absurd (omega (arith, lt)));
      in_order = tt;
    }

-- v1 comes in
comes_in : (name : List ℕ) (params : ℕ) (steps : List Step) (r : ℕ) → All Keeps (block_of steps r).values
    → IsIncoming (func_of name params steps r) (block_of steps r) (vid 1)
comes_in name params steps r all =
    let f = func_of name params steps r in
    let b = block_of steps r in
    subst (λ phi. IsIncomingBy phi f b (vid 1))
    (sym (none_found is_memory_phi b.values (λ k d lt. (all k d lt).no_phi))) refl

-- and goes out
goes_out : (name : List ℕ) (params : ℕ) (steps : List Step) (r : ℕ) → All Keeps (block_of steps r).values
    → IsOutgoing (func_of name params steps r) (block_of steps r) (vid 1)
goes_out name params steps r all =
    inl (refl, record { chained = chain_of (func_of name params steps r) (block_of steps r) all; last = refl })

-- a value that does so fails as a result at the most
keeps_none : (f : Func) (b : Block) (v : Value) → Keeps v → (ResultFails f b v → ⊥) → MemoryValueFails f b v → ⊥
keeps_none f b v keeps as_result (inl fails) = true≢false (sym fails.inner ∙ keeps.no_inner)
keeps_none f b v keeps as_result (inr (inl fails)) = true≢false (sym fails.reads ∙ keeps.no_reader)
keeps_none f b v keeps as_result (inr (inr (inl fails))) = as_result fails
keeps_none f b v keeps as_result (inr (inr (inr fails))) = true≢false (sym fails.phi ∙ keeps.no_phi)

-- the block doesn't fail
block_keeps : (name : List ℕ) (params : ℕ) (steps : List Step) (r : ℕ) → All Keeps (block_of steps r).values
    → MemoryBlockFails (func_of name params steps r) (block_of steps r) → ⊥
block_keeps name params steps r all (inl (reached, loose)) =
    loose (chain_of (func_of name params steps r) (block_of steps r) all)
block_keeps name params steps r all (inr (inl (reached, uses, none))) =
    none (vid 1) (comes_in name params steps r all)
block_keeps name params steps r all (inr (inr fails)) = true≢false (sym fails.exits)

pub memory_met : (u : SsaUnit) (name : List ℕ) (params : ℕ) (steps : List Step) (r : ℕ) → StepsFit params 2 steps
    → Meets Memory u (func_of name params steps r)
memory_met u name params steps r fit =
    let f = func_of name params steps r in
    let b = block_of steps r in
    let all = all_keep params steps r fit in
    let last = result_value (length steps + 2) r in
    narrow_meets Memory u name params steps r (λ fails. fails) (block_keeps name params steps r all)
    (each_value (λ v. MemoryValueFails f b v → ⊥) params steps r fit
    (keeps_none f b init_value (record { no_inner = refl; no_reader = refl; no_phi = refl })
    (λ fails. true≢false (sym fails.result)))
    (λ i s at fits. keeps_none f b (step_value (2 + i) s) (step_keeps (2 + i) s)
    (λ fails. true≢false (sym fails.result ∙ no_result (2 + i) s)))
    (keeps_none f b last (record { no_inner = refl; no_reader = refl; no_phi = refl })
    (λ fails. true≢false (fails.other (vid 1) (goes_out name params steps r all)))))
