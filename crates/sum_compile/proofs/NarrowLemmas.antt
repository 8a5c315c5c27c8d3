-- Narrow functions, seen as values in order.
use Rattle.std.proofs.Common.{◌≡◌, ℕ, suc, ◌+◌, ◌^◌, ◌<◌, ◌≤◌, List, [], ◌∷◌, ◌++◌, length, get_or, take, Some}
use Rattle.std.proofs.Common.{slice_get, Bool, true, false, ◌&&◌, cond, filter, Option, None, refl, sym, ap, ◌∙◌, subst}
use Rattle.std.proofs.Common.{arith}
use Rattle.std.specs.Option.{IfSome}
use Rattle.std.proofs.lemmas.List.{length-replicate}
use Rattle.gossa_base.specs.declared.ids.ValueId.{ValueId}
use Rattle.ssa_ir.specs.declared.types.Scalar.{Scalar}
use Rattle.ssa_ir.specs.declared.types.Scalar.TheVariants.{I64}
use Rattle.ssa_ir.specs.declared.func.Value.{Value}
use Rattle.ssa_ir.specs.declared.func.Block.{Block}
use Rattle.ssa_ir.specs.declared.func.Func.{Func}
use Rattle.ssa_ir.specs.FirstOrder.{same_memory}
use Rattle.sum_compile.specs.Narrow.{Step, TakeArg, MakeConst, AddTwo, vid, step_value, init_value, result_value}
use Rattle.sum_compile.specs.Narrow.{values_from, block_of, Narrow}
use Rattle.sum_compile.specs.tables.Numbered.{NumberedFrom}
use Rattle.sum_compile.specs.Plain.{value_named, returned_value}
use Rattle.sum_compile.proofs.NumberedLemmas.{named_get}

-- the value of a step has its number
pub step_number : (n : ℕ) (s : Step) → (step_value n s).id.0 ≡ n
step_number n (TakeArg i) = refl
step_number n (MakeConst c) = refl
step_number n (AddTwo a b) = refl

-- the values of steps are numbered in order
pub values_numbered : (n : ℕ) (steps : List Step) (r : ℕ) → NumberedFrom n (values_from n steps r)
values_numbered n [] r = (refl, tt)
values_numbered n (s ∷ steps) r = (step_number n s, values_numbered (suc n) steps r)

-- there is one value for each step, and the result
pub length-values_from : (n : ℕ) (steps : List Step) (r : ℕ) → length (values_from n steps r) ≡ length steps + 1
length-values_from n [] r = refl
length-values_from n (s ∷ steps) r = omega (arith, length-values_from (suc n) steps r)

-- the last value is the result
pub last_value : (n : ℕ) (steps : List Step) (r : ℕ)
    → slice_get (values_from n steps r) (length steps) ≡ Some (result_value (n + length steps) r)
last_value n [] r = ap (λ k. Some (result_value k r)) (omega arith)
last_value n (s ∷ steps) r = last_value (suc n) steps r ∙ ap (λ k. Some (result_value k r)) (omega arith)

-- it is the value that is returned
pub result_named : (steps : List Step) (r : ℕ)
    → value_named (init_value ∷ values_from 2 steps r) (vid (length steps + 2))
    ≡ Some (result_value (length steps + 2) r)
result_named steps r =
    sym (named_get 1 (init_value ∷ values_from 2 steps r) (vid (length steps + 2)) (suc (length steps))
    (refl, values_numbered 2 steps r) (omega arith))
    ∙ last_value 2 steps r ∙ ap (λ k. Some (result_value k r)) (omega arith)

-- the block of a narrow function is that of its steps
pub narrow_block : (f : Func) (h : Narrow f) (blocks : List Block) (b : Block) → blocks ≡ f.blocks
    → b ≡ get_or blocks 0 b
    → b ≡ block_of h.steps h.returned
narrow_block f h blocks b e is = is ∙ ap (λ l. get_or l 0 b) (e ∙ ap (λ g. g.blocks) h.made)

pub block_numbered : (steps : List Step) (r : ℕ) (b : Block) → b ≡ block_of steps r → NumberedFrom 1 b.values
block_numbered steps r b e = subst (λ x. NumberedFrom 1 x.values) (sym e) (refl, values_numbered 2 steps r)

pub block_few : (steps : List Step) (r : ℕ) (b : Block) → b ≡ block_of steps r → length steps + 2 ≤ 500
    → length b.values < 2 ^ 32
block_few steps r b e h = omega (arith, ap (λ x. length x.values) e, length-values_from 2 steps r)

pub block_few_results : (steps : List Step) (r : ℕ) (b : Block) → b ≡ block_of steps r
    → IfSome (returned_value b.values b.control) (λ v. length v.args < 2 ^ 32)
block_few_results steps r b e =
    subst (λ x. IfSome (returned_value x.values x.control) (λ v. length v.args < 2 ^ 32)) (sym e)
    (subst (λ o. IfSome o (λ v. length v.args < 2 ^ 32)) (sym (result_named steps r)) (omega arith))

pub few_params : (f : Func) (h : Narrow f) → length f.sig.params < 2 ^ 32
few_params f h =
    omega (arith, ap (λ g. length g.sig.params) h.made, length-replicate {A = Scalar} h.params I64, h.few_params)

pub one_block : (f : Func) (h : Narrow f) → f.blocks ≡ block_of h.steps h.returned ∷ []
one_block f h = ap (λ g. g.blocks) h.made

-- the values of steps, from value n on
abbrev pub step_values : ℕ → List Step → List Value
step_values n [] = []
step_values n (s ∷ steps) = step_value n s ∷ step_values (suc n) steps

-- the values of steps, and then the result
pub values_from_is : (n k : ℕ) (steps : List Step) (r : ℕ) → k ≡ n + length steps
    → values_from n steps r ≡ step_values n steps ++ result_value k r ∷ []
values_from_is n k [] r at = ap (λ m. result_value m r ∷ []) (omega arith)
values_from_is n k (s ∷ steps) r at =
    ap (λ values. step_value n s ∷ values) (values_from_is (suc n) k steps r (omega arith))

pub length-step_values : (n : ℕ) (steps : List Step) → length (step_values n steps) ≡ length steps
length-step_values n [] = refl
length-step_values n (s ∷ steps) = ap suc (length-step_values (suc n) steps)

-- the front of the values is the steps
pub front_is : (n : ℕ) (steps : List Step) (r : ℕ) → take (length steps) (values_from n steps r) ≡ step_values n steps
front_is n [] r = refl
front_is n (s ∷ steps) r = ap (λ l. step_value n s ∷ l) (front_is (suc n) steps r)

-- where no value passes a test, none is kept
pub none_kept : (test : Value → Bool) → ((v : Value) → test v ≡ false) → (values : List Value) → filter test values ≡ []
none_kept test fails [] = refl
none_kept test fails (v ∷ values) =
    ap (λ b. cond b (v ∷ filter test values) (filter test values)) (fails v) ∙ none_kept test fails values

-- no value takes the memory of one that takes none
pub takes_other : (reads : Bool) (memory : Option ValueId) → (reads && same_memory memory None) ≡ false
takes_other false memory = refl
takes_other true None = refl
takes_other true (Some a) = refl
