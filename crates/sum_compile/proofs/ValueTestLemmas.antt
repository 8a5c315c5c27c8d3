-- The test of a narrow function's values: what a value is that passes, and that those of a narrow function do.
use Rattle.std.proofs.Common.{◌≡◌, ◌==◌, ℕ, ℤ, pos, negsuc, suc, ◌<◌, ◌≤◌, true, ◌&&◌, leb, ltb, List, [], ◌∷◌, length}
use Rattle.std.proofs.Common.{None, is_none, refl, ap, ◌∙◌, arith}
use Rattle.std.specs.Ordering.{int_eq}
use Rattle.std.proofs.lemmas.Bool.{eqb-true}
use Rattle.std.proofs.lemmas.Bool.Decides.{nat_tests}
use Rattle.gossa_base.specs.declared.ids.ValueId.{ValueId}
use Rattle.ssa_ir.specs.declared.op.Op.{Op}
use Rattle.ssa_ir.specs.declared.op.Op.TheVariants.{InitMem, Arg, Const, Add, MakeResult}
use Rattle.ssa_ir.specs.declared.op.Width.TheVariants.{W64}
use Rattle.ssa_ir.specs.declared.types.Scalar.TheVariants.{I64}
use Rattle.ssa_ir.specs.declared.types.Ty.{Ty}
use Rattle.ssa_ir.specs.declared.types.Ty.TheVariants.{One, Mem, Tuple}
use Rattle.ssa_ir.specs.declared.func.Value.{Value}
use Rattle.sum_compile.specs.Narrow.{Step, TakeArg, MakeConst, AddTwo, vid, plain_value, step_value, init_value}
use Rattle.sum_compile.specs.Narrow.{result_value, IsAbove, StepFits, StepsFit}
use Rattle.sum_compile.specs.NarrowTest.{is_word, is_memory, is_word_and_memory, is_bare, is_init_mem, is_init}
use Rattle.sum_compile.specs.NarrowTest.{stands_above, are_summands, op_fits, is_step, are_steps, is_make_result}
use Rattle.sum_compile.specs.NarrowTest.{are_results, is_result}
use Rattle.sum_compile.proofs.NumberedLemmas.{same_number}
use Rattle.sum_compile.proofs.NarrowLemmas.{step_values}
use Rattle.sum_compile.proofs.PartTestLemmas.{and_both, both_and, word_is, memory_is, word_and_memory_is, init_mem_is}
use Rattle.sum_compile.proofs.PartTestLemmas.{make_result_is, none_is, empty_is, zero_is, low_is, is_low, is_within}

-- what a value without symbol and element type is, by its parts
pub record HasNumber (n : ℕ) (v : Value) : Type 0 where
  pub id : v.id ≡ vid n
  pub sym_absent : v.sym ≡ None
  pub elem_absent : v.elem ≡ None

bare_is : (n : ℕ) (v : Value) → is_bare n v ≡ true → HasNumber n v
bare_is n v e =
    let parts = and_both (v.id.0 == n) (is_none v.sym && is_none v.elem) e in
    let names = and_both (is_none v.sym) (is_none v.elem) parts.1 in
    record {
      id = ap vid (eqb-true v.id.0 n parts.0);
      sym_absent = none_is v.sym names.0;
      elem_absent = none_is v.elem names.1;
    }

-- a value of these parts
value_is : (n : ℕ) (v : Value) (op : Op) (ty : Ty) (aux : ℤ) (args : List ValueId) → HasNumber n v → v.op ≡ op
    → v.ty ≡ ty → v.aux ≡ aux
    → v.args ≡ args → v ≡ plain_value n op ty aux args
value_is n v op ty aux args h op_is ty_is aux_is args_are = λ i. record {
  id = h.id i;
  op = op_is i;
  ty = ty_is i;
  aux = aux_is i;
  sym = h.sym_absent i;
  elem = h.elem_absent i;
  args = args_are i;
}

pub bare : (n : ℕ) → ((n == n) && true) ≡ true
bare n = both_and (n == n) true (same_number n n refl) refl

-- the first value
pub init_is : (v : Value) → is_init v ≡ true → v ≡ init_value
init_is v e =
    let zero_empty = int_eq v.aux (pos 0) && (length v.args == 0) in
    let named = and_both (is_bare 1 v) (is_init_mem v.op && (is_memory v.ty && zero_empty)) e in
    let made = and_both (is_init_mem v.op) (is_memory v.ty && zero_empty) named.1 in
    let typed = and_both (is_memory v.ty) zero_empty made.1 in
    let last = and_both (int_eq v.aux (pos 0)) (length v.args == 0) typed.1 in
    value_is 1 v InitMem Mem (pos 0) [] (bare_is 1 v named.0) (init_mem_is v.op made.0)
    (memory_is v.ty typed.0) (zero_is v.aux last.0)
    (empty_is v.args last.1)

-- values above another
above_is : (n v : ℕ) → (leb 2 v && ltb v n) ≡ true → IsAbove n v
above_is n v e =
    let parts = and_both (leb 2 v) (ltb v n) e in
    record { behind_first = at_least v parts.0; above = below v n parts.1 }
  where
    at_least : (v : ℕ) → leb 2 v ≡ true → 2 ≤ v
    at_least v e = grind (arith, nat_tests)

    below : (v n : ℕ) → ltb v n ≡ true → v < n
    below v n e = grind (arith, nat_tests)

pub is_above : (n v : ℕ) → IsAbove n v → (leb 2 v && ltb v n) ≡ true
is_above n v h = both_and (leb 2 v) (ltb v n) (is_within 2 v h.behind_first) (is_low v n h.above)

-- the step of a value that passes
pub record IsStepOf (params n : ℕ) (v : Value) : Type 0 where
  pub step : Step
  pub fits : StepFits params n step
  pub is : v ≡ step_value n step

sum_is : (params n : ℕ) (args : List ValueId) → are_summands n args ≡ true
    → IsStepOf params n (plain_value n (Add W64) (One I64) (pos 0) args)
sum_is params n [] e = cc
sum_is params n (a ∷ []) e = cc
sum_is params n (a ∷ b ∷ []) e =
    let parts = and_both (stands_above n a) (stands_above n b) e in
    record { step = AddTwo a.0 b.0; fits = (above_is n a.0 parts.0, above_is n b.0 parts.1); is = refl }
sum_is params n (a ∷ b ∷ c ∷ args) e = cc

arg_is : (params n : ℕ) (aux : ℤ) (args : List ValueId) → op_fits params n aux args Arg ≡ true
    → IsStepOf params n (plain_value n Arg (One I64) aux args)
arg_is params n (pos i) args e =
    let parts = and_both (ltb i params) (length args == 0) e in
    record {
      step = TakeArg i;
      fits = low_is i params parts.0;
      is = ap (plain_value n Arg (One I64) (pos i)) (empty_is args parts.1);
    }
arg_is params n (negsuc i) args e = cc

op_is : (params n : ℕ) (aux : ℤ) (args : List ValueId) (op : Op) → op_fits params n aux args op ≡ true
    → IsStepOf params n (plain_value n op (One I64) aux args)
op_is params n aux args Arg e = arg_is params n aux args e
op_is params n aux args (Const W64) e =
    record { step = MakeConst aux; fits = tt; is = ap (plain_value n (Const W64) (One I64) aux) (empty_is args e) }
op_is params n aux args (Add W64) e =
    let parts = and_both (int_eq aux (pos 0)) (are_summands n args) e in
    let sum = sum_is params n args parts.1 in
    record {
      step = sum.step;
      fits = sum.fits;
      is = ap (λ c. plain_value n (Add W64) (One I64) c args) (zero_is aux parts.0) ∙ sum.is;
    }
op_is params n aux args _ e = cc

step_is : (params n : ℕ) (v : Value) → is_step params n v ≡ true → IsStepOf params n v
step_is params n v e =
    let fits = op_fits params n v.aux v.args v.op in
    let named = and_both (is_bare n v) (is_word v.ty && fits) e in
    let typed = and_both (is_word v.ty) fits named.1 in
    let made = op_is params n v.aux v.args v.op typed.1 in
    record {
      step = made.step;
      fits = made.fits;
      is =
          value_is n v v.op (One I64) v.aux v.args (bare_is n v named.0) refl (word_is v.ty typed.0) refl refl
          ∙ made.is;
    }

-- the steps of values that pass
pub record AreStepsOf (params n : ℕ) (values : List Value) : Type 0 where
  pub steps : List Step
  pub fit : StepsFit params n steps
  pub are : values ≡ step_values n steps

pub steps_are : (params n : ℕ) (values : List Value) → are_steps params n values ≡ true → AreStepsOf params n values
steps_are params n [] e = record { steps = []; fit = tt; are = refl }
steps_are params n (v ∷ values) e =
    let parts = and_both (is_step params n v) (are_steps params (suc n) values) e in
    let first = step_is params n v parts.0 in
    let later = steps_are params (suc n) values parts.1 in
    record {
      steps = first.step ∷ later.steps;
      fit = (first.fits, later.fit);
      are = ap (λ x. x ∷ values) first.is ∙ ap (λ l. step_value n first.step ∷ l) later.are;
    }

-- the values of steps that fit pass
is_step_value : (params n : ℕ) (s : Step) → StepFits params n s → is_step params n (step_value n s) ≡ true
is_step_value params n (TakeArg i) fits =
    both_and ((n == n) && true) (ltb i params && true) (bare n)
    (both_and (ltb i params) true (is_low i params fits) refl)
is_step_value params n (MakeConst c) fits = both_and ((n == n) && true) true (bare n) refl
is_step_value params n (AddTwo a b) fits =
    both_and ((n == n) && true) _ (bare n)
    (both_and (leb 2 a && ltb a n) (leb 2 b && ltb b n) (is_above n a fits.0) (is_above n b fits.1))

pub are_step_values : (params n : ℕ) (steps : List Step) → StepsFit params n steps
    → are_steps params n (step_values n steps) ≡ true
are_step_values params n [] fit = refl
are_step_values params n (s ∷ steps) fit =
    both_and (is_step params n (step_value n s)) _ (is_step_value params n s fit.0)
    (are_step_values params (suc n) steps fit.1)

-- the last value
pub record IsResultOf (n : ℕ) (v : Value) : Type 0 where
  pub returned : ℕ
  pub above : IsAbove n returned
  pub is : v ≡ result_value n returned

results_are : (n : ℕ) (args : List ValueId) → are_results n args ≡ true
    → IsResultOf n (plain_value n MakeResult (Tuple (I64 ∷ [])) (pos 0) args)
results_are n [] e = cc
results_are n (r ∷ []) e = cc
results_are n (r ∷ m ∷ []) e =
    let parts = and_both (stands_above n r) (m.0 == 1) e in
    record {
      returned = r.0;
      above = above_is n r.0 parts.0;
      is = ap (λ k. plain_value n MakeResult (Tuple (I64 ∷ [])) (pos 0) (r ∷ vid k ∷ [])) (eqb-true m.0 1 parts.1);
    }
results_are n (r ∷ m ∷ c ∷ args) e = cc

pub result_is : (n : ℕ) (v : Value) → is_result n v ≡ true → IsResultOf n v
result_is n v e =
    let zero_returned = int_eq v.aux (pos 0) && are_results n v.args in
    let named = and_both (is_bare n v) (is_make_result v.op && (is_word_and_memory v.ty && zero_returned)) e in
    let made = and_both (is_make_result v.op) (is_word_and_memory v.ty && zero_returned) named.1 in
    let typed = and_both (is_word_and_memory v.ty) zero_returned made.1 in
    let last = and_both (int_eq v.aux (pos 0)) (are_results n v.args) typed.1 in
    let returns = results_are n v.args last.1 in
    record {
      returned = returns.returned;
      above = returns.above;
      is =
          value_is n v MakeResult (Tuple (I64 ∷ [])) (pos 0) v.args (bare_is n v named.0) (make_result_is v.op made.0)
          (word_and_memory_is v.ty typed.0) (zero_is v.aux last.0) refl
          ∙ returns.is;
    }

pub is_result_value : (n r : ℕ) → IsAbove n r → is_result n (result_value n r) ≡ true
is_result_value n r above =
    both_and ((n == n) && true) ((leb 2 r && ltb r n) && true) (bare n)
    (both_and (leb 2 r && ltb r n) true (is_above n r above) refl)
