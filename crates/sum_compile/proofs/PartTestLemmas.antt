-- The test of a narrow function: what its smallest parts are that pass, types, ops, names and numbers.
use Rattle.std.proofs.Common.{◌≡◌, ◌==◌, ℕ, ℤ, pos, zero, suc, ◌<◌, ◌≤◌, Bool, true, false, not, ◌&&◌, leb, ltb, List}
use Rattle.std.proofs.Common.{[], ◌∷◌, length, replicate, Option, None, Some, is_none, refl, ap, ◌∙◌, arith}
use Rattle.std.specs.List.{list_all}
use Rattle.std.specs.Ordering.{int_eq}
use Rattle.std.proofs.lemmas.Bool.{eqb-true}
use Rattle.std.proofs.lemmas.Bool.Decides.{nat_tests, Decides-int_eq}
use Rattle.ssa_ir.specs.declared.op.Op.{Op}
use Rattle.ssa_ir.specs.declared.op.Op.TheVariants.{InitMem, MakeResult}
use Rattle.ssa_ir.specs.declared.types.Scalar.{Scalar}
use Rattle.ssa_ir.specs.declared.types.Scalar.TheVariants.{I64}
use Rattle.ssa_ir.specs.declared.types.Ty.{Ty}
use Rattle.ssa_ir.specs.declared.types.Ty.TheVariants.{One, Mem, Tuple}
use Rattle.sum_compile.specs.NarrowTest.{is_int64, is_one_int64, is_word, is_memory, is_word_and_memory, is_init_mem}
use Rattle.sum_compile.specs.NarrowTest.{is_make_result}

-- tests that are put together
pub and_both : (a b : Bool) → (a && b) ≡ true → (a ≡ true) × (b ≡ true)
and_both true b h = (refl, h)
and_both false b h = cc

pub both_and : (a b : Bool) → a ≡ true → b ≡ true → (a && b) ≡ true
both_and true b h i = i
both_and false b h i = cc

pub is_false : (b : Bool) → not b ≡ true → b ≡ false
is_false true h = cc
is_false false h = refl

-- types
int64_is : (t : Scalar) → is_int64 t ≡ true → t ≡ I64
int64_is I64 e = refl
int64_is _ e = cc

pub one_int64_is : (types : List Scalar) → is_one_int64 types ≡ true → types ≡ I64 ∷ []
one_int64_is [] e = cc
one_int64_is (t ∷ []) e = ap (λ x. x ∷ []) (int64_is t e)
one_int64_is (t ∷ u ∷ types) e = cc

pub all_int64_are : (types : List Scalar) → list_all is_int64 types ≡ true → types ≡ replicate (length types) I64
all_int64_are [] e = refl
all_int64_are (t ∷ types) e =
    let parts = and_both (is_int64 t) (list_all is_int64 types) e in
    ap (λ x. x ∷ types) (int64_is t parts.0) ∙ ap (λ l. I64 ∷ l) (all_int64_are types parts.1)

pub all_int64 : (n : ℕ) → list_all is_int64 (replicate n I64) ≡ true
all_int64 zero = refl
all_int64 (suc n) = all_int64 n

pub word_is : (ty : Ty) → is_word ty ≡ true → ty ≡ One I64
word_is (One t) e = ap One (int64_is t e)
word_is _ e = cc

pub memory_is : (ty : Ty) → is_memory ty ≡ true → ty ≡ Mem
memory_is Mem e = refl
memory_is _ e = cc

pub word_and_memory_is : (ty : Ty) → is_word_and_memory ty ≡ true → ty ≡ Tuple (I64 ∷ [])
word_and_memory_is (Tuple types) e = ap Tuple (one_int64_is types e)
word_and_memory_is _ e = cc

pub init_mem_is : (op : Op) → is_init_mem op ≡ true → op ≡ InitMem
init_mem_is InitMem e = refl
init_mem_is _ e = cc

pub make_result_is : (op : Op) → is_make_result op ≡ true → op ≡ MakeResult
make_result_is MakeResult e = refl
make_result_is _ e = cc

pub none_is : {A : Type 0} (o : Option A) → is_none o ≡ true → o ≡ None
none_is None e = refl
none_is (Some x) e = cc

pub empty_is : {A : Type 0} (xs : List A) → (length xs == 0) ≡ true → xs ≡ []
empty_is [] e = refl
empty_is (x ∷ xs) e = absurd (omega (arith, eqb-true (length (x ∷ xs)) 0 e))

pub zero_is : (c : ℤ) → int_eq c (pos 0) ≡ true → c ≡ pos 0
zero_is c e = (Decides-int_eq c (pos 0)).0 e

pub low_is : (i params : ℕ) → ltb i params ≡ true → i < params
low_is i params e = grind (arith, nat_tests)

pub is_low : (i params : ℕ) → i < params → ltb i params ≡ true
is_low i params lt = grind (arith, nat_tests)

pub is_within : (a b : ℕ) → a ≤ b → leb a b ≡ true
is_within a b le = grind (arith, nat_tests)

pub within_is : (a b : ℕ) → leb a b ≡ true → a ≤ b
within_is a b e = grind (arith, nat_tests)
