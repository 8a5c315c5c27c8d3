-- The functions that are compiled so far: one block that adds constants and parameters of type int64.
use Rattle.std.specs.Prelude.{◌≡◌, ℕ, suc, ℤ, pos, ◌+◌, ◌<◌, ◌≤◌, ◌==◌, Bool, true, false, not, ◌&&◌, IsTrue, List, []}
use Rattle.std.specs.Prelude.{◌∷◌, length, replicate, None, Some}
use Rattle.std.specs.List.{list_any}
use Rattle.gossa_base.specs.declared.ids.ValueId.{ValueId}
use Rattle.ssa_ir.specs.declared.op.Width.TheVariants.{W64}
use Rattle.ssa_ir.specs.declared.op.Op.{Op}
use Rattle.ssa_ir.specs.declared.op.Op.TheVariants.{InitMem, Arg, Const, Add, MakeResult}
use Rattle.ssa_ir.specs.declared.types.Scalar.TheVariants.{I64}
use Rattle.ssa_ir.specs.declared.types.Sig.{Sig}
use Rattle.ssa_ir.specs.declared.types.Ty.{Ty}
use Rattle.ssa_ir.specs.declared.types.Ty.TheVariants.{One, Mem, Tuple}
use Rattle.ssa_ir.specs.declared.func.Value.{Value}
use Rattle.ssa_ir.specs.declared.func.Kind.TheVariants.{Ret}
use Rattle.ssa_ir.specs.declared.func.Block.{Block}
use Rattle.ssa_ir.specs.declared.func.Func.{Func}

-- what a value between the first and the last makes: a parameter, a constant, or the sum of two values
pub data Step : Type 0 where
  TakeArg : (number : ℕ) → Step
  MakeConst : (constant : ℤ) → Step
  AddTwo : (first second : ℕ) → Step

abbrev pub vid : ℕ → ValueId
vid n = record { 0 = n }

-- a value with no symbol and no element type
abbrev pub plain_value : ℕ → Op → Ty → ℤ → List ValueId → Value
plain_value n op ty aux args = record { id = vid n; op = op; ty = ty; aux = aux; sym = None; elem = None; args = args }

-- the value of a step, with its number
abbrev pub step_value : ℕ → Step → Value
step_value n (TakeArg i) = plain_value n Arg (One I64) (pos i) []
step_value n (MakeConst c) = plain_value n (Const W64) (One I64) c []
step_value n (AddTwo a b) = plain_value n (Add W64) (One I64) (pos 0) (vid a ∷ vid b ∷ [])

-- v1, the memory at the entry
abbrev pub init_value : Value
init_value = plain_value 1 InitMem Mem (pos 0) []

-- the last value: one result, and the memory
abbrev pub result_value : ℕ → ℕ → Value
result_value n r = plain_value n MakeResult (Tuple (I64 ∷ [])) (pos 0) (vid r ∷ vid 1 ∷ [])

-- the values from number n on: those of the steps, and then the result
abbrev pub values_from : ℕ → List Step → ℕ → List Value
values_from n [] r = result_value n r ∷ []
values_from n (s ∷ steps) r = step_value n s ∷ values_from (suc n) steps r

-- the block of these values, the last of which is value n
abbrev pub narrow_block : ℕ → List Value → Block
narrow_block n values = record {
  id = record { split = false; n = 1 };
  preds = [];
  values = values;
  kind = Ret;
  control = Some (vid n);
  succs = [];
}

-- the block of these steps, which returns value r
abbrev pub block_of : List Step → ℕ → Block
block_of steps r = narrow_block (length steps + 2) (init_value ∷ values_from 2 steps r)

-- the signature of a narrow function
abbrev pub narrow_sig : List ℕ → ℕ → Sig
narrow_sig name params = record { name = name; params = replicate params I64; results = I64 ∷ [] }

-- the function of these steps, with this name and this many parameters, that returns value r
abbrev pub func_of : List ℕ → ℕ → List Step → ℕ → Func
func_of name params steps r = record { sig = narrow_sig name params; blocks = block_of steps r ∷ [] }

-- a value that stands above number n, and isn't v1
pub record IsAbove (n v : ℕ) : Type 0 where
  pub behind_first : 2 ≤ v
  pub above : v < n

-- the step of value n fits a function with this many parameters: the parameter is there, and both summands stand above
abbrev pub StepFits : (params n : ℕ) → Step → Type 0
StepFits params n (TakeArg i) = i < params
StepFits params n (MakeConst c) = Unit {0}
StepFits params n (AddTwo a b) = IsAbove n a × IsAbove n b

-- the steps from value n on fit
abbrev pub StepsFit : (params n : ℕ) → List Step → Type 0
StepsFit params n [] = Unit {0}
StepsFit params n (s ∷ steps) = StepFits params n s × StepsFit params (suc n) steps

abbrev pub takes : ℕ → Step → Bool
takes i (TakeArg j) = i == j
takes i (MakeConst c) = false
takes i (AddTwo a b) = false

-- no later step takes the parameter that a step takes
abbrev pub is_new : Step → List Step → Bool
is_new (TakeArg i) later = not (list_any (takes i) later)
is_new (MakeConst c) later = true
is_new (AddTwo a b) later = true

-- no parameter is taken twice
abbrev pub takes_once : List Step → Bool
takes_once [] = true
takes_once (s ∷ steps) = is_new s steps && takes_once steps

-- a narrow function: that of some steps
pub record Narrow (f : Func) : Type 0 where
  pub params : ℕ
  pub steps : List Step
  pub returned : ℕ
  pub few_params : params ≤ 16
  pub few_values : length steps + 2 ≤ 500
  pub fit : StepsFit params 2 steps
  pub once : IsTrue (takes_once steps)
  pub result : IsAbove (length steps + 2) returned
  pub made : f ≡ func_of f.sig.name params steps returned
