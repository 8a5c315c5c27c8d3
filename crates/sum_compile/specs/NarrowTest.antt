-- A test of functions that exactly the narrow ones pass.
use Rattle.std.specs.Prelude.{ℕ, suc, ℤ, pos, ◌==◌, nat_le, nat_lt, Bool, true, false, not, ◌&&◌, ◌+◌, ◌-◌, List, []}
use Rattle.std.specs.Prelude.{◌∷◌, length, take, slice_get, slice_index_or, slice_set, replicate, Option, None, Some}
use Rattle.std.specs.Prelude.{is_none}
use Rattle.std.specs.List.{list_all}
use Rattle.std.specs.Ordering.{int_eq}
use Rattle.gossa_base.specs.declared.ids.ValueId.{ValueId}
use Rattle.ssa_ir.specs.declared.op.Width.TheVariants.{W64}
use Rattle.ssa_ir.specs.declared.op.Op.{Op}
use Rattle.ssa_ir.specs.declared.op.Op.TheVariants.{InitMem, Arg, Const, Add, MakeResult}
use Rattle.ssa_ir.specs.declared.types.Scalar.{Scalar}
use Rattle.ssa_ir.specs.declared.types.Scalar.TheVariants.{I64}
use Rattle.ssa_ir.specs.declared.types.Sig.{Sig}
use Rattle.ssa_ir.specs.declared.types.Ty.{Ty}
use Rattle.ssa_ir.specs.declared.types.Ty.TheVariants.{One, Mem, Tuple}
use Rattle.ssa_ir.specs.declared.func.Value.{Value}
use Rattle.ssa_ir.specs.declared.func.Kind.{Kind}
use Rattle.ssa_ir.specs.declared.func.Kind.TheVariants.{Ret}
use Rattle.ssa_ir.specs.declared.func.Block.{Block}
use Rattle.ssa_ir.specs.declared.func.Func.{Func}
use Rattle.sum_compile.specs.Plain.{parameter_number}

abbrev pub is_int64 : Scalar → Bool
is_int64 I64 = true
is_int64 _ = false

abbrev pub is_one_int64 : List Scalar → Bool
is_one_int64 (t ∷ []) = is_int64 t
is_one_int64 _ = false

-- int64
abbrev pub is_word : Ty → Bool
is_word (One t) = is_int64 t
is_word _ = false

-- mem
abbrev pub is_memory : Ty → Bool
is_memory Mem = true
is_memory _ = false

-- int64,mem
abbrev pub is_word_and_memory : Ty → Bool
is_word_and_memory (Tuple types) = is_one_int64 types
is_word_and_memory _ = false

-- a value of this number, with no symbol and no element type
abbrev pub is_bare : ℕ → Value → Bool
is_bare n v = (v.id.0 == n) && (is_none v.sym && is_none v.elem)

abbrev pub is_init_mem : Op → Bool
is_init_mem InitMem = true
is_init_mem _ = false

-- v1, the memory at the entry
abbrev pub is_init : Value → Bool
is_init v =
    is_bare 1 v && (is_init_mem v.op && (is_memory v.ty && (int_eq v.aux (pos 0) && (length v.args == 0))))

-- a value that stands above number n, and isn't v1
abbrev pub stands_above : ℕ → ValueId → Bool
stands_above n v = nat_le 2 v.0 && nat_lt v.0 n

abbrev pub are_summands : ℕ → List ValueId → Bool
are_summands n (a ∷ b ∷ []) = stands_above n a && stands_above n b
are_summands n _ = false

-- a parameter that is there
abbrev pub is_there : ℕ → Option ℕ → Bool
is_there params None = false
is_there params (Some i) = nat_lt i params

-- value n may have this op with this number and these arguments: a parameter that is there, a constant, or a sum of
-- values above
abbrev pub op_fits : (params n : ℕ) → ℤ → List ValueId → Op → Bool
op_fits params n aux args Arg = is_there params (parameter_number Arg aux) && (length args == 0)
op_fits params n aux args (Const W64) = length args == 0
op_fits params n aux args (Add W64) = int_eq aux (pos 0) && are_summands n args
op_fits params n aux args _ = false

-- value n is a step
abbrev pub is_step : (params n : ℕ) → Value → Bool
is_step params n v = is_bare n v && (is_word v.ty && op_fits params n v.aux v.args v.op)

-- the values from number n on are steps
abbrev pub are_steps : (params n : ℕ) → List Value → Bool
are_steps params n [] = true
are_steps params n (v ∷ values) = is_step params n v && are_steps params (suc n) values

-- the flag of a parameter, among one for each parameter; where there is no parameter, there is no flag
abbrev pub has_flag : List Bool → Option ℕ → Bool
has_flag flags None = false
has_flag flags (Some i) = slice_index_or flags i false

-- the flags, with that of a parameter
abbrev pub with_flag : List Bool → Option ℕ → List Bool
with_flag flags None = flags
with_flag flags (Some i) = slice_set flags i true

-- no value takes a parameter that has a flag, or that one before it takes
abbrev pub take_new : List Bool → List Value → Bool
take_new flags [] = true
take_new flags (v ∷ values) =
    let number = parameter_number v.op v.aux in not (has_flag flags number) && take_new (with_flag flags number) values

abbrev pub no_flags : List Bool
no_flags = replicate 16 false

abbrev pub is_make_result : Op → Bool
is_make_result MakeResult = true
is_make_result _ = false

-- a value above number n, and the memory at the entry
abbrev pub are_results : ℕ → List ValueId → Bool
are_results n (r ∷ m ∷ []) = stands_above n r && (m.0 == 1)
are_results n _ = false

-- value n, the last: one result, and the memory
abbrev pub is_result : ℕ → Value → Bool
is_result n v =
    is_bare n v && (is_make_result v.op && (is_word_and_memory v.ty && (int_eq v.aux (pos 0) && are_results n v.args)))

abbrev pub is_last : ℕ → Option Value → Bool
is_last n None = false
is_last n (Some v) = is_result n v

-- the values from v2 on: steps, none of which takes a parameter again, and then the result
abbrev pub are_body : ℕ → List Value → Bool
are_body params values =
    let steps = take (length values - 1) values in
    is_last (length values + 1) (slice_get values (length values - 1))
    && (are_steps params 2 steps && take_new no_flags steps)

-- the values of a narrow function with so many parameters
abbrev pub are_narrow : ℕ → List Value → Bool
are_narrow params [] = false
are_narrow params (first ∷ values) = is_init first && are_body params values

abbrev pub is_ret : Kind → Bool
is_ret Ret = true
is_ret _ = false

abbrev pub is_control : ℕ → Option ValueId → Bool
is_control n None = false
is_control n (Some id) = id.0 == n

-- b1, which is entered from no block, and returns its last value
abbrev pub is_whole : Block → Bool
is_whole b =
    not b.id.split && ((b.id.n == 1) && ((length b.preds == 0) && ((length b.succs == 0)
    && (is_ret b.kind && is_control (length b.values) b.control))))

-- the one block of a narrow function with so many parameters
abbrev pub is_narrow_block : ℕ → Block → Bool
is_narrow_block params b = nat_le (length b.values) 500 && (is_whole b && are_narrow params b.values)

-- few enough parameters and one result, all of type int64
abbrev pub is_narrow_sig : Sig → Bool
is_narrow_sig s = nat_le (length s.params) 16 && (list_all is_int64 s.params && is_one_int64 s.results)

abbrev pub has_narrow_block : ℕ → List Block → Bool
has_narrow_block params (b ∷ []) = is_narrow_block params b
has_narrow_block params _ = false

-- the test
abbrev pub is_narrow : Func → Bool
is_narrow f = is_narrow_sig f.sig && has_narrow_block (length f.sig.params) f.blocks
