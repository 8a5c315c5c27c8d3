-- What the checks of values by themselves and of their arguments ask: which values are as they must be.
use Rattle.std.specs.Prelude.{ℕ, ℤ, pos, negsuc, ◌==◌, nat_lt, Bool, true, false, not, ◌&&◌, ◌||◌}
use Rattle.std.specs.Prelude.{length, Option, None, Some, slice_get}
use Rattle.std.specs.List.{list_any}
use Rattle.std.specs.Ordering.{int_eq}
use Rattle.ssa_ir.specs.declared.op.Arity.{Arity}
use Rattle.ssa_ir.specs.declared.op.Arity.TheVariants.{Exact, Any}
use Rattle.ssa_ir.specs.declared.types.Scalar.{Scalar}
use Rattle.ssa_ir.specs.declared.func.Block.{Block}
use Rattle.ssa_ir.specs.declared.func.Func.{Func}
use Rattle.ssa_ir.specs.declared.func.Value.{Value}
use Rattle.ssa_ir.specs.Edges.{is_entry}
use Rattle.ssa_ir.specs.OpKinds.{is_phi, is_arg, is_init}
use Rattle.ssa_ir.specs.Lookups.{values_of}
use Rattle.ssa_ir.specs.Ops.{row_of}
use Rattle.ssa_ir.specs.Classes.{class_of, class_of_scalar, same_class}
use Rattle.ssa_check.specs.OpTypes.{asks, has_classes}

-- ---- the number of arguments

-- a Phi has one argument for each predecessor of its block, and doesn't stand in the entry
abbrev pub phi_holds : Func → Block → Value → Bool
phi_holds f b v = not (is_phi v.op) || (not (is_entry f b) && length v.args == length b.preds)

abbrev pub is_number_of : Arity → ℕ → Bool
is_number_of (Exact n) k = k == n
is_number_of Any k = true

-- any other op has the number of arguments of its row
abbrev pub arity_holds : Value → Bool
arity_holds v = is_number_of (row_of v.op).arity (length v.args)

-- ---- classes

-- arguments and result have the classes that the op asks
abbrev pub types_hold : Func → Value → Bool
types_hold f v = has_classes f v (asks v.op)

-- ---- parameters and the memory at the entry

abbrev pub is_lower : Value → Value → Bool
is_lower u v = nat_lt u.id.0 v.id.0

-- the function has an InitMem
abbrev pub has_init : Func → Bool
has_init f = list_any (λ v. is_init v.op) (values_of f)

-- an InitMem stands in the entry, and no other one has a lower number
abbrev pub init_holds : Func → Block → Value → Bool
init_holds f b v = is_entry f b && not (list_any (λ u. is_init u.op && is_lower u v) (values_of f))

abbrev pub is_of_class : Value → Option Scalar → Bool
is_of_class v None = false
is_of_class v (Some t) = same_class (class_of v.ty) (class_of_scalar t)

-- the type of the parameter of this number
abbrev pub parameter : Func → ℤ → Option Scalar
parameter f (pos i) = slice_get f.sig.params i
parameter f (negsuc i) = None

-- an Arg stands in the entry, and has the number of a parameter and its class; no other Arg of its number has a lower
-- one of its own
abbrev pub arg_holds : Func → Block → Value → Bool
arg_holds f b v =
    is_entry f b
    && is_of_class v (parameter f v.aux)
    && not (list_any (λ u. is_arg u.op && int_eq u.aux v.aux && is_lower u v) (values_of f))

abbrev pub arg_or_init_holds : Func → Block → Value → Bool
arg_or_init_holds f b v = (not (is_init v.op) || init_holds f b v) && (not (is_arg v.op) || arg_holds f b v)
