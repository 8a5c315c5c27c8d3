-- What each op asks of the classes of its arguments and of its result.
use Rattle.std.specs.Prelude.{Bool, true, false, ◌&&◌, ◌||◌, List, [], ◌∷◌, map, length, ◌-◌, take, Option, None, Some}
use Rattle.std.specs.Cmp.Lexicographic.{pointwise}
use Rattle.std.specs.List.{list_all}
use Rattle.gossa_base.specs.declared.ids.ValueId.{ValueId}
use Rattle.ssa_ir.specs.declared.op.Op.{Op}
use Rattle.ssa_ir.specs.declared.op.Op.TheVariants.{Add, Sub, Mul, And, Or, Xor, Neg, Com, Div, DivU, Mod, ModU, Lsh}
use Rattle.ssa_ir.specs.declared.op.Op.TheVariants.{Rsh, RshU, Eq, Neq, Less, Leq, LessU, LeqU, EqB, NeqB, AndB, OrB}
use Rattle.ssa_ir.specs.declared.op.Op.TheVariants.{Not, EqPtr, NeqPtr, IsNonNil, IsInBounds, IsSliceInBounds, SignExt}
use Rattle.ssa_ir.specs.declared.op.Op.TheVariants.{ZeroExt, Trunc, AddPtr, OffPtr, Load, Store, NilCheck, CondSelect}
use Rattle.ssa_ir.specs.declared.op.Op.TheVariants.{Const, ConstBool, ConstNil, SB, Addr, Phi, Copy, Arg, InitMem}
use Rattle.ssa_ir.specs.declared.op.Op.TheVariants.{StaticLECall, SelectN, MakeResult}
use Rattle.ssa_ir.specs.declared.op.Width.TheVariants.{W64}
use Rattle.ssa_ir.specs.declared.types.Scalar.{Scalar}
use Rattle.ssa_ir.specs.declared.func.Func.{Func}
use Rattle.ssa_ir.specs.declared.func.Value.{Value}
use Rattle.ssa_ir.specs.Lookups.{value_of}
use Rattle.ssa_ir.specs.Widths.{narrow_of, wide_of}
use Rattle.ssa_ir.specs.declared.classes.Class.{Class}
use Rattle.ssa_ir.specs.declared.classes.Class.TheVariants.{Int, Bool as BoolClass, Pointer, Memory, Tuple, Neither}
use Rattle.ssa_ir.specs.Classes.{class_of, class_of_scalar, is_scalar, same_class}

-- what an op asks of classes. How many arguments a Copy, an Addr or a Phi has is asked by itself
pub data Asks : Type 0 where
  -- arguments of these classes, and this result
  Exactly : List Class → Class → Asks
  -- arguments of these classes, and an integer, a bool or a pointer
  AnyScalar : List Class → Asks
  -- a pointer, a value of the type in braces and a memory; a memory
  AsStored : Asks
  -- arguments of the result's class, which is no memory and no tuple
  AllOneScalar : Asks
  -- arguments of the result's class, which may be a memory too
  AllOneClass : Asks
  -- two arguments of the result's class, no memory and no tuple, and a bool
  TwoAndBool : Asks
  -- an SB; a pointer
  OfBase : Asks
  -- a memory last; a tuple. What stands before the memory is asked with the callee
  Calls : Asks
  -- no tuple. What it names is asked with the callee
  Selects : Asks
  -- integers, bools and pointers, and a memory last; a tuple
  Returns : Asks
  -- what no unit has
  Nothing : Asks

-- an op of two arguments of one class
abbrev pub two_of : Class → Class → Asks
two_of c result = Exactly (c ∷ c ∷ []) result

abbrev pub asks : Op → Asks
asks (Add w) = two_of (Int w) (Int w)
asks (Sub w) = two_of (Int w) (Int w)
asks (Mul w) = two_of (Int w) (Int w)
asks (And w) = two_of (Int w) (Int w)
asks (Or w) = two_of (Int w) (Int w)
asks (Xor w) = two_of (Int w) (Int w)
asks (Neg w) = Exactly (Int w ∷ []) (Int w)
asks (Com w) = Exactly (Int w ∷ []) (Int w)
asks (Div w) = two_of (Int w) (Int w)
asks (DivU w) = two_of (Int w) (Int w)
asks (Mod w) = two_of (Int w) (Int w)
asks (ModU w) = two_of (Int w) (Int w)
asks (Lsh w) = Exactly (Int w ∷ Int W64 ∷ []) (Int w)
asks (Rsh w) = Exactly (Int w ∷ Int W64 ∷ []) (Int w)
asks (RshU w) = Exactly (Int w ∷ Int W64 ∷ []) (Int w)
asks (Eq w) = two_of (Int w) BoolClass
asks (Neq w) = two_of (Int w) BoolClass
asks (Less w) = two_of (Int w) BoolClass
asks (Leq w) = two_of (Int w) BoolClass
asks (LessU w) = two_of (Int w) BoolClass
asks (LeqU w) = two_of (Int w) BoolClass
asks EqB = two_of BoolClass BoolClass
asks NeqB = two_of BoolClass BoolClass
asks AndB = two_of BoolClass BoolClass
asks OrB = two_of BoolClass BoolClass
asks Not = Exactly (BoolClass ∷ []) BoolClass
asks EqPtr = two_of Pointer BoolClass
asks NeqPtr = two_of Pointer BoolClass
asks IsNonNil = Exactly (Pointer ∷ []) BoolClass
asks IsInBounds = two_of (Int W64) BoolClass
asks IsSliceInBounds = two_of (Int W64) BoolClass
asks (SignExt p) = Exactly (Int (narrow_of p) ∷ []) (Int (wide_of p))
asks (ZeroExt p) = Exactly (Int (narrow_of p) ∷ []) (Int (wide_of p))
asks (Trunc p) = Exactly (Int (wide_of p) ∷ []) (Int (narrow_of p))
asks AddPtr = Exactly (Pointer ∷ Int W64 ∷ []) Pointer
asks OffPtr = Exactly (Pointer ∷ []) Pointer
asks Load = AnyScalar (Pointer ∷ Memory ∷ [])
asks Store = AsStored
asks NilCheck = Exactly (Pointer ∷ Memory ∷ []) Pointer
asks CondSelect = TwoAndBool
asks (Const w) = Exactly [] (Int w)
asks ConstBool = Exactly [] BoolClass
asks ConstNil = Exactly [] Pointer
asks SB = Exactly [] (Int W64)
asks Addr = OfBase
asks Phi = AllOneClass
asks Copy = AllOneScalar
asks Arg = AnyScalar []
asks InitMem = Exactly [] Memory
asks StaticLECall = Calls
asks SelectN = Selects
asks MakeResult = Returns
asks _ = Nothing

-- the class of a value of the function; one that isn't there has none
abbrev pub class_of_value : Option Value → Class
class_of_value None = Neither
class_of_value (Some v) = class_of v.ty

abbrev pub class_at : Func → ValueId → Class
class_at f id = class_of_value (value_of f id)

abbrev pub classes_of : Func → List ValueId → List Class
classes_of f args = map (class_at f) args

abbrev pub are : List Class → List Class → Bool
are classes asked = pointwise same_class classes asked

abbrev pub class_of_elem : Option Scalar → Class
class_of_elem None = Neither
class_of_elem (Some t) = class_of_scalar t

abbrev pub makes_base : Op → Bool
makes_base SB = true
makes_base _ = false

abbrev pub is_base : Option Value → Bool
is_base None = false
is_base (Some v) = makes_base v.op

-- the arguments before the last
abbrev pub before_last : List ValueId → List ValueId
before_last args = take (length args - 1) args

-- the last of these classes; of none it is that of no value
abbrev pub last_of : List Class → Class
last_of [] = Neither
last_of (c ∷ []) = c
last_of (c ∷ d ∷ classes) = last_of (d ∷ classes)

abbrev pub last_is_memory : Func → List ValueId → Bool
last_is_memory f args = same_class (last_of (classes_of f args)) Memory

-- whether a value has what its op asks
abbrev pub has_classes : Func → Value → Asks → Bool
has_classes f v (Exactly classes result) = are (classes_of f v.args) classes && same_class (class_of v.ty) result
has_classes f v (AnyScalar classes) = are (classes_of f v.args) classes && is_scalar (class_of v.ty)
has_classes f v AsStored =
    are (classes_of f v.args) (Pointer ∷ class_of_elem v.elem ∷ Memory ∷ []) && same_class (class_of v.ty) Memory
has_classes f v AllOneScalar = is_scalar (class_of v.ty) && list_all (same_class (class_of v.ty)) (classes_of f v.args)
has_classes f v AllOneClass =
    (is_scalar (class_of v.ty) || same_class (class_of v.ty) Memory)
    && list_all (same_class (class_of v.ty)) (classes_of f v.args)
has_classes f v TwoAndBool =
    is_scalar (class_of v.ty) && are (classes_of f v.args) (class_of v.ty ∷ class_of v.ty ∷ BoolClass ∷ [])
has_classes f v OfBase =
    list_all (λ id. is_base (value_of f id)) v.args && same_class (class_of v.ty) Pointer
has_classes f v Calls = last_is_memory f v.args && same_class (class_of v.ty) Tuple
has_classes f v Selects = is_scalar (class_of v.ty) || same_class (class_of v.ty) Memory
has_classes f v Returns =
    last_is_memory f v.args
    && list_all is_scalar (classes_of f (before_last v.args))
    && same_class (class_of v.ty) Tuple
has_classes f v Nothing = false
