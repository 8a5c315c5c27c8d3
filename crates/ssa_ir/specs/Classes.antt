-- The classes of types: what an op asks of its arguments and of its result.
use Rattle.std.specs.Prelude.{◌==◌, Bool, true, false}
use Rattle.ssa_ir.specs.declared.op.Width.TheVariants.{W8, W16, W32, W64}
use Rattle.ssa_ir.specs.declared.types.Scalar.{Scalar}
use Rattle.ssa_ir.specs.declared.types.Scalar.TheVariants.{I8, I16, I32, I64, U8, U16, U32, U64, Uintptr}
use Rattle.ssa_ir.specs.declared.types.Scalar.TheVariants.{Bool as BoolType, Ptr}
use Rattle.ssa_ir.specs.declared.types.Ty.{Ty}
use Rattle.ssa_ir.specs.declared.func.Value.{Value}
use Rattle.ssa_ir.specs.declared.types.Ty.TheVariants.{One, Mem, Tuple as TupleType, Flags, Void}
use Rattle.ssa_ir.specs.Widths.{bits}
use Rattle.ssa_ir.specs.declared.classes.Class.{Class}
use Rattle.ssa_ir.specs.declared.classes.Class.TheVariants.{Int, Bool as BoolClass, Pointer, Memory, Tuple, Neither}

-- the class of a type of one word: signed and unsigned words of one width are one class
abbrev pub class_of_scalar : Scalar → Class
class_of_scalar I8 = Int W8
class_of_scalar U8 = Int W8
class_of_scalar I16 = Int W16
class_of_scalar U16 = Int W16
class_of_scalar I32 = Int W32
class_of_scalar U32 = Int W32
class_of_scalar I64 = Int W64
class_of_scalar U64 = Int W64
class_of_scalar Uintptr = Int W64
class_of_scalar BoolType = BoolClass
class_of_scalar Ptr = Pointer

abbrev pub class_of : Ty → Class
class_of (One t) = class_of_scalar t
class_of Mem = Memory
class_of (TupleType types) = Tuple
class_of Flags = Neither
class_of Void = Neither

-- a class of values of one word: an integer, a bool or a pointer
abbrev pub is_scalar : Class → Bool
is_scalar (Int w) = true
is_scalar BoolClass = true
is_scalar Pointer = true
is_scalar Memory = false
is_scalar Tuple = false
is_scalar Neither = false

-- two classes are one
abbrev pub same_class : Class → Class → Bool
same_class (Int w) (Int x) = bits w == bits x
same_class BoolClass BoolClass = true
same_class Pointer Pointer = true
same_class Memory Memory = true
same_class Tuple Tuple = true
same_class Neither Neither = true
same_class _ _ = false

-- a memory, by its type
abbrev pub is_memory : Value → Bool
is_memory v = same_class (class_of v.ty) Memory
