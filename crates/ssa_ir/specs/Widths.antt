-- The widths of types, in bits and in bytes, and words kept at them.
use Rattle.std.specs.Prelude.{ℕ, ◌/◌, Bool as Truth, true, false}
use Rattle.gossa_base.specs.Words.{low}
use Rattle.ssa_ir.specs.declared.op.Width.{Width}
use Rattle.ssa_ir.specs.declared.op.Width.TheVariants.{W8, W16, W32, W64}
use Rattle.ssa_ir.specs.declared.op.WidthPair.{WidthPair}
use Rattle.ssa_ir.specs.declared.op.WidthPair.TheVariants.{W8W16, W8W32, W8W64, W16W32, W16W64, W32W64}
use Rattle.ssa_ir.specs.declared.types.Scalar.{Scalar}
use Rattle.ssa_ir.specs.declared.types.Scalar.TheVariants.{I8, I16, I32, I64, U8, U16, U32, U64, Uintptr, Bool, Ptr}
use Rattle.ssa_ir.specs.declared.types.Ty.{Ty}
use Rattle.ssa_ir.specs.declared.types.Ty.TheVariants.{One, Mem, Tuple, Flags, Void}

abbrev pub bits : Width → ℕ
bits W8 = 8
bits W16 = 16
bits W32 = 32
bits W64 = 64

abbrev pub bytes : Width → ℕ
bytes w = bits w / 8

-- the smaller and the greater width of two
abbrev pub narrow_of : WidthPair → Width
narrow_of W8W16 = W8
narrow_of W8W32 = W8
narrow_of W8W64 = W8
narrow_of W16W32 = W16
narrow_of W16W64 = W16
narrow_of W32W64 = W32

abbrev pub wide_of : WidthPair → Width
wide_of W8W16 = W16
wide_of W8W32 = W32
wide_of W8W64 = W64
wide_of W16W32 = W32
wide_of W16W64 = W64
wide_of W32W64 = W64

-- a bool is a byte, and a pointer a word
abbrev pub scalar_bits : Scalar → ℕ
scalar_bits I8 = 8
scalar_bits I16 = 16
scalar_bits I32 = 32
scalar_bits I64 = 64
scalar_bits U8 = 8
scalar_bits U16 = 16
scalar_bits U32 = 32
scalar_bits U64 = 64
scalar_bits Uintptr = 64
scalar_bits Bool = 8
scalar_bits Ptr = 64

-- the bits of a value of one word; the others have none
abbrev pub type_bits : Ty → ℕ
type_bits (One t) = scalar_bits t
type_bits Mem = 0
type_bits (Tuple types) = 0
type_bits Flags = 0
type_bits Void = 0

-- a scalar's bytes in memory, and those of a value of one word
abbrev pub scalar_bytes : Scalar → ℕ
scalar_bytes t = scalar_bits t / 8

abbrev pub type_bytes : Ty → ℕ
type_bytes ty = type_bits ty / 8

-- a word that comes from outside, as a function keeps it: whole, or at the width of its type. A memory, a tuple, flags
-- and nothing are no words, and keep 0
abbrev pub kept : (whole : Truth) → Ty → ℕ → ℕ
kept true (One t) w = w
kept false (One t) w = low (scalar_bits t) w
kept whole _ w = 0
