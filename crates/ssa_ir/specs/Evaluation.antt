-- What an op computes of its operands' words. A generic op answers at its width, and reads each operand at the width of
-- its class; Copy and CondSelect answer the word that they choose, whole. An op of the machine answers a whole word:
-- MULW, DIVW, UDIVW, MODW and UMODW read the low 32 bits, and their upper half is clear.
use Rattle.std.specs.Prelude.{ℕ, ℤ, ◌%◌, ◌==◌, not}
use Rattle.gossa_base.specs.Words.{low, sext, word_of}
use Rattle.ssa_ir.specs.declared.op.CondCode.TheVariants.{EQ, NE, LT, LE, GT, GE, LO, LS, HI, HS}
use Rattle.ssa_ir.specs.declared.op.Op.{Op}
use Rattle.ssa_ir.specs.declared.op.Op.TheVariants.{Load, Store, NilCheck, Addr, Phi, Arg, InitMem, StaticLECall}
use Rattle.ssa_ir.specs.declared.op.Op.TheVariants.{SelectN, MakeResult, Add, Sub, Mul, And, Or, Xor, Neg, Com, Div}
use Rattle.ssa_ir.specs.declared.op.Op.TheVariants.{DivU, Mod, ModU, Lsh, Rsh, RshU, Eq, Neq, Less, Leq, LessU, LeqU}
use Rattle.ssa_ir.specs.declared.op.Op.TheVariants.{EqB, NeqB, AndB, OrB, Not, EqPtr, NeqPtr, IsNonNil, IsInBounds}
use Rattle.ssa_ir.specs.declared.op.Op.TheVariants.{IsSliceInBounds, SignExt, ZeroExt, Trunc, AddPtr, OffPtr}
use Rattle.ssa_ir.specs.declared.op.Op.TheVariants.{CondSelect, Const, ConstBool, ConstNil, SB, Copy}
use Rattle.ssa_ir.specs.declared.op.Op.TheVariants.{Arm64MOVDconst, Arm64ADD, Arm64SUB, Arm64AND, Arm64OR, Arm64XOR}
use Rattle.ssa_ir.specs.declared.op.Op.TheVariants.{Arm64MUL, Arm64MULW, Arm64ADDconst, Arm64SUBconst, Arm64ANDconst}
use Rattle.ssa_ir.specs.declared.op.Op.TheVariants.{Arm64ORconst, Arm64XORconst, Arm64NEG, Arm64MVN, Arm64DIV}
use Rattle.ssa_ir.specs.declared.op.Op.TheVariants.{Arm64UDIV, Arm64DIVW, Arm64UDIVW, Arm64MOD, Arm64UMOD, Arm64MODW}
use Rattle.ssa_ir.specs.declared.op.Op.TheVariants.{Arm64UMODW, Arm64SLL, Arm64SRL, Arm64SRA, Arm64SLLconst}
use Rattle.ssa_ir.specs.declared.op.Op.TheVariants.{Arm64SRLconst, Arm64SRAconst, Arm64MOVBreg, Arm64MOVHreg}
use Rattle.ssa_ir.specs.declared.op.Op.TheVariants.{Arm64MOVWreg, Arm64MOVBUreg, Arm64MOVHUreg, Arm64MOVWUreg, Arm64CMP}
use Rattle.ssa_ir.specs.declared.op.Op.TheVariants.{Arm64CMPW, Arm64CMPconst, Arm64CMPWconst, Arm64TSTWconst}
use Rattle.ssa_ir.specs.declared.op.Op.TheVariants.{Arm64Equal, Arm64NotEqual, Arm64LessThan, Arm64LessEqual}
use Rattle.ssa_ir.specs.declared.op.Op.TheVariants.{Arm64GreaterThan, Arm64GreaterEqual, Arm64LessThanU}
use Rattle.ssa_ir.specs.declared.op.Op.TheVariants.{Arm64LessEqualU, Arm64GreaterThanU, Arm64GreaterEqualU, Arm64CSEL}
use Rattle.ssa_ir.specs.declared.op.Op.TheVariants.{Arm64MOVDaddr, Arm64MOVBload, Arm64MOVHload, Arm64MOVWload}
use Rattle.ssa_ir.specs.declared.op.Op.TheVariants.{Arm64MOVBUload, Arm64MOVHUload, Arm64MOVWUload, Arm64MOVDload}
use Rattle.ssa_ir.specs.declared.op.Op.TheVariants.{Arm64MOVBstore, Arm64MOVHstore, Arm64MOVWstore, Arm64MOVDstore}
use Rattle.ssa_ir.specs.declared.op.Op.TheVariants.{Arm64LoweredNilCheck, Arm64CALLstatic}
use Rattle.ssa_ir.specs.Arithmetic.{sum_at, difference_at, product_at, negative_at, and_at, or_at, xor_at, inverted_at}
use Rattle.ssa_ir.specs.Arithmetic.{quotient_at, unsigned_quotient_at, remainder_at, unsigned_remainder_at}
use Rattle.ssa_ir.specs.Arithmetic.{shift_left_at, shift_right_at, signed_shift_right_at, one_where, is_equal, is_less}
use Rattle.ssa_ir.specs.Arithmetic.{is_at_most, is_below, is_below_or_same, sign_extended, chosen}
use Rattle.ssa_ir.specs.Conditions.{packed, flags_of_difference, flags_of_test, holds, condition_at, selected}
use Rattle.ssa_ir.specs.Widths.{bits, narrow_of, wide_of}

-- the word of a pure op, by its number, its operands' words and the flags, which stand among the arguments of the ops
-- that read them; operands that an op lacks play no part. An op that isn't pure answers 0, and so does an address,
-- which the case gives
abbrev pub eval : Op → ℤ → (a b c flags : ℕ) → ℕ
eval (Add w) aux a b c flags = sum_at (bits w) a b
eval (Sub w) aux a b c flags = difference_at (bits w) a b
eval (Mul w) aux a b c flags = product_at (bits w) a b
eval (And w) aux a b c flags = and_at (bits w) a b
eval (Or w) aux a b c flags = or_at (bits w) a b
eval (Xor w) aux a b c flags = xor_at (bits w) a b
eval (Neg w) aux a b c flags = negative_at (bits w) a
eval (Com w) aux a b c flags = inverted_at (bits w) a
eval (Div w) aux a b c flags = quotient_at (bits w) a b
eval (DivU w) aux a b c flags = unsigned_quotient_at (bits w) a b
eval (Mod w) aux a b c flags = remainder_at (bits w) a b
eval (ModU w) aux a b c flags = unsigned_remainder_at (bits w) a b
eval (Lsh w) aux a b c flags = shift_left_at (bits w) a b
eval (Rsh w) aux a b c flags = signed_shift_right_at (bits w) a b
eval (RshU w) aux a b c flags = shift_right_at (bits w) a b
eval (Eq w) aux a b c flags = one_where (is_equal (bits w) a b)
eval (Neq w) aux a b c flags = one_where (not (is_equal (bits w) a b))
eval (Less w) aux a b c flags = one_where (is_less (bits w) a b)
eval (Leq w) aux a b c flags = one_where (is_at_most (bits w) a b)
eval (LessU w) aux a b c flags = one_where (is_below (bits w) a b)
eval (LeqU w) aux a b c flags = one_where (is_below_or_same (bits w) a b)
eval EqB aux a b c flags = xor_at 8 (xor_at 8 a b) 1
eval NeqB aux a b c flags = xor_at 8 a b
eval AndB aux a b c flags = and_at 8 a b
eval OrB aux a b c flags = or_at 8 a b
eval Not aux a b c flags = xor_at 8 a 1
eval EqPtr aux a b c flags = one_where (is_equal 64 a b)
eval NeqPtr aux a b c flags = one_where (not (is_equal 64 a b))
eval IsNonNil aux a b c flags = one_where (not (is_equal 64 a 0))
eval IsInBounds aux a b c flags = one_where (is_below 64 a b)
eval IsSliceInBounds aux a b c flags = one_where (is_below_or_same 64 a b)
eval (SignExt p) aux a b c flags = sign_extended (bits (narrow_of p)) (bits (wide_of p)) a
eval (ZeroExt p) aux a b c flags = low (bits (narrow_of p)) a
eval (Trunc p) aux a b c flags = low (bits (narrow_of p)) a
eval AddPtr aux a b c flags = sum_at 64 a b
eval OffPtr aux a b c flags = sum_at 64 a (word_of aux)
eval CondSelect aux a b c flags = chosen a b c
eval (Const w) aux a b c flags = low (bits w) (word_of aux)
eval ConstBool aux a b c flags = one_where (not (word_of aux == 0))
eval ConstNil aux a b c flags = 0
eval SB aux a b c flags = 0
eval Copy aux a b c flags = a
eval Arm64MOVDconst aux a b c flags = word_of aux
eval Arm64ADD aux a b c flags = sum_at 64 a b
eval Arm64SUB aux a b c flags = difference_at 64 a b
eval Arm64AND aux a b c flags = and_at 64 a b
eval Arm64OR aux a b c flags = or_at 64 a b
eval Arm64XOR aux a b c flags = xor_at 64 a b
eval Arm64MUL aux a b c flags = product_at 64 a b
eval Arm64MULW aux a b c flags = product_at 32 a b
eval Arm64ADDconst aux a b c flags = sum_at 64 a (word_of aux)
eval Arm64SUBconst aux a b c flags = difference_at 64 a (word_of aux)
eval Arm64ANDconst aux a b c flags = and_at 64 a (word_of aux)
eval Arm64ORconst aux a b c flags = or_at 64 a (word_of aux)
eval Arm64XORconst aux a b c flags = xor_at 64 a (word_of aux)
eval Arm64NEG aux a b c flags = negative_at 64 a
eval Arm64MVN aux a b c flags = inverted_at 64 a
eval Arm64DIV aux a b c flags = quotient_at 64 a b
eval Arm64UDIV aux a b c flags = unsigned_quotient_at 64 a b
eval Arm64DIVW aux a b c flags = quotient_at 32 a b
eval Arm64UDIVW aux a b c flags = unsigned_quotient_at 32 a b
eval Arm64MOD aux a b c flags = remainder_at 64 a b
eval Arm64UMOD aux a b c flags = unsigned_remainder_at 64 a b
eval Arm64MODW aux a b c flags = remainder_at 32 a b
eval Arm64UMODW aux a b c flags = unsigned_remainder_at 32 a b
eval Arm64SLL aux a b c flags = shift_left_at 64 a (b % 64)
eval Arm64SRL aux a b c flags = shift_right_at 64 a (b % 64)
eval Arm64SRA aux a b c flags = signed_shift_right_at 64 a (b % 64)
eval Arm64SLLconst aux a b c flags = shift_left_at 64 a (word_of aux)
eval Arm64SRLconst aux a b c flags = shift_right_at 64 a (word_of aux)
eval Arm64SRAconst aux a b c flags = signed_shift_right_at 64 a (word_of aux)
eval Arm64MOVBreg aux a b c flags = sext 8 a
eval Arm64MOVHreg aux a b c flags = sext 16 a
eval Arm64MOVWreg aux a b c flags = sext 32 a
eval Arm64MOVBUreg aux a b c flags = low 8 a
eval Arm64MOVHUreg aux a b c flags = low 16 a
eval Arm64MOVWUreg aux a b c flags = low 32 a
eval Arm64CMP aux a b c flags = packed (flags_of_difference 64 a b)
eval Arm64CMPW aux a b c flags = packed (flags_of_difference 32 a b)
eval Arm64CMPconst aux a b c flags = packed (flags_of_difference 64 a (word_of aux))
eval Arm64CMPWconst aux a b c flags = packed (flags_of_difference 32 a (word_of aux))
eval Arm64TSTWconst aux a b c flags = packed (flags_of_test 32 a (word_of aux))
eval Arm64Equal aux a b c flags = one_where (holds EQ flags)
eval Arm64NotEqual aux a b c flags = one_where (holds NE flags)
eval Arm64LessThan aux a b c flags = one_where (holds LT flags)
eval Arm64LessEqual aux a b c flags = one_where (holds LE flags)
eval Arm64GreaterThan aux a b c flags = one_where (holds GT flags)
eval Arm64GreaterEqual aux a b c flags = one_where (holds GE flags)
eval Arm64LessThanU aux a b c flags = one_where (holds LO flags)
eval Arm64LessEqualU aux a b c flags = one_where (holds LS flags)
eval Arm64GreaterThanU aux a b c flags = one_where (holds HI flags)
eval Arm64GreaterEqualU aux a b c flags = one_where (holds HS flags)
eval Arm64CSEL aux a b c flags = selected (condition_at aux) a b flags
eval Load aux a b c flags = 0
eval Store aux a b c flags = 0
eval NilCheck aux a b c flags = 0
eval Addr aux a b c flags = 0
eval Phi aux a b c flags = 0
eval Arg aux a b c flags = 0
eval InitMem aux a b c flags = 0
eval StaticLECall aux a b c flags = 0
eval SelectN aux a b c flags = 0
eval MakeResult aux a b c flags = 0
eval Arm64MOVDaddr aux a b c flags = 0
eval Arm64MOVBload aux a b c flags = 0
eval Arm64MOVHload aux a b c flags = 0
eval Arm64MOVWload aux a b c flags = 0
eval Arm64MOVBUload aux a b c flags = 0
eval Arm64MOVHUload aux a b c flags = 0
eval Arm64MOVWUload aux a b c flags = 0
eval Arm64MOVDload aux a b c flags = 0
eval Arm64MOVBstore aux a b c flags = 0
eval Arm64MOVHstore aux a b c flags = 0
eval Arm64MOVWstore aux a b c flags = 0
eval Arm64MOVDstore aux a b c flags = 0
eval Arm64LoweredNilCheck aux a b c flags = 0
eval Arm64CALLstatic aux a b c flags = 0
