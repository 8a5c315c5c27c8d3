-- The op of each op's name is that op.
use Rattle.std.proofs.Common.{◌≡◌, Some, refl}
use Rattle.ssa_ir.specs.declared.op.Width.TheVariants.{W8, W16, W32, W64}
use Rattle.ssa_ir.specs.declared.op.WidthPair.TheVariants.{W8W16, W8W32, W8W64, W16W32, W16W64, W32W64}
use Rattle.ssa_ir.specs.declared.op.Op.{Op}
use Rattle.ssa_ir.specs.declared.op.Op.TheVariants.{Add, Sub, Mul, And, Or, Xor, Neg, Com, Div, DivU, Mod, ModU, Lsh}
use Rattle.ssa_ir.specs.declared.op.Op.TheVariants.{Rsh, RshU, Eq, Neq, Less, Leq, LessU, LeqU, EqB, NeqB, AndB, OrB}
use Rattle.ssa_ir.specs.declared.op.Op.TheVariants.{Not, EqPtr, NeqPtr, IsNonNil, IsInBounds, IsSliceInBounds, SignExt}
use Rattle.ssa_ir.specs.declared.op.Op.TheVariants.{ZeroExt, Trunc, AddPtr, OffPtr, Load, Store, NilCheck, CondSelect}
use Rattle.ssa_ir.specs.declared.op.Op.TheVariants.{Const, ConstBool, ConstNil, SB, Addr, Phi, Copy, Arg, InitMem}
use Rattle.ssa_ir.specs.declared.op.Op.TheVariants.{StaticLECall, SelectN, MakeResult}
use Rattle.ssa_ir.specs.declared.op.Op.TheVariants.{Arm64MOVDconst, Arm64MOVDaddr, Arm64ADD, Arm64SUB, Arm64AND}
use Rattle.ssa_ir.specs.declared.op.Op.TheVariants.{Arm64OR, Arm64XOR, Arm64MUL, Arm64MULW, Arm64ADDconst}
use Rattle.ssa_ir.specs.declared.op.Op.TheVariants.{Arm64SUBconst, Arm64ANDconst, Arm64ORconst, Arm64XORconst, Arm64NEG}
use Rattle.ssa_ir.specs.declared.op.Op.TheVariants.{Arm64MVN, Arm64DIV, Arm64UDIV, Arm64DIVW, Arm64UDIVW, Arm64MOD}
use Rattle.ssa_ir.specs.declared.op.Op.TheVariants.{Arm64UMOD, Arm64MODW, Arm64UMODW, Arm64SLL, Arm64SRL, Arm64SRA}
use Rattle.ssa_ir.specs.declared.op.Op.TheVariants.{Arm64SLLconst, Arm64SRLconst, Arm64SRAconst, Arm64MOVBreg}
use Rattle.ssa_ir.specs.declared.op.Op.TheVariants.{Arm64MOVHreg, Arm64MOVWreg, Arm64MOVBUreg, Arm64MOVHUreg}
use Rattle.ssa_ir.specs.declared.op.Op.TheVariants.{Arm64MOVWUreg, Arm64CMP, Arm64CMPW, Arm64CMPconst, Arm64CMPWconst}
use Rattle.ssa_ir.specs.declared.op.Op.TheVariants.{Arm64TSTWconst, Arm64Equal, Arm64NotEqual, Arm64LessThan}
use Rattle.ssa_ir.specs.declared.op.Op.TheVariants.{Arm64LessEqual, Arm64GreaterThan, Arm64GreaterEqual, Arm64LessThanU}
use Rattle.ssa_ir.specs.declared.op.Op.TheVariants.{Arm64LessEqualU, Arm64GreaterThanU, Arm64GreaterEqualU, Arm64CSEL}
use Rattle.ssa_ir.specs.declared.op.Op.TheVariants.{Arm64MOVBload, Arm64MOVHload, Arm64MOVWload, Arm64MOVBUload}
use Rattle.ssa_ir.specs.declared.op.Op.TheVariants.{Arm64MOVHUload, Arm64MOVWUload, Arm64MOVDload, Arm64MOVBstore}
use Rattle.ssa_ir.specs.declared.op.Op.TheVariants.{Arm64MOVHstore, Arm64MOVWstore, Arm64MOVDstore}
use Rattle.ssa_ir.specs.declared.op.Op.TheVariants.{Arm64LoweredNilCheck, Arm64CALLstatic}
use Rattle.ssa_ir.specs.OpNames.{op_name}
use Rattle.ssa_ir.specs.AllOps.{op_of_name}

-- the op of an op's name is that op
pub own_name : (op : Op) → op_of_name (op_name op) ≡ Some op
own_name (Add W8) = refl
own_name (Add W16) = refl
own_name (Add W32) = refl
own_name (Add W64) = refl
own_name (Sub W8) = refl
own_name (Sub W16) = refl
own_name (Sub W32) = refl
own_name (Sub W64) = refl
own_name (Mul W8) = refl
own_name (Mul W16) = refl
own_name (Mul W32) = refl
own_name (Mul W64) = refl
own_name (And W8) = refl
own_name (And W16) = refl
own_name (And W32) = refl
own_name (And W64) = refl
own_name (Or W8) = refl
own_name (Or W16) = refl
own_name (Or W32) = refl
own_name (Or W64) = refl
own_name (Xor W8) = refl
own_name (Xor W16) = refl
own_name (Xor W32) = refl
own_name (Xor W64) = refl
own_name (Neg W8) = refl
own_name (Neg W16) = refl
own_name (Neg W32) = refl
own_name (Neg W64) = refl
own_name (Com W8) = refl
own_name (Com W16) = refl
own_name (Com W32) = refl
own_name (Com W64) = refl
own_name (Div W8) = refl
own_name (Div W16) = refl
own_name (Div W32) = refl
own_name (Div W64) = refl
own_name (DivU W8) = refl
own_name (DivU W16) = refl
own_name (DivU W32) = refl
own_name (DivU W64) = refl
own_name (Mod W8) = refl
own_name (Mod W16) = refl
own_name (Mod W32) = refl
own_name (Mod W64) = refl
own_name (ModU W8) = refl
own_name (ModU W16) = refl
own_name (ModU W32) = refl
own_name (ModU W64) = refl
own_name (Lsh W8) = refl
own_name (Lsh W16) = refl
own_name (Lsh W32) = refl
own_name (Lsh W64) = refl
own_name (Rsh W8) = refl
own_name (Rsh W16) = refl
own_name (Rsh W32) = refl
own_name (Rsh W64) = refl
own_name (RshU W8) = refl
own_name (RshU W16) = refl
own_name (RshU W32) = refl
own_name (RshU W64) = refl
own_name (Eq W8) = refl
own_name (Eq W16) = refl
own_name (Eq W32) = refl
own_name (Eq W64) = refl
own_name (Neq W8) = refl
own_name (Neq W16) = refl
own_name (Neq W32) = refl
own_name (Neq W64) = refl
own_name (Less W8) = refl
own_name (Less W16) = refl
own_name (Less W32) = refl
own_name (Less W64) = refl
own_name (Leq W8) = refl
own_name (Leq W16) = refl
own_name (Leq W32) = refl
own_name (Leq W64) = refl
own_name (LessU W8) = refl
own_name (LessU W16) = refl
own_name (LessU W32) = refl
own_name (LessU W64) = refl
own_name (LeqU W8) = refl
own_name (LeqU W16) = refl
own_name (LeqU W32) = refl
own_name (LeqU W64) = refl
own_name EqB = refl
own_name NeqB = refl
own_name AndB = refl
own_name OrB = refl
own_name Not = refl
own_name EqPtr = refl
own_name NeqPtr = refl
own_name IsNonNil = refl
own_name IsInBounds = refl
own_name IsSliceInBounds = refl
own_name (SignExt W8W16) = refl
own_name (SignExt W8W32) = refl
own_name (SignExt W8W64) = refl
own_name (SignExt W16W32) = refl
own_name (SignExt W16W64) = refl
own_name (SignExt W32W64) = refl
own_name (ZeroExt W8W16) = refl
own_name (ZeroExt W8W32) = refl
own_name (ZeroExt W8W64) = refl
own_name (ZeroExt W16W32) = refl
own_name (ZeroExt W16W64) = refl
own_name (ZeroExt W32W64) = refl
own_name (Trunc W8W16) = refl
own_name (Trunc W8W32) = refl
own_name (Trunc W8W64) = refl
own_name (Trunc W16W32) = refl
own_name (Trunc W16W64) = refl
own_name (Trunc W32W64) = refl
own_name AddPtr = refl
own_name OffPtr = refl
own_name Load = refl
own_name Store = refl
own_name NilCheck = refl
own_name CondSelect = refl
own_name (Const W8) = refl
own_name (Const W16) = refl
own_name (Const W32) = refl
own_name (Const W64) = refl
own_name ConstBool = refl
own_name ConstNil = refl
own_name SB = refl
own_name Addr = refl
own_name Phi = refl
own_name Copy = refl
own_name Arg = refl
own_name InitMem = refl
own_name StaticLECall = refl
own_name SelectN = refl
own_name MakeResult = refl
own_name Arm64MOVDconst = refl
own_name Arm64MOVDaddr = refl
own_name Arm64ADD = refl
own_name Arm64SUB = refl
own_name Arm64AND = refl
own_name Arm64OR = refl
own_name Arm64XOR = refl
own_name Arm64MUL = refl
own_name Arm64MULW = refl
own_name Arm64ADDconst = refl
own_name Arm64SUBconst = refl
own_name Arm64ANDconst = refl
own_name Arm64ORconst = refl
own_name Arm64XORconst = refl
own_name Arm64NEG = refl
own_name Arm64MVN = refl
own_name Arm64DIV = refl
own_name Arm64UDIV = refl
own_name Arm64DIVW = refl
own_name Arm64UDIVW = refl
own_name Arm64MOD = refl
own_name Arm64UMOD = refl
own_name Arm64MODW = refl
own_name Arm64UMODW = refl
own_name Arm64SLL = refl
own_name Arm64SRL = refl
own_name Arm64SRA = refl
own_name Arm64SLLconst = refl
own_name Arm64SRLconst = refl
own_name Arm64SRAconst = refl
own_name Arm64MOVBreg = refl
own_name Arm64MOVHreg = refl
own_name Arm64MOVWreg = refl
own_name Arm64MOVBUreg = refl
own_name Arm64MOVHUreg = refl
own_name Arm64MOVWUreg = refl
own_name Arm64CMP = refl
own_name Arm64CMPW = refl
own_name Arm64CMPconst = refl
own_name Arm64CMPWconst = refl
own_name Arm64TSTWconst = refl
own_name Arm64Equal = refl
own_name Arm64NotEqual = refl
own_name Arm64LessThan = refl
own_name Arm64LessEqual = refl
own_name Arm64GreaterThan = refl
own_name Arm64GreaterEqual = refl
own_name Arm64LessThanU = refl
own_name Arm64LessEqualU = refl
own_name Arm64GreaterThanU = refl
own_name Arm64GreaterEqualU = refl
own_name Arm64CSEL = refl
own_name Arm64MOVBload = refl
own_name Arm64MOVHload = refl
own_name Arm64MOVWload = refl
own_name Arm64MOVBUload = refl
own_name Arm64MOVHUload = refl
own_name Arm64MOVWUload = refl
own_name Arm64MOVDload = refl
own_name Arm64MOVBstore = refl
own_name Arm64MOVHstore = refl
own_name Arm64MOVWstore = refl
own_name Arm64MOVDstore = refl
own_name Arm64LoweredNilCheck = refl
own_name Arm64CALLstatic = refl
