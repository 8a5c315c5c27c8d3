-- The names of ops by their places.
use Rattle.std.proofs.Common.{◌≡◌, ℕ, List, [], ◌∷◌, get_or, codes, refl}
use Rattle.ssa_ir.specs.declared.op.Width.TheVariants.{W8, W16, W32, W64}
use Rattle.ssa_ir.specs.declared.op.WidthPair.TheVariants.{W8W16, W8W32, W8W64, W16W32, W16W64, W32W64}
use Rattle.ssa_ir.specs.declared.op.Op.{Op}
use Rattle.ssa_ir.specs.declared.op.Op.TheVariants.{Add, Sub, Mul, And, Or, Xor, Neg, Com, Div, DivU, Mod, ModU, Lsh}
use Rattle.ssa_ir.specs.declared.op.Op.TheVariants.{Rsh, RshU, Eq, Neq, Less, Leq, LessU, LeqU, EqB, NeqB, AndB, OrB}
use Rattle.ssa_ir.specs.declared.op.Op.TheVariants.{Not, EqPtr, NeqPtr, IsNonNil, IsInBounds, IsSliceInBounds, SignExt}
use Rattle.ssa_ir.specs.declared.op.Op.TheVariants.{ZeroExt, Trunc, AddPtr, OffPtr, Load, Store, NilCheck, CondSelect}
use Rattle.ssa_ir.specs.declared.op.Op.TheVariants.{Const, ConstBool, ConstNil, SB, Addr, Phi, Copy, Arg, InitMem}
use Rattle.ssa_ir.specs.declared.op.Op.TheVariants.{StaticLECall, SelectN, MakeResult}
use Rattle.ssa_ir.specs.declared.op.Op.TheVariants.{Arm64MOVDconst, Arm64MOVDaddr, Arm64ADD, Arm64SUB, Arm64AND}
use Rattle.ssa_ir.specs.declared.op.Op.TheVariants.{Arm64OR, Arm64XOR, Arm64MUL, Arm64MULW, Arm64ADDconst}
use Rattle.ssa_ir.specs.declared.op.Op.TheVariants.{Arm64SUBconst, Arm64ANDconst, Arm64ORconst, Arm64XORconst, Arm64NEG}
use Rattle.ssa_ir.specs.declared.op.Op.TheVariants.{Arm64MVN, Arm64DIV, Arm64UDIV, Arm64DIVW, Arm64UDIVW, Arm64MOD}
use Rattle.ssa_ir.specs.declared.op.Op.TheVariants.{Arm64UMOD, Arm64MODW, Arm64UMODW, Arm64SLL, Arm64SRL, Arm64SRA}
use Rattle.ssa_ir.specs.declared.op.Op.TheVariants.{Arm64SLLconst, Arm64SRLconst, Arm64SRAconst, Arm64MOVBreg}
use Rattle.ssa_ir.specs.declared.op.Op.TheVariants.{Arm64MOVHreg, Arm64MOVWreg, Arm64MOVBUreg, Arm64MOVHUreg}
use Rattle.ssa_ir.specs.declared.op.Op.TheVariants.{Arm64MOVWUreg, Arm64CMP, Arm64CMPW, Arm64CMPconst, Arm64CMPWconst}
use Rattle.ssa_ir.specs.declared.op.Op.TheVariants.{Arm64TSTWconst, Arm64Equal, Arm64NotEqual, Arm64LessThan}
use Rattle.ssa_ir.specs.declared.op.Op.TheVariants.{Arm64LessEqual, Arm64GreaterThan, Arm64GreaterEqual, Arm64LessThanU}
use Rattle.ssa_ir.specs.declared.op.Op.TheVariants.{Arm64LessEqualU, Arm64GreaterThanU, Arm64GreaterEqualU, Arm64CSEL}
use Rattle.ssa_ir.specs.declared.op.Op.TheVariants.{Arm64MOVBload, Arm64MOVHload, Arm64MOVWload, Arm64MOVBUload}
use Rattle.ssa_ir.specs.declared.op.Op.TheVariants.{Arm64MOVHUload, Arm64MOVWUload, Arm64MOVDload, Arm64MOVBstore}
use Rattle.ssa_ir.specs.declared.op.Op.TheVariants.{Arm64MOVHstore, Arm64MOVWstore, Arm64MOVDstore}
use Rattle.ssa_ir.specs.declared.op.Op.TheVariants.{Arm64LoweredNilCheck, Arm64CALLstatic}
use Rattle.ssa_ir.specs.OpNames.{op_name}
use Rattle.ssa_ir.specs.OpPlaces.{op_place}

-- all names, in the order in which the ops are declared
abbrev pub names : List (List ℕ)
names =
    codes "Add8" ∷ codes "Add16" ∷ codes "Add32" ∷ codes "Add64" ∷ codes "Sub8" ∷ codes "Sub16" ∷
    codes "Sub32" ∷ codes "Sub64" ∷ codes "Mul8" ∷ codes "Mul16" ∷ codes "Mul32" ∷ codes "Mul64" ∷
    codes "And8" ∷ codes "And16" ∷ codes "And32" ∷ codes "And64" ∷ codes "Or8" ∷ codes "Or16" ∷ codes "Or32" ∷
    codes "Or64" ∷ codes "Xor8" ∷ codes "Xor16" ∷ codes "Xor32" ∷ codes "Xor64" ∷ codes "Neg8" ∷
    codes "Neg16" ∷ codes "Neg32" ∷ codes "Neg64" ∷ codes "Com8" ∷ codes "Com16" ∷ codes "Com32" ∷
    codes "Com64" ∷ codes "Div8" ∷ codes "Div16" ∷ codes "Div32" ∷ codes "Div64" ∷ codes "Div8u" ∷
    codes "Div16u" ∷ codes "Div32u" ∷ codes "Div64u" ∷ codes "Mod8" ∷ codes "Mod16" ∷ codes "Mod32" ∷
    codes "Mod64" ∷ codes "Mod8u" ∷ codes "Mod16u" ∷ codes "Mod32u" ∷ codes "Mod64u" ∷ codes "Lsh8x64" ∷
    codes "Lsh16x64" ∷ codes "Lsh32x64" ∷ codes "Lsh64x64" ∷ codes "Rsh8x64" ∷ codes "Rsh16x64" ∷
    codes "Rsh32x64" ∷ codes "Rsh64x64" ∷ codes "Rsh8Ux64" ∷ codes "Rsh16Ux64" ∷ codes "Rsh32Ux64" ∷
    codes "Rsh64Ux64" ∷ codes "Eq8" ∷ codes "Eq16" ∷ codes "Eq32" ∷ codes "Eq64" ∷ codes "Neq8" ∷
    codes "Neq16" ∷ codes "Neq32" ∷ codes "Neq64" ∷ codes "Less8" ∷ codes "Less16" ∷ codes "Less32" ∷
    codes "Less64" ∷ codes "Leq8" ∷ codes "Leq16" ∷ codes "Leq32" ∷ codes "Leq64" ∷ codes "Less8U" ∷
    codes "Less16U" ∷ codes "Less32U" ∷ codes "Less64U" ∷ codes "Leq8U" ∷ codes "Leq16U" ∷ codes "Leq32U" ∷
    codes "Leq64U" ∷ codes "EqB" ∷ codes "NeqB" ∷ codes "AndB" ∷ codes "OrB" ∷ codes "Not" ∷ codes "EqPtr" ∷
    codes "NeqPtr" ∷ codes "IsNonNil" ∷ codes "IsInBounds" ∷ codes "IsSliceInBounds" ∷ codes "SignExt8to16" ∷
    codes "SignExt8to32" ∷ codes "SignExt8to64" ∷ codes "SignExt16to32" ∷ codes "SignExt16to64" ∷
    codes "SignExt32to64" ∷ codes "ZeroExt8to16" ∷ codes "ZeroExt8to32" ∷ codes "ZeroExt8to64" ∷
    codes "ZeroExt16to32" ∷ codes "ZeroExt16to64" ∷ codes "ZeroExt32to64" ∷ codes "Trunc16to8" ∷
    codes "Trunc32to8" ∷ codes "Trunc64to8" ∷ codes "Trunc32to16" ∷ codes "Trunc64to16" ∷
    codes "Trunc64to32" ∷ codes "AddPtr" ∷ codes "OffPtr" ∷ codes "Load" ∷ codes "Store" ∷ codes "NilCheck" ∷
    codes "CondSelect" ∷ codes "Const8" ∷ codes "Const16" ∷ codes "Const32" ∷ codes "Const64" ∷
    codes "ConstBool" ∷ codes "ConstNil" ∷ codes "SB" ∷ codes "Addr" ∷ codes "Phi" ∷ codes "Copy" ∷
    codes "Arg" ∷ codes "InitMem" ∷ codes "StaticLECall" ∷ codes "SelectN" ∷ codes "MakeResult" ∷
    codes "MOVDconst" ∷ codes "MOVDaddr" ∷ codes "ADD" ∷ codes "SUB" ∷ codes "AND" ∷ codes "OR" ∷
    codes "XOR" ∷ codes "MUL" ∷ codes "MULW" ∷ codes "ADDconst" ∷ codes "SUBconst" ∷ codes "ANDconst" ∷
    codes "ORconst" ∷ codes "XORconst" ∷ codes "NEG" ∷ codes "MVN" ∷ codes "DIV" ∷ codes "UDIV" ∷
    codes "DIVW" ∷ codes "UDIVW" ∷ codes "MOD" ∷ codes "UMOD" ∷ codes "MODW" ∷ codes "UMODW" ∷ codes "SLL" ∷
    codes "SRL" ∷ codes "SRA" ∷ codes "SLLconst" ∷ codes "SRLconst" ∷ codes "SRAconst" ∷ codes "MOVBreg" ∷
    codes "MOVHreg" ∷ codes "MOVWreg" ∷ codes "MOVBUreg" ∷ codes "MOVHUreg" ∷ codes "MOVWUreg" ∷ codes "CMP" ∷
    codes "CMPW" ∷ codes "CMPconst" ∷ codes "CMPWconst" ∷ codes "TSTWconst" ∷ codes "Equal" ∷
    codes "NotEqual" ∷ codes "LessThan" ∷ codes "LessEqual" ∷ codes "GreaterThan" ∷ codes "GreaterEqual" ∷
    codes "LessThanU" ∷ codes "LessEqualU" ∷ codes "GreaterThanU" ∷ codes "GreaterEqualU" ∷ codes "CSEL" ∷
    codes "MOVBload" ∷ codes "MOVHload" ∷ codes "MOVWload" ∷ codes "MOVBUload" ∷ codes "MOVHUload" ∷
    codes "MOVWUload" ∷ codes "MOVDload" ∷ codes "MOVBstore" ∷ codes "MOVHstore" ∷ codes "MOVWstore" ∷
    codes "MOVDstore" ∷ codes "LoweredNilCheck" ∷ codes "CALLstatic" ∷ []

-- the name at its place is the op's
pub named_there : (op : Op) → get_or names (op_place op) [] ≡ op_name op
named_there (Add W8) = refl
named_there (Add W16) = refl
named_there (Add W32) = refl
named_there (Add W64) = refl
named_there (Sub W8) = refl
named_there (Sub W16) = refl
named_there (Sub W32) = refl
named_there (Sub W64) = refl
named_there (Mul W8) = refl
named_there (Mul W16) = refl
named_there (Mul W32) = refl
named_there (Mul W64) = refl
named_there (And W8) = refl
named_there (And W16) = refl
named_there (And W32) = refl
named_there (And W64) = refl
named_there (Or W8) = refl
named_there (Or W16) = refl
named_there (Or W32) = refl
named_there (Or W64) = refl
named_there (Xor W8) = refl
named_there (Xor W16) = refl
named_there (Xor W32) = refl
named_there (Xor W64) = refl
named_there (Neg W8) = refl
named_there (Neg W16) = refl
named_there (Neg W32) = refl
named_there (Neg W64) = refl
named_there (Com W8) = refl
named_there (Com W16) = refl
named_there (Com W32) = refl
named_there (Com W64) = refl
named_there (Div W8) = refl
named_there (Div W16) = refl
named_there (Div W32) = refl
named_there (Div W64) = refl
named_there (DivU W8) = refl
named_there (DivU W16) = refl
named_there (DivU W32) = refl
named_there (DivU W64) = refl
named_there (Mod W8) = refl
named_there (Mod W16) = refl
named_there (Mod W32) = refl
named_there (Mod W64) = refl
named_there (ModU W8) = refl
named_there (ModU W16) = refl
named_there (ModU W32) = refl
named_there (ModU W64) = refl
named_there (Lsh W8) = refl
named_there (Lsh W16) = refl
named_there (Lsh W32) = refl
named_there (Lsh W64) = refl
named_there (Rsh W8) = refl
named_there (Rsh W16) = refl
named_there (Rsh W32) = refl
named_there (Rsh W64) = refl
named_there (RshU W8) = refl
named_there (RshU W16) = refl
named_there (RshU W32) = refl
named_there (RshU W64) = refl
named_there (Eq W8) = refl
named_there (Eq W16) = refl
named_there (Eq W32) = refl
named_there (Eq W64) = refl
named_there (Neq W8) = refl
named_there (Neq W16) = refl
named_there (Neq W32) = refl
named_there (Neq W64) = refl
named_there (Less W8) = refl
named_there (Less W16) = refl
named_there (Less W32) = refl
named_there (Less W64) = refl
named_there (Leq W8) = refl
named_there (Leq W16) = refl
named_there (Leq W32) = refl
named_there (Leq W64) = refl
named_there (LessU W8) = refl
named_there (LessU W16) = refl
named_there (LessU W32) = refl
named_there (LessU W64) = refl
named_there (LeqU W8) = refl
named_there (LeqU W16) = refl
named_there (LeqU W32) = refl
named_there (LeqU W64) = refl
named_there EqB = refl
named_there NeqB = refl
named_there AndB = refl
named_there OrB = refl
named_there Not = refl
named_there EqPtr = refl
named_there NeqPtr = refl
named_there IsNonNil = refl
named_there IsInBounds = refl
named_there IsSliceInBounds = refl
named_there (SignExt W8W16) = refl
named_there (SignExt W8W32) = refl
named_there (SignExt W8W64) = refl
named_there (SignExt W16W32) = refl
named_there (SignExt W16W64) = refl
named_there (SignExt W32W64) = refl
named_there (ZeroExt W8W16) = refl
named_there (ZeroExt W8W32) = refl
named_there (ZeroExt W8W64) = refl
named_there (ZeroExt W16W32) = refl
named_there (ZeroExt W16W64) = refl
named_there (ZeroExt W32W64) = refl
named_there (Trunc W8W16) = refl
named_there (Trunc W8W32) = refl
named_there (Trunc W8W64) = refl
named_there (Trunc W16W32) = refl
named_there (Trunc W16W64) = refl
named_there (Trunc W32W64) = refl
named_there AddPtr = refl
named_there OffPtr = refl
named_there Load = refl
named_there Store = refl
named_there NilCheck = refl
named_there CondSelect = refl
named_there (Const W8) = refl
named_there (Const W16) = refl
named_there (Const W32) = refl
named_there (Const W64) = refl
named_there ConstBool = refl
named_there ConstNil = refl
named_there SB = refl
named_there Addr = refl
named_there Phi = refl
named_there Copy = refl
named_there Arg = refl
named_there InitMem = refl
named_there StaticLECall = refl
named_there SelectN = refl
named_there MakeResult = refl
named_there Arm64MOVDconst = refl
named_there Arm64MOVDaddr = refl
named_there Arm64ADD = refl
named_there Arm64SUB = refl
named_there Arm64AND = refl
named_there Arm64OR = refl
named_there Arm64XOR = refl
named_there Arm64MUL = refl
named_there Arm64MULW = refl
named_there Arm64ADDconst = refl
named_there Arm64SUBconst = refl
named_there Arm64ANDconst = refl
named_there Arm64ORconst = refl
named_there Arm64XORconst = refl
named_there Arm64NEG = refl
named_there Arm64MVN = refl
named_there Arm64DIV = refl
named_there Arm64UDIV = refl
named_there Arm64DIVW = refl
named_there Arm64UDIVW = refl
named_there Arm64MOD = refl
named_there Arm64UMOD = refl
named_there Arm64MODW = refl
named_there Arm64UMODW = refl
named_there Arm64SLL = refl
named_there Arm64SRL = refl
named_there Arm64SRA = refl
named_there Arm64SLLconst = refl
named_there Arm64SRLconst = refl
named_there Arm64SRAconst = refl
named_there Arm64MOVBreg = refl
named_there Arm64MOVHreg = refl
named_there Arm64MOVWreg = refl
named_there Arm64MOVBUreg = refl
named_there Arm64MOVHUreg = refl
named_there Arm64MOVWUreg = refl
named_there Arm64CMP = refl
named_there Arm64CMPW = refl
named_there Arm64CMPconst = refl
named_there Arm64CMPWconst = refl
named_there Arm64TSTWconst = refl
named_there Arm64Equal = refl
named_there Arm64NotEqual = refl
named_there Arm64LessThan = refl
named_there Arm64LessEqual = refl
named_there Arm64GreaterThan = refl
named_there Arm64GreaterEqual = refl
named_there Arm64LessThanU = refl
named_there Arm64LessEqualU = refl
named_there Arm64GreaterThanU = refl
named_there Arm64GreaterEqualU = refl
named_there Arm64CSEL = refl
named_there Arm64MOVBload = refl
named_there Arm64MOVHload = refl
named_there Arm64MOVWload = refl
named_there Arm64MOVBUload = refl
named_there Arm64MOVHUload = refl
named_there Arm64MOVWUload = refl
named_there Arm64MOVDload = refl
named_there Arm64MOVBstore = refl
named_there Arm64MOVHstore = refl
named_there Arm64MOVWstore = refl
named_there Arm64MOVDstore = refl
named_there Arm64LoweredNilCheck = refl
named_there Arm64CALLstatic = refl
