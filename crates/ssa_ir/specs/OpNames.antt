-- The names of ops, as Go's dumps and rules spell them, and the op of a name.
use Rattle.std.specs.Prelude.{◌≡◌, ◌≢◌, ℕ, List, codes}
use Rattle.std.specs.Cmp.Lexicographic.{slice_cmp}
use Rattle.std.specs.List.{All}
use Rattle.std.specs.List.Sorted.{IsSortedByKey}
use Rattle.std.specs.Ordering.{nat_cmp}
use Rattle.ssa_ir.specs.declared.op.Width.{Width}
use Rattle.ssa_ir.specs.declared.op.Width.TheVariants.{W8, W16, W32, W64}
use Rattle.ssa_ir.specs.declared.op.WidthPair.{WidthPair}
use Rattle.ssa_ir.specs.declared.op.WidthPair.TheVariants.{W8W16, W8W32, W8W64, W16W32, W16W64, W32W64}
use Rattle.ssa_ir.specs.declared.op.Op.{Op}
use Rattle.ssa_ir.specs.declared.op.Op.TheVariants.{Add, Sub, Mul, And, Or, Xor, Neg, Com, Div, DivU, Mod, ModU, Lsh}
use Rattle.ssa_ir.specs.declared.op.Op.TheVariants.{Rsh, RshU, Eq, Neq, Less, Leq, LessU, LeqU, EqB, NeqB, AndB, OrB}
use Rattle.ssa_ir.specs.declared.op.Op.TheVariants.{Not, EqPtr, NeqPtr, IsNonNil, IsInBounds, IsSliceInBounds, SignExt}
use Rattle.ssa_ir.specs.declared.op.Op.TheVariants.{ZeroExt, Trunc, AddPtr, OffPtr, Load, Store, NilCheck, CondSelect}
use Rattle.ssa_ir.specs.declared.op.Op.TheVariants.{Const, ConstBool, ConstNil, SB, Addr, Phi, Copy, Arg, InitMem}
use Rattle.ssa_ir.specs.declared.op.Op.TheVariants.{StaticLECall, SelectN, MakeResult}
use Rattle.ssa_ir.specs.declared.op.Op.TheVariants.{Arm64MOVDconst, Arm64MOVDaddr, Arm64ADD, Arm64SUB, Arm64AND}
use Rattle.ssa_ir.specs.declared.op.Op.TheVariants.{Arm64OR, Arm64XOR, Arm64MUL, Arm64MULW, Arm64ADDconst}
use Rattle.ssa_ir.specs.declared.op.Op.TheVariants.{Arm64SUBconst, Arm64ANDconst, Arm64ORconst, Arm64XORconst, Arm64NEG}
use Rattle.ssa_ir.specs.declared.op.Op.TheVariants.{Arm64MVN, Arm64DIV, Arm64UDIV, Arm64DIVW, Arm64UDIVW, Arm64MOD}
use Rattle.ssa_ir.specs.declared.op.Op.TheVariants.{Arm64UMOD, Arm64MODW, Arm64UMODW, Arm64SLL, Arm64SRL, Arm64SRA}
use Rattle.ssa_ir.specs.declared.op.Op.TheVariants.{Arm64SLLconst, Arm64SRLconst, Arm64SRAconst, Arm64MOVBreg}
use Rattle.ssa_ir.specs.declared.op.Op.TheVariants.{Arm64MOVHreg, Arm64MOVWreg, Arm64MOVBUreg, Arm64MOVHUreg}
use Rattle.ssa_ir.specs.declared.op.Op.TheVariants.{Arm64MOVWUreg, Arm64CMP, Arm64CMPW, Arm64CMPconst, Arm64CMPWconst}
use Rattle.ssa_ir.specs.declared.op.Op.TheVariants.{Arm64TSTWconst, Arm64Equal, Arm64NotEqual, Arm64LessThan}
use Rattle.ssa_ir.specs.declared.op.Op.TheVariants.{Arm64LessEqual, Arm64GreaterThan, Arm64GreaterEqual, Arm64LessThanU}
use Rattle.ssa_ir.specs.declared.op.Op.TheVariants.{Arm64LessEqualU, Arm64GreaterThanU, Arm64GreaterEqualU, Arm64CSEL}
use Rattle.ssa_ir.specs.declared.op.Op.TheVariants.{Arm64MOVBload, Arm64MOVHload, Arm64MOVWload, Arm64MOVBUload}
use Rattle.ssa_ir.specs.declared.op.Op.TheVariants.{Arm64MOVHUload, Arm64MOVWUload, Arm64MOVDload, Arm64MOVBstore}
use Rattle.ssa_ir.specs.declared.op.Op.TheVariants.{Arm64MOVHstore, Arm64MOVWstore, Arm64MOVDstore}
use Rattle.ssa_ir.specs.declared.op.Op.TheVariants.{Arm64LoweredNilCheck, Arm64CALLstatic}

-- one of four, by width
abbrev pub by_width : {A : Type 0} → Width → (w8 w16 w32 w64 : A) → A
by_width W8 w8 w16 w32 w64 = w8
by_width W16 w8 w16 w32 w64 = w16
by_width W32 w8 w16 w32 w64 = w32
by_width W64 w8 w16 w32 w64 = w64

-- one of six, by two widths
abbrev pub by_widths : {A : Type 0} → WidthPair → (w8w16 w8w32 w8w64 w16w32 w16w64 w32w64 : A) → A
by_widths W8W16 w8w16 w8w32 w8w64 w16w32 w16w64 w32w64 = w8w16
by_widths W8W32 w8w16 w8w32 w8w64 w16w32 w16w64 w32w64 = w8w32
by_widths W8W64 w8w16 w8w32 w8w64 w16w32 w16w64 w32w64 = w8w64
by_widths W16W32 w8w16 w8w32 w8w64 w16w32 w16w64 w32w64 = w16w32
by_widths W16W64 w8w16 w8w32 w8w64 w16w32 w16w64 w32w64 = w16w64
by_widths W32W64 w8w16 w8w32 w8w64 w16w32 w16w64 w32w64 = w32w64

abbrev pub op_name : Op → List ℕ
op_name (Add w) = by_width w (codes "Add8") (codes "Add16") (codes "Add32") (codes "Add64")
op_name (Sub w) = by_width w (codes "Sub8") (codes "Sub16") (codes "Sub32") (codes "Sub64")
op_name (Mul w) = by_width w (codes "Mul8") (codes "Mul16") (codes "Mul32") (codes "Mul64")
op_name (And w) = by_width w (codes "And8") (codes "And16") (codes "And32") (codes "And64")
op_name (Or w) = by_width w (codes "Or8") (codes "Or16") (codes "Or32") (codes "Or64")
op_name (Xor w) = by_width w (codes "Xor8") (codes "Xor16") (codes "Xor32") (codes "Xor64")
op_name (Neg w) = by_width w (codes "Neg8") (codes "Neg16") (codes "Neg32") (codes "Neg64")
op_name (Com w) = by_width w (codes "Com8") (codes "Com16") (codes "Com32") (codes "Com64")
op_name (Div w) = by_width w (codes "Div8") (codes "Div16") (codes "Div32") (codes "Div64")
op_name (DivU w) = by_width w (codes "Div8u") (codes "Div16u") (codes "Div32u") (codes "Div64u")
op_name (Mod w) = by_width w (codes "Mod8") (codes "Mod16") (codes "Mod32") (codes "Mod64")
op_name (ModU w) = by_width w (codes "Mod8u") (codes "Mod16u") (codes "Mod32u") (codes "Mod64u")
op_name (Lsh w) = by_width w (codes "Lsh8x64") (codes "Lsh16x64") (codes "Lsh32x64") (codes "Lsh64x64")
op_name (Rsh w) = by_width w (codes "Rsh8x64") (codes "Rsh16x64") (codes "Rsh32x64") (codes "Rsh64x64")
op_name (RshU w) = by_width w (codes "Rsh8Ux64") (codes "Rsh16Ux64") (codes "Rsh32Ux64") (codes "Rsh64Ux64")
op_name (Eq w) = by_width w (codes "Eq8") (codes "Eq16") (codes "Eq32") (codes "Eq64")
op_name (Neq w) = by_width w (codes "Neq8") (codes "Neq16") (codes "Neq32") (codes "Neq64")
op_name (Less w) = by_width w (codes "Less8") (codes "Less16") (codes "Less32") (codes "Less64")
op_name (Leq w) = by_width w (codes "Leq8") (codes "Leq16") (codes "Leq32") (codes "Leq64")
op_name (LessU w) = by_width w (codes "Less8U") (codes "Less16U") (codes "Less32U") (codes "Less64U")
op_name (LeqU w) = by_width w (codes "Leq8U") (codes "Leq16U") (codes "Leq32U") (codes "Leq64U")
op_name EqB = codes "EqB"
op_name NeqB = codes "NeqB"
op_name AndB = codes "AndB"
op_name OrB = codes "OrB"
op_name Not = codes "Not"
op_name EqPtr = codes "EqPtr"
op_name NeqPtr = codes "NeqPtr"
op_name IsNonNil = codes "IsNonNil"
op_name IsInBounds = codes "IsInBounds"
op_name IsSliceInBounds = codes "IsSliceInBounds"
op_name (SignExt p) =
    by_widths p (codes "SignExt8to16") (codes "SignExt8to32") (codes "SignExt8to64") (codes "SignExt16to32")
    (codes "SignExt16to64") (codes "SignExt32to64")
op_name (ZeroExt p) =
    by_widths p (codes "ZeroExt8to16") (codes "ZeroExt8to32") (codes "ZeroExt8to64") (codes "ZeroExt16to32")
    (codes "ZeroExt16to64") (codes "ZeroExt32to64")
op_name (Trunc p) =
    by_widths p (codes "Trunc16to8") (codes "Trunc32to8") (codes "Trunc64to8") (codes "Trunc32to16")
    (codes "Trunc64to16") (codes "Trunc64to32")
op_name AddPtr = codes "AddPtr"
op_name OffPtr = codes "OffPtr"
op_name Load = codes "Load"
op_name Store = codes "Store"
op_name NilCheck = codes "NilCheck"
op_name CondSelect = codes "CondSelect"
op_name (Const w) = by_width w (codes "Const8") (codes "Const16") (codes "Const32") (codes "Const64")
op_name ConstBool = codes "ConstBool"
op_name ConstNil = codes "ConstNil"
op_name SB = codes "SB"
op_name Addr = codes "Addr"
op_name Phi = codes "Phi"
op_name Copy = codes "Copy"
op_name Arg = codes "Arg"
op_name InitMem = codes "InitMem"
op_name StaticLECall = codes "StaticLECall"
op_name SelectN = codes "SelectN"
op_name MakeResult = codes "MakeResult"
op_name Arm64MOVDconst = codes "MOVDconst"
op_name Arm64MOVDaddr = codes "MOVDaddr"
op_name Arm64ADD = codes "ADD"
op_name Arm64SUB = codes "SUB"
op_name Arm64AND = codes "AND"
op_name Arm64OR = codes "OR"
op_name Arm64XOR = codes "XOR"
op_name Arm64MUL = codes "MUL"
op_name Arm64MULW = codes "MULW"
op_name Arm64ADDconst = codes "ADDconst"
op_name Arm64SUBconst = codes "SUBconst"
op_name Arm64ANDconst = codes "ANDconst"
op_name Arm64ORconst = codes "ORconst"
op_name Arm64XORconst = codes "XORconst"
op_name Arm64NEG = codes "NEG"
op_name Arm64MVN = codes "MVN"
op_name Arm64DIV = codes "DIV"
op_name Arm64UDIV = codes "UDIV"
op_name Arm64DIVW = codes "DIVW"
op_name Arm64UDIVW = codes "UDIVW"
op_name Arm64MOD = codes "MOD"
op_name Arm64UMOD = codes "UMOD"
op_name Arm64MODW = codes "MODW"
op_name Arm64UMODW = codes "UMODW"
op_name Arm64SLL = codes "SLL"
op_name Arm64SRL = codes "SRL"
op_name Arm64SRA = codes "SRA"
op_name Arm64SLLconst = codes "SLLconst"
op_name Arm64SRLconst = codes "SRLconst"
op_name Arm64SRAconst = codes "SRAconst"
op_name Arm64MOVBreg = codes "MOVBreg"
op_name Arm64MOVHreg = codes "MOVHreg"
op_name Arm64MOVWreg = codes "MOVWreg"
op_name Arm64MOVBUreg = codes "MOVBUreg"
op_name Arm64MOVHUreg = codes "MOVHUreg"
op_name Arm64MOVWUreg = codes "MOVWUreg"
op_name Arm64CMP = codes "CMP"
op_name Arm64CMPW = codes "CMPW"
op_name Arm64CMPconst = codes "CMPconst"
op_name Arm64CMPWconst = codes "CMPWconst"
op_name Arm64TSTWconst = codes "TSTWconst"
op_name Arm64Equal = codes "Equal"
op_name Arm64NotEqual = codes "NotEqual"
op_name Arm64LessThan = codes "LessThan"
op_name Arm64LessEqual = codes "LessEqual"
op_name Arm64GreaterThan = codes "GreaterThan"
op_name Arm64GreaterEqual = codes "GreaterEqual"
op_name Arm64LessThanU = codes "LessThanU"
op_name Arm64LessEqualU = codes "LessEqualU"
op_name Arm64GreaterThanU = codes "GreaterThanU"
op_name Arm64GreaterEqualU = codes "GreaterEqualU"
op_name Arm64CSEL = codes "CSEL"
op_name Arm64MOVBload = codes "MOVBload"
op_name Arm64MOVHload = codes "MOVHload"
op_name Arm64MOVWload = codes "MOVWload"
op_name Arm64MOVBUload = codes "MOVBUload"
op_name Arm64MOVHUload = codes "MOVHUload"
op_name Arm64MOVWUload = codes "MOVWUload"
op_name Arm64MOVDload = codes "MOVDload"
op_name Arm64MOVBstore = codes "MOVBstore"
op_name Arm64MOVHstore = codes "MOVHstore"
op_name Arm64MOVWstore = codes "MOVWstore"
op_name Arm64MOVDstore = codes "MOVDstore"
op_name Arm64LoweredNilCheck = codes "LoweredNilCheck"
op_name Arm64CALLstatic = codes "CALLstatic"

-- ops in the order of their names' bytes
abbrev pub IsInNameOrder : List Op → Type 0
IsInNameOrder ops = IsSortedByKey op_name (slice_cmp nat_cmp) ops

-- none of these ops has this name
abbrev pub IsNoneOf : List Op → List ℕ → Type 0
IsNoneOf ops name = All (λ op. op_name op ≢ name) ops

-- no op has this name
abbrev pub IsNoOp : List ℕ → Type 0
IsNoOp name = (op : Op) → op_name op ≢ name

-- no two ops have one name
abbrev pub NamesDiffer : Type 0
NamesDiffer = (a b : Op) → op_name a ≡ op_name b → a ≡ b
