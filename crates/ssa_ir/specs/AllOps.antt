-- All ops, in the order of their names, and the op of a name.
use Rattle.std.specs.Prelude.{ℕ, List, [], ◌∷◌, find, Option}
use Rattle.std.specs.Str.{bytes_eq}
use Rattle.ssa_ir.specs.declared.op.Width.TheVariants.{W8, W16, W32, W64}
use Rattle.ssa_ir.specs.declared.op.WidthPair.TheVariants.{W8W16, W8W32, W8W64, W16W32, W16W64, W32W64}
use Rattle.ssa_ir.specs.declared.op.Op.{Op}
use Rattle.ssa_ir.specs.declared.op.Op.TheVariants.{Add, Sub, Mul, And, Or, Xor, Neg, Com, Div, DivU, Mod, ModU, Lsh}
use Rattle.ssa_ir.specs.declared.op.Op.TheVariants.{Rsh, RshU, Eq, Neq, Less, Leq, LessU, LeqU, EqB, NeqB, AndB, OrB}
use Rattle.ssa_ir.specs.declared.op.Op.TheVariants.{Not, EqPtr, NeqPtr, IsNonNil, IsInBounds, IsSliceInBounds, SignExt}
use Rattle.ssa_ir.specs.declared.op.Op.TheVariants.{ZeroExt, Trunc, AddPtr, OffPtr, Load, Store, NilCheck, CondSelect}
use Rattle.ssa_ir.specs.declared.op.Op.TheVariants.{Const, ConstBool, ConstNil, SB, Addr, Phi, Copy, Arg, InitMem}
use Rattle.ssa_ir.specs.declared.op.Op.TheVariants.{StaticLECall, SelectN, MakeResult}
use Rattle.ssa_ir.specs.declared.op.Op.TheVariants.{Arm64MOVDconst, Arm64MOVDaddr, Arm64ADD, Arm64SUB, Arm64AND}
use Rattle.ssa_ir.specs.declared.op.Op.TheVariants.{Arm64OR, Arm64XOR, Arm64MUL, Arm64MULW, Arm64ADDconst}
use Rattle.ssa_ir.specs.declared.op.Op.TheVariants.{Arm64SUBconst, Arm64ANDconst, Arm64ORconst, Arm64XORconst, Arm64NEG}
use Rattle.ssa_ir.specs.declared.op.Op.TheVariants.{Arm64MVN, Arm64DIV, Arm64UDIV, Arm64DIVW, Arm64UDIVW, Arm64MOD}
use Rattle.ssa_ir.specs.declared.op.Op.TheVariants.{Arm64UMOD, Arm64MODW, Arm64UMODW, Arm64SLL, Arm64SRL, Arm64SRA}
use Rattle.ssa_ir.specs.declared.op.Op.TheVariants.{Arm64SLLconst, Arm64SRLconst, Arm64SRAconst, Arm64MOVBreg}
use Rattle.ssa_ir.specs.declared.op.Op.TheVariants.{Arm64MOVHreg, Arm64MOVWreg, Arm64MOVBUreg, Arm64MOVHUreg}
use Rattle.ssa_ir.specs.declared.op.Op.TheVariants.{Arm64MOVWUreg, Arm64CMP, Arm64CMPW, Arm64CMPconst, Arm64CMPWconst}
use Rattle.ssa_ir.specs.declared.op.Op.TheVariants.{Arm64TSTWconst, Arm64Equal, Arm64NotEqual, Arm64LessThan}
use Rattle.ssa_ir.specs.declared.op.Op.TheVariants.{Arm64LessEqual, Arm64GreaterThan, Arm64GreaterEqual, Arm64LessThanU}
use Rattle.ssa_ir.specs.declared.op.Op.TheVariants.{Arm64LessEqualU, Arm64GreaterThanU, Arm64GreaterEqualU, Arm64CSEL}
use Rattle.ssa_ir.specs.declared.op.Op.TheVariants.{Arm64MOVBload, Arm64MOVHload, Arm64MOVWload, Arm64MOVBUload}
use Rattle.ssa_ir.specs.declared.op.Op.TheVariants.{Arm64MOVHUload, Arm64MOVWUload, Arm64MOVDload, Arm64MOVBstore}
use Rattle.ssa_ir.specs.declared.op.Op.TheVariants.{Arm64MOVHstore, Arm64MOVWstore, Arm64MOVDstore}
use Rattle.ssa_ir.specs.declared.op.Op.TheVariants.{Arm64LoweredNilCheck, Arm64CALLstatic}
use Rattle.ssa_ir.specs.OpNames.{op_name}

abbrev pub all_ops : List Op
all_ops =
    Arm64ADD ∷ Arm64ADDconst ∷ Arm64AND ∷ Arm64ANDconst ∷ (Add W16) ∷ (Add W32) ∷ (Add W64) ∷ (Add W8) ∷
    AddPtr ∷ Addr ∷ (And W16) ∷ (And W32) ∷ (And W64) ∷ (And W8) ∷ AndB ∷ Arg ∷ Arm64CALLstatic ∷ Arm64CMP ∷
    Arm64CMPW ∷ Arm64CMPWconst ∷ Arm64CMPconst ∷ Arm64CSEL ∷ (Com W16) ∷ (Com W32) ∷ (Com W64) ∷ (Com W8) ∷
    CondSelect ∷ (Const W16) ∷ (Const W32) ∷ (Const W64) ∷ (Const W8) ∷ ConstBool ∷ ConstNil ∷ Copy ∷
    Arm64DIV ∷ Arm64DIVW ∷ (Div W16) ∷ (DivU W16) ∷ (Div W32) ∷ (DivU W32) ∷ (Div W64) ∷ (DivU W64) ∷
    (Div W8) ∷ (DivU W8) ∷ (Eq W16) ∷ (Eq W32) ∷ (Eq W64) ∷ (Eq W8) ∷ EqB ∷ EqPtr ∷ Arm64Equal ∷
    Arm64GreaterEqual ∷ Arm64GreaterEqualU ∷ Arm64GreaterThan ∷ Arm64GreaterThanU ∷ InitMem ∷ IsInBounds ∷
    IsNonNil ∷ IsSliceInBounds ∷ (Leq W16) ∷ (LeqU W16) ∷ (Leq W32) ∷ (LeqU W32) ∷ (Leq W64) ∷ (LeqU W64) ∷
    (Leq W8) ∷ (LeqU W8) ∷ (Less W16) ∷ (LessU W16) ∷ (Less W32) ∷ (LessU W32) ∷ (Less W64) ∷ (LessU W64) ∷
    (Less W8) ∷ (LessU W8) ∷ Arm64LessEqual ∷ Arm64LessEqualU ∷ Arm64LessThan ∷ Arm64LessThanU ∷ Load ∷
    Arm64LoweredNilCheck ∷ (Lsh W16) ∷ (Lsh W32) ∷ (Lsh W64) ∷ (Lsh W8) ∷ Arm64MOD ∷ Arm64MODW ∷
    Arm64MOVBUload ∷ Arm64MOVBUreg ∷ Arm64MOVBload ∷ Arm64MOVBreg ∷ Arm64MOVBstore ∷ Arm64MOVDaddr ∷
    Arm64MOVDconst ∷ Arm64MOVDload ∷ Arm64MOVDstore ∷ Arm64MOVHUload ∷ Arm64MOVHUreg ∷ Arm64MOVHload ∷
    Arm64MOVHreg ∷ Arm64MOVHstore ∷ Arm64MOVWUload ∷ Arm64MOVWUreg ∷ Arm64MOVWload ∷ Arm64MOVWreg ∷
    Arm64MOVWstore ∷ Arm64MUL ∷ Arm64MULW ∷ Arm64MVN ∷ MakeResult ∷ (Mod W16) ∷ (ModU W16) ∷ (Mod W32) ∷
    (ModU W32) ∷ (Mod W64) ∷ (ModU W64) ∷ (Mod W8) ∷ (ModU W8) ∷ (Mul W16) ∷ (Mul W32) ∷ (Mul W64) ∷ (Mul W8) ∷
    Arm64NEG ∷ (Neg W16) ∷ (Neg W32) ∷ (Neg W64) ∷ (Neg W8) ∷ (Neq W16) ∷ (Neq W32) ∷ (Neq W64) ∷ (Neq W8) ∷
    NeqB ∷ NeqPtr ∷ NilCheck ∷ Not ∷ Arm64NotEqual ∷ Arm64OR ∷ Arm64ORconst ∷ OffPtr ∷ (Or W16) ∷ (Or W32) ∷
    (Or W64) ∷ (Or W8) ∷ OrB ∷ Phi ∷ (RshU W16) ∷ (Rsh W16) ∷ (RshU W32) ∷ (Rsh W32) ∷ (RshU W64) ∷ (Rsh W64) ∷
    (RshU W8) ∷ (Rsh W8) ∷ SB ∷ Arm64SLL ∷ Arm64SLLconst ∷ Arm64SRA ∷ Arm64SRAconst ∷ Arm64SRL ∷
    Arm64SRLconst ∷ Arm64SUB ∷ Arm64SUBconst ∷ SelectN ∷ (SignExt W16W32) ∷ (SignExt W16W64) ∷
    (SignExt W32W64) ∷ (SignExt W8W16) ∷ (SignExt W8W32) ∷ (SignExt W8W64) ∷ StaticLECall ∷ Store ∷ (Sub W16) ∷
    (Sub W32) ∷ (Sub W64) ∷ (Sub W8) ∷ Arm64TSTWconst ∷ (Trunc W8W16) ∷ (Trunc W16W32) ∷ (Trunc W8W32) ∷
    (Trunc W16W64) ∷ (Trunc W32W64) ∷ (Trunc W8W64) ∷ Arm64UDIV ∷ Arm64UDIVW ∷ Arm64UMOD ∷ Arm64UMODW ∷
    Arm64XOR ∷ Arm64XORconst ∷ (Xor W16) ∷ (Xor W32) ∷ (Xor W64) ∷ (Xor W8) ∷ (ZeroExt W16W32) ∷
    (ZeroExt W16W64) ∷ (ZeroExt W32W64) ∷ (ZeroExt W8W16) ∷ (ZeroExt W8W32) ∷ (ZeroExt W8W64) ∷ []

-- the op of a name
abbrev pub op_of_name : List ℕ → Option Op
op_of_name name = find (λ op. bytes_eq (op_name op) name) all_ops
