-- The place of each op among all in the order in which they are declared, the widths of one in rising order.
use Rattle.std.specs.Prelude.{ℕ}
use Rattle.ssa_ir.specs.declared.op.Op.{Op}
use Rattle.ssa_ir.specs.declared.op.Op.TheVariants.{Add, Sub, Mul, And, Or, Xor, Neg, Com, Div, DivU, Mod, ModU, Lsh}
use Rattle.ssa_ir.specs.declared.op.Op.TheVariants.{Rsh, RshU, Eq, Neq, Less, Leq, LessU, LeqU, EqB, NeqB, AndB, OrB}
use Rattle.ssa_ir.specs.declared.op.Op.TheVariants.{Not, EqPtr, NeqPtr, IsNonNil, IsInBounds, IsSliceInBounds, SignExt}
use Rattle.ssa_ir.specs.declared.op.Op.TheVariants.{ZeroExt, Trunc, AddPtr, OffPtr, Load, Store, NilCheck, CondSelect}
use Rattle.ssa_ir.specs.declared.op.Op.TheVariants.{Const, ConstBool, ConstNil, SB, Addr, Phi, Copy, Arg, InitMem}
use Rattle.ssa_ir.specs.declared.op.Op.TheVariants.{StaticLECall, SelectN, MakeResult}
use Rattle.ssa_ir.specs.declared.op.Op.TheVariants.{Arm64MOVDconst, Arm64MOVDaddr, Arm64ADD, Arm64SUB, Arm64AND}
use Rattle.ssa_ir.specs.declared.op.Op.TheVariants.{Arm64OR, Arm64XOR, Arm64MUL, Arm64MULW, Arm64ADDconst}
use Rattle.ssa_ir.specs.declared.op.Op.TheVariants.{Arm64SUBconst, Arm64ANDconst, Arm64ORconst, Arm64XORconst, Arm64NEG}
use Rattle.ssa_ir.specs.declared.op.Op.TheVariants.{Arm64MVN, Arm64DIV, Arm64UDIV, Arm64DIVW, Arm64UDIVW, Arm64MOD}
use Rattle.ssa_ir.specs.declared.op.Op.TheVariants.{Arm64UMOD, Arm64MODW, Arm64UMODW, Arm64SLL, Arm64SRL, Arm64SRA}
use Rattle.ssa_ir.specs.declared.op.Op.TheVariants.{Arm64SLLconst, Arm64SRLconst, Arm64SRAconst, Arm64MOVBreg}
use Rattle.ssa_ir.specs.declared.op.Op.TheVariants.{Arm64MOVHreg, Arm64MOVWreg, Arm64MOVBUreg, Arm64MOVHUreg}
use Rattle.ssa_ir.specs.declared.op.Op.TheVariants.{Arm64MOVWUreg, Arm64CMP, Arm64CMPW, Arm64CMPconst, Arm64CMPWconst}
use Rattle.ssa_ir.specs.declared.op.Op.TheVariants.{Arm64TSTWconst, Arm64Equal, Arm64NotEqual, Arm64LessThan}
use Rattle.ssa_ir.specs.declared.op.Op.TheVariants.{Arm64LessEqual, Arm64GreaterThan, Arm64GreaterEqual, Arm64LessThanU}
use Rattle.ssa_ir.specs.declared.op.Op.TheVariants.{Arm64LessEqualU, Arm64GreaterThanU, Arm64GreaterEqualU, Arm64CSEL}
use Rattle.ssa_ir.specs.declared.op.Op.TheVariants.{Arm64MOVBload, Arm64MOVHload, Arm64MOVWload, Arm64MOVBUload}
use Rattle.ssa_ir.specs.declared.op.Op.TheVariants.{Arm64MOVHUload, Arm64MOVWUload, Arm64MOVDload, Arm64MOVBstore}
use Rattle.ssa_ir.specs.declared.op.Op.TheVariants.{Arm64MOVHstore, Arm64MOVWstore, Arm64MOVDstore}
use Rattle.ssa_ir.specs.declared.op.Op.TheVariants.{Arm64LoweredNilCheck, Arm64CALLstatic}
use Rattle.ssa_ir.specs.OpNames.{by_width, by_widths}

abbrev pub op_place : Op → ℕ
op_place (Add w) = by_width w 0 1 2 3
op_place (Sub w) = by_width w 4 5 6 7
op_place (Mul w) = by_width w 8 9 10 11
op_place (And w) = by_width w 12 13 14 15
op_place (Or w) = by_width w 16 17 18 19
op_place (Xor w) = by_width w 20 21 22 23
op_place (Neg w) = by_width w 24 25 26 27
op_place (Com w) = by_width w 28 29 30 31
op_place (Div w) = by_width w 32 33 34 35
op_place (DivU w) = by_width w 36 37 38 39
op_place (Mod w) = by_width w 40 41 42 43
op_place (ModU w) = by_width w 44 45 46 47
op_place (Lsh w) = by_width w 48 49 50 51
op_place (Rsh w) = by_width w 52 53 54 55
op_place (RshU w) = by_width w 56 57 58 59
op_place (Eq w) = by_width w 60 61 62 63
op_place (Neq w) = by_width w 64 65 66 67
op_place (Less w) = by_width w 68 69 70 71
op_place (Leq w) = by_width w 72 73 74 75
op_place (LessU w) = by_width w 76 77 78 79
op_place (LeqU w) = by_width w 80 81 82 83
op_place EqB = 84
op_place NeqB = 85
op_place AndB = 86
op_place OrB = 87
op_place Not = 88
op_place EqPtr = 89
op_place NeqPtr = 90
op_place IsNonNil = 91
op_place IsInBounds = 92
op_place IsSliceInBounds = 93
op_place (SignExt w) = by_widths w 94 95 96 97 98 99
op_place (ZeroExt w) = by_widths w 100 101 102 103 104 105
op_place (Trunc w) = by_widths w 106 107 108 109 110 111
op_place AddPtr = 112
op_place OffPtr = 113
op_place Load = 114
op_place Store = 115
op_place NilCheck = 116
op_place CondSelect = 117
op_place (Const w) = by_width w 118 119 120 121
op_place ConstBool = 122
op_place ConstNil = 123
op_place SB = 124
op_place Addr = 125
op_place Phi = 126
op_place Copy = 127
op_place Arg = 128
op_place InitMem = 129
op_place StaticLECall = 130
op_place SelectN = 131
op_place MakeResult = 132
op_place Arm64MOVDconst = 133
op_place Arm64MOVDaddr = 134
op_place Arm64ADD = 135
op_place Arm64SUB = 136
op_place Arm64AND = 137
op_place Arm64OR = 138
op_place Arm64XOR = 139
op_place Arm64MUL = 140
op_place Arm64MULW = 141
op_place Arm64ADDconst = 142
op_place Arm64SUBconst = 143
op_place Arm64ANDconst = 144
op_place Arm64ORconst = 145
op_place Arm64XORconst = 146
op_place Arm64NEG = 147
op_place Arm64MVN = 148
op_place Arm64DIV = 149
op_place Arm64UDIV = 150
op_place Arm64DIVW = 151
op_place Arm64UDIVW = 152
op_place Arm64MOD = 153
op_place Arm64UMOD = 154
op_place Arm64MODW = 155
op_place Arm64UMODW = 156
op_place Arm64SLL = 157
op_place Arm64SRL = 158
op_place Arm64SRA = 159
op_place Arm64SLLconst = 160
op_place Arm64SRLconst = 161
op_place Arm64SRAconst = 162
op_place Arm64MOVBreg = 163
op_place Arm64MOVHreg = 164
op_place Arm64MOVWreg = 165
op_place Arm64MOVBUreg = 166
op_place Arm64MOVHUreg = 167
op_place Arm64MOVWUreg = 168
op_place Arm64CMP = 169
op_place Arm64CMPW = 170
op_place Arm64CMPconst = 171
op_place Arm64CMPWconst = 172
op_place Arm64TSTWconst = 173
op_place Arm64Equal = 174
op_place Arm64NotEqual = 175
op_place Arm64LessThan = 176
op_place Arm64LessEqual = 177
op_place Arm64GreaterThan = 178
op_place Arm64GreaterEqual = 179
op_place Arm64LessThanU = 180
op_place Arm64LessEqualU = 181
op_place Arm64GreaterThanU = 182
op_place Arm64GreaterEqualU = 183
op_place Arm64CSEL = 184
op_place Arm64MOVBload = 185
op_place Arm64MOVHload = 186
op_place Arm64MOVWload = 187
op_place Arm64MOVBUload = 188
op_place Arm64MOVHUload = 189
op_place Arm64MOVWUload = 190
op_place Arm64MOVDload = 191
op_place Arm64MOVBstore = 192
op_place Arm64MOVHstore = 193
op_place Arm64MOVWstore = 194
op_place Arm64MOVDstore = 195
op_place Arm64LoweredNilCheck = 196
op_place Arm64CALLstatic = 197
