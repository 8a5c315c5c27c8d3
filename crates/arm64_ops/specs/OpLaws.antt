-- What holds of ops among each other, for all words.
use Rattle.std.specs.Prelude.{◌≡◌, ℕ, pos}
use Rattle.gossa_base.specs.Words.{StandsFor}
use Rattle.ssa_ir.specs.declared.op.Op.{Op}
use Rattle.ssa_ir.specs.declared.op.Op.TheVariants.{Sub, Mul, Div, DivU, Mod, ModU, SignExt, ZeroExt, Arm64SUB}
use Rattle.ssa_ir.specs.declared.op.Op.TheVariants.{Arm64MUL, Arm64DIV, Arm64UDIV, Arm64MOD, Arm64UMOD, Arm64MULW}
use Rattle.ssa_ir.specs.declared.op.Op.TheVariants.{Arm64DIVW, Arm64UDIVW, Arm64MODW, Arm64UMODW, Arm64MOVWreg}
use Rattle.ssa_ir.specs.declared.op.Op.TheVariants.{Arm64MOVWUreg}
use Rattle.ssa_ir.specs.declared.op.Width.{Width}
use Rattle.ssa_ir.specs.declared.op.Width.TheVariants.{W32}
use Rattle.ssa_ir.specs.declared.op.WidthPair.TheVariants.{W32W64}
use Rattle.ssa_ir.specs.Evaluation.{eval}

-- the word of an op without a number, of two operands
abbrev pub of_two : Op → (a b : ℕ) → ℕ
of_two op a b = eval op (pos 0) a b 0 0

-- an op of the machine answers what a generic op of 32 bits does, of all words that stand for its operands at 32 bits
abbrev pub AgreeAt32 : (machine generic : Op) → Type 0
AgreeAt32 machine generic =
    (a b x y : ℕ) → StandsFor 32 a x → StandsFor 32 b y → of_two machine a b ≡ of_two generic x y

-- the W forms are the generic ops at 32 bits
pub record WordFormsAgree : Type 0 where
  pub product : AgreeAt32 Arm64MULW (Mul W32)
  pub quotient : AgreeAt32 Arm64DIVW (Div W32)
  pub unsigned_quotient : AgreeAt32 Arm64UDIVW (DivU W32)
  pub remainder : AgreeAt32 Arm64MODW (Mod W32)
  pub unsigned_remainder : AgreeAt32 Arm64UMODW (ModU W32)
  pub sign_extension : AgreeAt32 Arm64MOVWreg (SignExt W32W64)
  pub zero_extension : AgreeAt32 Arm64MOVWUreg (ZeroExt W32W64)

-- the remainder is x - (x / y) y
abbrev pub RemaindersAreLeft : Type 0
RemaindersAreLeft =
    (w : Width) (x y : ℕ) → of_two (Mod w) x y ≡ of_two (Sub w) x (of_two (Mul w) (of_two (Div w) x y) y)

abbrev pub UnsignedRemaindersAreLeft : Type 0
UnsignedRemaindersAreLeft =
    (w : Width) (x y : ℕ) → of_two (ModU w) x y ≡ of_two (Sub w) x (of_two (Mul w) (of_two (DivU w) x y) y)

-- so it is for the machine's ops of 64 bits
pub record MachineRemaindersAreLeft : Type 0 where
  pub signed : (x y : ℕ) → of_two Arm64MOD x y ≡ of_two Arm64SUB x (of_two Arm64MUL (of_two Arm64DIV x y) y)
  pub unsigned : (x y : ℕ) → of_two Arm64UMOD x y ≡ of_two Arm64SUB x (of_two Arm64MUL (of_two Arm64UDIV x y) y)
