-- What a well-formed unit is: its counts keep the limits, its names have their form, its numbers and names mean one
-- thing each and name what is there, and each value and block has what its op or kind asks.
use Rattle.std.specs.Prelude.{◌≡◌, ◌≢◌, ℕ, ◌≤◌, ◌<◌, ℤ, pos, Bool, true, false, ◌⊎◌, List, [], ◌∷◌, length, map, Option}
use Rattle.std.specs.Prelude.{None, IsSome, IfSome}
use Rattle.std.specs.List.{All, AllPairs}
use Rattle.gossa_base.specs.declared.ids.ValueId.{ValueId}
use Rattle.gossa_base.specs.declared.ids.BlockId.{BlockId}
use Rattle.ssa_ir.specs.declared.op.Op.{Op}
use Rattle.ssa_ir.specs.declared.limits.TheConstants.{MAX_NUMBER}
use Rattle.ssa_ir.specs.declared.op.Op.TheVariants.{StaticLECall, MakeResult}
use Rattle.ssa_ir.specs.declared.op.AuxRule.{AuxRule}
use Rattle.ssa_ir.specs.declared.op.AuxRule.TheVariants.{Nothing, Int, Bool as TrueOrFalse, Sym, Elem, Dropped}
use Rattle.ssa_ir.specs.declared.types.Scalar.{Scalar}
use Rattle.ssa_ir.specs.declared.types.Sig.{Sig}
use Rattle.ssa_ir.specs.declared.types.Ty.{Ty}
use Rattle.ssa_ir.specs.declared.types.Ty.TheVariants.{One, Mem, Tuple, Flags, Void}
use Rattle.ssa_ir.specs.declared.func.Value.{Value}
use Rattle.ssa_ir.specs.declared.func.Kind.{Kind}
use Rattle.ssa_ir.specs.declared.func.Kind.TheVariants.{Plain, If, Ret, Exit, Cond, Bit}
use Rattle.ssa_ir.specs.declared.func.Block.{Block}
use Rattle.ssa_ir.specs.declared.func.Func.{Func}
use Rattle.ssa_ir.specs.declared.func.SsaUnit.{SsaUnit}
use Rattle.ssa_ir.specs.declared.case.Case.{Case}
use Rattle.ssa_ir.specs.Limits.{WithinLimits}
use Rattle.ssa_ir.specs.Lookups.{signatures, values_of, value_of, block_of}
use Rattle.ssa_ir.specs.Names.{IsName}
use Rattle.ssa_ir.specs.Ops.{row_of, is_machine}

-- a number that a text can give to a value or a block
pub record IsNumber (n : ℕ) : Type 0 where
  pub least : 1 ≤ n
  pub greatest : n ≤ MAX_NUMBER

-- no two are the same
abbrev pub Differ : {X : Type 0} → List X → Type 0
Differ xs = AllPairs (λ a b. a ≢ b) xs

abbrev pub ValueIsThere : Func → ValueId → Type 0
ValueIsThere f id = IsSome (value_of f id)

abbrev pub BlockIsThere : Func → BlockId → Type 0
BlockIsThere f id = IsSome (block_of f id)

-- whether <mem> on a value of this op is the tuple without words, and no memory
abbrev pub makes_tuple : Op → Bool
makes_tuple StaticLECall = true
makes_tuple MakeResult = true
makes_tuple _ = false

-- a text can write this type on a value of this op: <mem> means one thing on each op, and flags and nothing have no
-- name
abbrev pub CanBeWritten : Op → Ty → Type 0
CanBeWritten op (One t) = Unit {0}
CanBeWritten op Mem = makes_tuple op ≡ false
CanBeWritten op (Tuple []) = makes_tuple op ≡ true
CanBeWritten op (Tuple (t ∷ types)) = Unit {0}
CanBeWritten op Flags = ⊥
CanBeWritten op Void = ⊥

-- the number of a value whose op's row has one, 0 or 1 for true and false, and else 0
abbrev pub HasItsNumber : AuxRule → ℤ → Type 0
HasItsNumber Int aux = Unit {0}
HasItsNumber TrueOrFalse aux = (aux ≡ pos 0) ⊎ (aux ≡ pos 1)
HasItsNumber Nothing aux = aux ≡ pos 0
HasItsNumber Sym aux = aux ≡ pos 0
HasItsNumber Elem aux = aux ≡ pos 0
HasItsNumber Dropped aux = aux ≡ pos 0

-- a symbol exactly where the op's row has one
abbrev pub HasItsSymbol : AuxRule → Option (List ℕ) → Type 0
HasItsSymbol Sym sym = IsSome sym
HasItsSymbol Nothing sym = sym ≡ None
HasItsSymbol Int sym = sym ≡ None
HasItsSymbol TrueOrFalse sym = sym ≡ None
HasItsSymbol Elem sym = sym ≡ None
HasItsSymbol Dropped sym = sym ≡ None

-- an element type exactly where the op's row has one
abbrev pub HasItsElem : AuxRule → Option Scalar → Type 0
HasItsElem Elem elem = IsSome elem
HasItsElem Nothing elem = elem ≡ None
HasItsElem Int elem = elem ≡ None
HasItsElem TrueOrFalse elem = elem ≡ None
HasItsElem Sym elem = elem ≡ None
HasItsElem Dropped elem = elem ≡ None

pub record WellFormedValue (v : Value) : Type 0 where
  pub generic : is_machine v.op ≡ false
  pub type : CanBeWritten v.op v.ty
  pub number : HasItsNumber (row_of v.op).aux v.aux
  pub symbol : HasItsSymbol (row_of v.op).aux v.sym
  pub elem : HasItsElem (row_of v.op).aux v.elem
  pub name : IfSome v.sym IsName

-- so many successors as a block of this kind has; the two branches of the machine are in no unit
abbrev pub HasItsSuccessors : Kind → ℕ → Type 0
HasItsSuccessors Plain n = n ≡ 1
HasItsSuccessors If n = n ≡ 2
HasItsSuccessors Ret n = n ≡ 0
HasItsSuccessors Exit n = n ≡ 0
HasItsSuccessors (Cond c) n = ⊥
HasItsSuccessors Bit n = ⊥

-- a control exactly where the block isn't plain
abbrev pub HasItsControl : Kind → Option ValueId → Type 0
HasItsControl Plain control = control ≡ None
HasItsControl If control = IsSome control
HasItsControl Ret control = IsSome control
HasItsControl Exit control = IsSome control
HasItsControl (Cond c) control = ⊥
HasItsControl Bit control = ⊥

pub record WellFormedBlock (b : Block) : Type 0 where
  pub successors : HasItsSuccessors b.kind (length b.succs)
  pub control : HasItsControl b.kind b.control

pub record WellFormedFunc (f : Func) : Type 0 where
  pub value_numbers : All (λ (v : Value). IsNumber v.id.0) (values_of f)
  pub block_numbers : All (λ (b : Block). IsNumber b.id.n) f.blocks
  pub values_differ : Differ (map (λ v. v.id.0) (values_of f))
  pub blocks_differ : Differ (map (λ b. b.id.n) f.blocks)
  pub unsplit : All (λ (b : Block). b.id.split ≡ false) f.blocks
  pub args_there : All (λ (v : Value). All (ValueIsThere f) v.args) (values_of f)
  pub controls_there : All (λ (b : Block). IfSome b.control (ValueIsThere f)) f.blocks
  pub preds_there : All (λ (b : Block). All (BlockIsThere f) b.preds) f.blocks
  pub succs_there : All (λ (b : Block). All (BlockIsThere f) b.succs) f.blocks
  pub each_value : All WellFormedValue (values_of f)
  pub each_block : All WellFormedBlock f.blocks

pub record WellFormedCase (u : SsaUnit) (c : Case) : Type 0 where
  pub function : c.func < length u.funcs
  pub symbols : All (λ (s : List ℕ × ℕ). IsName s.0) c.syms

pub record WellFormed (u : SsaUnit) : Type 0 where
  pub limits : WithinLimits u
  pub names : All (λ (s : Sig). IsName s.name) (signatures u)
  pub names_differ : Differ (map (λ s. s.name) (signatures u))
  pub each_function : All WellFormedFunc u.funcs
  pub each_case : All (WellFormedCase u) u.cases
