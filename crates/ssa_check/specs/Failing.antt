-- Which places of a function fail a check, and the first fault of a unit.
use Rattle.std.specs.Prelude.{◌≡◌, ℕ, ◌<◌, false, Option, None, Some, slice_get}
use Rattle.std.specs.List.{All, Any}
use Rattle.ssa_ir.specs.declared.func.Block.{Block}
use Rattle.ssa_ir.specs.declared.func.Func.{Func}
use Rattle.ssa_ir.specs.declared.func.SsaUnit.{SsaUnit}
use Rattle.ssa_ir.specs.declared.func.Value.{Value}
use Rattle.ssa_check.specs.declared.refusal.At.{At}
use Rattle.ssa_check.specs.declared.refusal.At.TheVariants.{Func as AtFunc, Value as AtValue, Block as AtBlock}
use Rattle.ssa_check.specs.declared.refusal.Check.{Check}
use Rattle.ssa_check.specs.declared.refusal.Check.TheVariants.{Entry, Edges, PhiArity, Arity, Types, ArgOrInit, Callee}
use Rattle.ssa_check.specs.declared.refusal.Check.TheVariants.{Memory, Cycle, Undefined, Control}
use Rattle.ssa_check.specs.declared.refusal.CheckRefusal.{CheckRefusal}
use Rattle.ssa_check.specs.declared.refusal.CheckRefusal.TheVariants.{Failed, NoMemory}
use Rattle.ssa_check.specs.declared.refusal.Fault.{Fault}
use Rattle.ssa_check.specs.BlockChecks.{control_holds, edges_hold, entry_holds, has_blocks}
use Rattle.ssa_check.specs.CalleeCheck.{callee_holds}
use Rattle.ssa_ir.specs.Cycles.{OnCycle}
use Rattle.ssa_ir.specs.Definedness.{ControlMisses, ValueMisses}
use Rattle.ssa_ir.specs.MemoryPaths.{MemoryBlockFails, MemoryValueFails}
use Rattle.ssa_check.specs.ValueChecks.{arg_or_init_holds, arity_holds, has_init, phi_holds, types_hold}

-- the function itself fails
abbrev pub FuncFails : Check → SsaUnit → Func → Type 0
FuncFails Entry u f = has_blocks f ≡ false
FuncFails ArgOrInit u f = has_init f ≡ false
FuncFails _ u f = ⊥

-- a value of a block fails
abbrev pub ValueFails : Check → SsaUnit → Func → Block → Value → Type 0
ValueFails PhiArity u f b v = phi_holds f b v ≡ false
ValueFails Arity u f b v = arity_holds v ≡ false
ValueFails Types u f b v = types_hold f v ≡ false
ValueFails ArgOrInit u f b v = arg_or_init_holds f b v ≡ false
ValueFails Callee u f b v = callee_holds u f b v ≡ false
ValueFails Memory u f b v = MemoryValueFails f b v
ValueFails Cycle u f b v = OnCycle b.values v
ValueFails Undefined u f b v = ValueMisses f b v
ValueFails _ u f b v = ⊥

-- a block fails
abbrev pub BlockFails : Check → SsaUnit → Func → Block → Type 0
BlockFails Entry u f b = entry_holds f b ≡ false
BlockFails Edges u f b = edges_hold f b ≡ false
BlockFails Memory u f b = MemoryBlockFails f b
BlockFails Undefined u f b = ControlMisses f b b.control
BlockFails Control u f b = control_holds f b ≡ false
BlockFails _ u f b = ⊥

-- a place of a function fails a check
abbrev pub FailsAt : Check → SsaUnit → Func → At → Type 0
FailsAt c u f AtFunc = FuncFails c u f
FailsAt c u f (AtValue id) =
    Any (λ (b : Block). Any (λ (v : Value). (v.id ≡ id) × ValueFails c u f b v) b.values) f.blocks
FailsAt c u f (AtBlock id) = Any (λ (b : Block). (b.id ≡ id) × BlockFails c u f b) f.blocks

-- the order of places: the function, its values by number, its blocks by number
abbrev pub IsBefore : At → At → Type 0
IsBefore AtFunc AtFunc = ⊥
IsBefore AtFunc (AtValue w) = Unit {0}
IsBefore AtFunc (AtBlock c) = Unit {0}
IsBefore (AtValue v) AtFunc = ⊥
IsBefore (AtValue v) (AtValue w) = v.0 < w.0
IsBefore (AtValue v) (AtBlock c) = Unit {0}
IsBefore (AtBlock b) AtFunc = ⊥
IsBefore (AtBlock b) (AtValue w) = ⊥
IsBefore (AtBlock b) (AtBlock c) = b.n < c.n

-- the place of a value, by its number
abbrev pub at_value : Option ℕ → Option At
at_value None = None
at_value (Some n) = Some (AtValue (record { 0 = n }))

-- the place of an unsplit block, by its number
abbrev pub at_block : Option ℕ → Option At
at_block None = None
at_block (Some n) = Some (AtBlock (record { split = false; n = n }))

-- a function meets a check
abbrev pub Meets : Check → SsaUnit → Func → Type 0
Meets c u f = (at : At) → FailsAt c u f at → ⊥

-- a function meets all checks
abbrev pub MeetsAll : SsaUnit → Func → Type 0
MeetsAll u f = (c : Check) → Meets c u f

-- a unit is accepted: each of its functions meets all checks
abbrev pub Accepted : SsaUnit → Type 0
Accepted u = All (MeetsAll u) u.funcs

-- the number of a check: those of lower numbers are asked before it
abbrev pub number_of : Check → ℕ
number_of Entry = 1
number_of Edges = 2
number_of PhiArity = 3
number_of Arity = 4
number_of Types = 5
number_of ArgOrInit = 6
number_of Callee = 7
number_of Memory = 8
number_of Cycle = 9
number_of Undefined = 10
number_of Control = 11

-- all checks of lower numbers are met
abbrev pub MetBelow : ℕ → SsaUnit → Func → Type 0
MetBelow n u f = (d : Check) → number_of d < n → Meets d u f

-- the least place of a function that fails a check
pub record LeastPlace (c : Check) (u : SsaUnit) (f : Func) (at : At) : Type 0 where
  pub fails : FailsAt c u f at
  pub least : (other : At) → IsBefore other at → FailsAt c u f other → ⊥

-- the first fault of a function: all checks before it are met, and it is the least place of its own
pub record FirstFaultOf (u : SsaUnit) (f : Func) (c : Check) (at : At) : Type 0 where
  pub earlier : MetBelow (number_of c) u f
  pub place : LeastPlace c u f at

-- the first fault of a unit: all functions before it meet all checks
pub record FirstFault (u : SsaUnit) (fault : Fault) : Type 0 where
  pub func : Func
  pub is_its : slice_get u.funcs fault.func ≡ Some func
  pub earlier : (i : ℕ) (f : Func) → i < fault.func → slice_get u.funcs i ≡ Some f → MeetsAll u f
  pub fault_of : FirstFaultOf u func fault.check fault.at

-- why a unit is refused; want of memory alone is free
abbrev pub IsRefused : SsaUnit → CheckRefusal → Type 0
IsRefused u (Failed fault) = FirstFault u fault
IsRefused u NoMemory = Unit {0}
