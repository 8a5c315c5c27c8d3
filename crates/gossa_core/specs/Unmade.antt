-- Why a command makes no output of a text.
use Rattle.std.specs.Prelude.{◌≡◌, ℕ, List, Ok, Err}
use Rattle.std.specs.List.{All}
use Rattle.ssa_ir.specs.declared.func.SsaUnit.{SsaUnit}
use Rattle.ssa_text.specs.UnitReading.{read_unit}
use Rattle.ssa_lines.specs.declared.refusal.TextFault.{TextFault}
use Rattle.ssa_check.specs.declared.refusal.Fault.{Fault}
use Rattle.ssa_check.specs.Failing.{Accepted, FirstFault}
use Rattle.gossa_core.specs.declared.status.CheckFault.{CheckFault}
use Rattle.gossa_core.specs.declared.status.Outcome.{Outcome}
use Rattle.gossa_core.specs.declared.status.Outcome.TheVariants.{NotBuilt, Text, Check}
use Rattle.gossa_core.specs.declared.status.Outcome.TheVariants.{NoMemory}
use Rattle.gossa_core.specs.declared.words.Command.{Command}
use Rattle.gossa_core.specs.declared.words.Command.TheVariants.{Compile, Run}
use Rattle.sum_compile.specs.Narrow.{Narrow}

-- the text spells no unit, and this is its first fault
abbrev pub Misspells : List ℕ → TextFault → Type 0
Misspells text fault = read_unit text ≡ Err fault

-- the first fault of a unit, told by the name of its function
pub record IsFirstFault (u : SsaUnit) (told : CheckFault) : Type 0 where
  pub fault : Fault
  pub first : FirstFault u fault
  pub func : told.func ≡ first.func.sig.name
  pub check : told.check ≡ fault.check
  pub at : told.at ≡ fault.at

-- the text spells a unit that fails a check, and this is its first fault
pub record FailsCheck (text : List ℕ) (told : CheckFault) : Type 0 where
  pub unit : SsaUnit
  pub read : read_unit text ≡ Ok unit
  pub first : IsFirstFault unit told

-- a text that isn't compiled yet: it spells an accepted unit of which not every function is narrow
pub record IsUnbuilt (text : List ℕ) : Type 0 where
  pub unit : SsaUnit
  pub read : read_unit text ≡ Ok unit
  pub accepted : Accepted unit
  pub other : ¬ All Narrow unit.funcs

-- why a unit isn't accepted; want of memory alone is free
abbrev pub Unchecked : SsaUnit → Outcome → Type 0
Unchecked u (Check fault) = IsFirstFault u fault
Unchecked u NoMemory = Unit {0}
Unchecked u _ = ⊥

-- `compile` leaves some texts unbuilt, and `run` none
abbrev pub LeavesUnbuilt : Command → List ℕ → Type 0
LeavesUnbuilt (Compile regs) text = IsUnbuilt text
LeavesUnbuilt Run text = ⊥

-- why a command makes no output of a text; want of memory alone is free
abbrev pub Unmade : Command → List ℕ → Outcome → Type 0
Unmade c text NotBuilt = LeavesUnbuilt c text
Unmade c text (Text fault) = Misspells text fault
Unmade c text (Check fault) = FailsCheck text fault
Unmade c text NoMemory = Unit {0}
Unmade c text _ = ⊥
