-- What `run` writes of a unit.
use Rattle.std.specs.Prelude.{◌≡◌, ℕ, List, [], Option, None, Some, Ok, slice_get}
use Rattle.std.specs.List.{flat_map}
use Rattle.ssa_ir.specs.declared.case.Case.{Case}
use Rattle.ssa_ir.specs.declared.func.Func.{Func}
use Rattle.ssa_ir.specs.declared.func.SsaUnit.{SsaUnit}
use Rattle.ssa_ir.specs.Lookups.{signatures}
use Rattle.ssa_text.specs.UnitReading.{read_unit}
use Rattle.ssa_check.specs.Failing.{Accepted}
use Rattle.ssa_meaning.specs.CaseRun.{case_shown}
use Rattle.gossa_core.specs.ShownText.{shown_text}

-- the name of a case's function; one that isn't there has none
abbrev pub name_of_function : Option Func → List ℕ
name_of_function None = []
name_of_function (Some f) = f.sig.name

-- what the run of a case shows, by all signatures of the unit
abbrev pub case_text : SsaUnit → Case → List ℕ
case_text u c = shown_text (name_of_function (slice_get u.funcs c.func)) c.bound (signatures u) (case_shown u c)

-- what each case shows, in order
abbrev pub run_text : SsaUnit → List ℕ
run_text u = flat_map (case_text u) u.cases

-- the text spells an accepted unit, and the output is exactly the text of what each of its cases shows
pub record Runs (text output : List ℕ) : Type 0 where
  pub unit : SsaUnit
  pub read : read_unit text ≡ Ok unit
  pub accepted : Accepted unit
  pub shown : output ≡ run_text unit
