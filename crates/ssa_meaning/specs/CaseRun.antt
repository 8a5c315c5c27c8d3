-- What a unit shows in a case.
use Rattle.std.specs.Prelude.{Option, None, Some, slice_get}
use Rattle.ssa_ir.specs.declared.case.Case.{Case}
use Rattle.ssa_ir.specs.declared.case.End.TheVariants.{Stuck}
use Rattle.ssa_ir.specs.declared.case.Shown.{Shown}
use Rattle.ssa_ir.specs.declared.func.Func.{Func}
use Rattle.ssa_ir.specs.declared.func.SsaUnit.{SsaUnit}
use Rattle.ssa_ir.specs.Inputs.{inputs_of}
use Rattle.ssa_ir.specs.Lookups.{sig_of}
use Rattle.ssa_ir.specs.Run.{generic, run}
use Rattle.ssa_ir.specs.Showing.{ends}

-- what a function of a unit shows in a case, by the unit's signatures; a function that isn't there is stuck
abbrev pub shown_of_function : SsaUnit → Case → Option Func → Shown
shown_of_function u c None = ends Stuck
shown_of_function u c (Some f) = run (generic (sig_of u)) (inputs_of c) f c.bound

abbrev pub case_shown : SsaUnit → Case → Shown
case_shown u c = shown_of_function u c (slice_get u.funcs c.func)
