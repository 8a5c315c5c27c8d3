use Rattle.std.proofs.Common.{◌≡◌, ℕ, ◌<◌, Some, slice_get}
use Rattle.ssa_ir.specs.declared.func.Func.{Func}
use Rattle.ssa_check.specs.Failing.{MeetsAll}
use Rattle.ssa_check.proofs.faults.fault_in.Given as goal

-- the functions so far meet all checks
abbrev pub invariant-loop-number : goal.invariant-loop-number
invariant-loop-number l = (i : ℕ) (f : Func) → i < l.number → slice_get l.unit.funcs i ≡ Some f → MeetsAll l.unit f
