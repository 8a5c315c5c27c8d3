use Rattle.std.proofs.Common.{◌≡◌, drop}
use Rattle.ssa_check.specs.CalleeCheck.{classes}
use Rattle.ssa_check.specs.OpTypes.{are, classes_of}
use Rattle.ssa_check.proofs.callees.have_types.Given as goal

-- the values left have their classes exactly where all values have
abbrev pub invariant-loop-i : goal.invariant-loop-i
invariant-loop-i l =
    are (classes_of l.tables (drop l.i l.ids)) (classes (drop l.i l.types))
    ≡ are (classes_of l.tables l.ids) (classes l.types)
