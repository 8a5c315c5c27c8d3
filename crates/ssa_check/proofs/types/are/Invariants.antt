use Rattle.std.proofs.Common.{◌≡◌, drop}
use Rattle.ssa_check.specs.OpTypes.{are, classes_of}
use Rattle.ssa_check.proofs.types.are.Given as goal

-- the values left have their classes exactly where all values have
abbrev pub invariant-loop-i : goal.invariant-loop-i
invariant-loop-i l =
    are (classes_of l.tables (drop l.i l.args)) (drop l.i l.asked) ≡ are (classes_of l.tables l.args) l.asked
