use Rattle.std.proofs.Common.{◌≡◌, drop}
use Rattle.ssa_check.specs.CalleeCheck.{classes}
use Rattle.ssa_check.specs.OpTypes.{are}
use Rattle.ssa_check.proofs.callees.are_like.Given as goal

-- the types left have their classes exactly where all have
abbrev pub invariant-loop-i : goal.invariant-loop-i
invariant-loop-i l =
    are (classes (drop l.i l.types)) (classes (drop l.i l.asked)) ≡ are (classes l.types) (classes l.asked)
