use Rattle.std.proofs.Common.{◌≡◌, length}
use Rattle.ssa_lines.specs.Lines.{is_allowed}
use Rattle.ssa_lines.proofs.lines.is_allowed.Given as goal

-- what is left is allowed exactly where the line is
abbrev pub invariant-loop-rest : goal.invariant-loop-rest
invariant-loop-rest l = is_allowed l.rest ≡ is_allowed l.line

abbrev pub decreases-loop-rest : goal.decreases-loop-rest
decreases-loop-rest l = length l.rest
