use Rattle.std.proofs.Common.{length}
use Rattle.ssa_text.proofs.ReadLemmas.{GoesOn}
use Rattle.ssa_text.proofs.read.read_lines.Given as goal

abbrev pub invariant-loop-line : goal.invariant-loop-line
invariant-loop-line l = GoesOn l.fn.text l.reader l.number l.lines

abbrev pub decreases-loop-line : goal.decreases-loop-line
decreases-loop-line l = length l.lines
