use Rattle.std.proofs.Common.{length}
use Rattle.ssa_text.proofs.SplitLemmas.{SoFar}
use Rattle.ssa_text.proofs.split.split_cases.Given as goal

abbrev pub invariant-loop-line : goal.invariant-loop-line
invariant-loop-line l = SoFar l.fn.text l.offset l.number l.lines

abbrev pub decreases-loop-line : goal.decreases-loop-line
decreases-loop-line l = length l.lines
