use Rattle.std.proofs.Common.{length}
use Rattle.case_text.proofs.ReadLemmas.{GoesOn}
use Rattle.case_text.proofs.read.read_lines.Given as goal

abbrev pub invariant-loop-line : goal.invariant-loop-line
invariant-loop-line l = GoesOn l.names l.fn.text l.fn.first_line l.reader l.number l.lines

abbrev pub decreases-loop-line : goal.decreases-loop-line
decreases-loop-line l = length l.lines
