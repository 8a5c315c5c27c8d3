use Rattle.std.proofs.Common.{take}
use Rattle.graphs.specs.Loops.{LeastOnLoop}
use Rattle.graphs.proofs.loops.lowest_by_trial.Given as goal

-- the lowest of the names so far
abbrev pub invariant-loop-name : goal.invariant-loop-name
invariant-loop-name l = LeastOnLoop l.graph (take l.name-index l.names) l.lowest
