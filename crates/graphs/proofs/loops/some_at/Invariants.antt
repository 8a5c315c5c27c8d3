use Rattle.std.proofs.Common.{◌≡◌, false, take}
use Rattle.graphs.specs.Ranks.{some_at}
use Rattle.graphs.proofs.loops.some_at.Given as goal

-- none so far has the rank
abbrev pub invariant-loop-node : goal.invariant-loop-node
invariant-loop-node l = some_at l.ranks l.rank (take l.node-index l.nodes) ≡ false
