use Rattle.std.proofs.Common.{◌≡◌, true, take}
use Rattle.std.specs.List.{list_all}
use Rattle.graphs.specs.Ranks.{is_at_or_above}
use Rattle.graphs.proofs.loops.none_below.Given as goal

-- none so far is below the rank
abbrev pub invariant-loop-node : goal.invariant-loop-node
invariant-loop-node l = list_all (is_at_or_above l.ranks l.rank) (take l.node-index l.nodes) ≡ true
