use Rattle.std.proofs.Common.{◌≡◌, length, take}
use Rattle.graphs.specs.Searches.{reach_all}
use Rattle.graphs.proofs.search.Search.reach_all.Given as goal

-- the nodes so far are reached
abbrev pub invariant-loop-node : goal.invariant-loop-node
invariant-loop-node l =
    (l.self ≡ reach_all l.initial.self (take l.node-index l.nodes)) × (length l.self.seen ≡ length l.initial.self.seen)
