use Rattle.std.proofs.Common.{◌≡◌, length, take}
use Rattle.graphs.specs.Graphs.{graph_of}
use Rattle.graphs.proofs.graph.Graph.new.Given as goal

-- the edges so far are there
abbrev pub invariant-loop-edge : goal.invariant-loop-edge
invariant-loop-edge l = (l.graph ≡ graph_of l.nodes (take l.edge-index l.edges)) × (length l.graph ≡ l.nodes)
