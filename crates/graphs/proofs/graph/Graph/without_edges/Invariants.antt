use Rattle.std.proofs.Common.{◌≡◌, [], length}
use Rattle.std.specs.List.{All}
use Rattle.graphs.proofs.graph.Graph.without_edges.Given as goal

-- each node so far has no edge
abbrev pub invariant-loop : goal.invariant-loop
invariant-loop l = All (λ nodes. nodes.items ≡ []) l.targets.items × (length l.targets.items ≡ l.counter)
