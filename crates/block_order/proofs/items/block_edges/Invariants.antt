use Rattle.std.proofs.Common.{◌≡◌, ◌++◌, drop}
use Rattle.block_order.specs.tables.ItemGraph.{block_edges, edges_from}
use Rattle.block_order.proofs.items.block_edges.Given as goal

-- the edges so far, and those of the values that are left
abbrev pub invariant-loop-index : goal.invariant-loop-index
invariant-loop-index l =
    l.edges.items ++ edges_from l.values l.index (drop l.index l.values)
    ≡ block_edges l.values
