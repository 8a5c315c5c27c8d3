use Rattle.std.proofs.Common.{◌≡◌, ◌++◌, take}
use Rattle.block_order.specs.tables.ItemGraph.{arg_edges}
use Rattle.block_order.proofs.items.put_arg_edges.Given as goal

-- the edges of the arguments so far
abbrev pub invariant-loop-arg : goal.invariant-loop-arg
invariant-loop-arg l =
    l.edges.items ≡ l.initial.edges.items ++ arg_edges l.block l.index (take l.arg-index l.args)
