use Rattle.std.proofs.Common.{◌≡◌, ◌++◌, drop}
use Rattle.block_order.specs.tables.ItemGraph.{block_names, names_from}
use Rattle.block_order.proofs.items.block_names.Given as goal

-- the names so far, and those of the values that are left
abbrev pub invariant-loop-index : goal.invariant-loop-index
invariant-loop-index l =
    l.names.items ++ names_from l.values l.index (drop l.index l.values)
    ≡ block_names l.values
