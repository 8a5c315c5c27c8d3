use Rattle.std.proofs.Common.{◌≡◌, ◌++◌, drop}
use Rattle.block_order.specs.tables.Dependencies.{reader_indexes, reads_memory_of}
use Rattle.gossa_base.specs.Lists.{indexes_from}
use Rattle.block_order.proofs.dependencies.put_readers.Given as goal

-- the readers so far, and those of the values that are left
abbrev pub invariant-loop-index : goal.invariant-loop-index
invariant-loop-index l =
    l.found.items ++ indexes_from (reads_memory_of l.taker) l.index (drop l.index l.values)
    ≡ l.fn.found.items ++ reader_indexes l.values l.taker
