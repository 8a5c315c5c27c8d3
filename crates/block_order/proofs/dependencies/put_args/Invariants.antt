use Rattle.std.proofs.Common.{◌≡◌, ◌++◌, filter_map, drop}
use Rattle.block_order.specs.tables.Dependencies.{index_of}
use Rattle.block_order.proofs.dependencies.put_args.Given as goal

-- the indexes of the arguments so far, and those of the arguments that are left
abbrev pub invariant-loop-arg : goal.invariant-loop-arg
invariant-loop-arg l =
    l.found.items ++ filter_map (index_of l.block) (drop l.arg-index l.args)
    ≡ l.fn.found.items ++ filter_map (index_of l.block) l.args
