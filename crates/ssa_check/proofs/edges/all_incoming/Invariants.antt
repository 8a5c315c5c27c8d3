use Rattle.std.proofs.Common.{◌≡◌, take}
use Rattle.std.specs.List.{flat_map}
use Rattle.ssa_check.specs.tables.EdgeTables.{incoming}
use Rattle.ssa_check.proofs.edges.all_incoming.Given as goal

-- the edges of the blocks so far
abbrev pub invariant-loop-block : goal.invariant-loop-block
invariant-loop-block l = l.edges.items ≡ flat_map incoming (take l.block-index l.block-items)
