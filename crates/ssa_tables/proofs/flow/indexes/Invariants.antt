use Rattle.std.proofs.Common.{◌≡◌, map, take}
use Rattle.ssa_tables.specs.Blocks.{place_of}
use Rattle.ssa_tables.proofs.flow.indexes.Given as goal

-- the places of the blocks so far
abbrev pub invariant-loop-id : goal.invariant-loop-id
invariant-loop-id l = l.indexes.items ≡ map (place_of l.table) (take l.id-index l.ids)
