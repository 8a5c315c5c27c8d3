use Rattle.std.proofs.Common.{◌≡◌, drop, eqb}
use Rattle.indexmap.specs.IndexMap.{insert_all}
use Rattle.ssa_tables.specs.Places.{places_from}
use Rattle.ssa_tables.proofs.values.put_blocks.Given as goal

-- the places of the values of the blocks left, put behind those that are there, give those of all blocks
abbrev pub invariant-loop-index : goal.invariant-loop-index
invariant-loop-index l =
    insert_all eqb l.places.entries (places_from l.index (drop l.index l.blocks))
    ≡ insert_all eqb l.fn.places.entries (places_from 0 l.blocks)
