use Rattle.std.proofs.Common.{◌≡◌, drop, eqb}
use Rattle.indexmap.specs.IndexMap.{insert_all}
use Rattle.ssa_tables.specs.Places.{places_in}
use Rattle.ssa_tables.proofs.values.put_values.Given as goal

-- the places of the values left, put behind those that are there, give those of all values
abbrev pub invariant-loop-index : goal.invariant-loop-index
invariant-loop-index l =
    insert_all eqb l.places.entries (places_in l.block l.index (drop l.index l.values))
    ≡ insert_all eqb l.fn.places.entries (places_in l.block 0 l.values)
