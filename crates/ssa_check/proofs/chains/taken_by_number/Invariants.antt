use Rattle.std.proofs.Common.{◌≡◌, [], drop, nat_eq}
use Rattle.indexmap.specs.IndexMap.{insert_all}
use Rattle.ssa_check.specs.tables.ChainLinks.{taken_pairs}
use Rattle.ssa_check.proofs.chains.taken_by_number.Given as goal

-- those left, put behind those that are there, give all
abbrev pub invariant-loop-link : goal.invariant-loop-link
invariant-loop-link l =
    insert_all nat_eq l.taken.entries (taken_pairs (drop l.link-index l.found))
    ≡ insert_all nat_eq [] (taken_pairs l.found)
