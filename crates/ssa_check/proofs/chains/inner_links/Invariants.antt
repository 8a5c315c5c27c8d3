use Rattle.std.proofs.Common.{◌≡◌, take}
use Rattle.ssa_check.specs.tables.ChainLinks.{links_of}
use Rattle.ssa_check.proofs.chains.inner_links.Given as goal

-- the inner definers among the values so far
abbrev pub invariant-loop-value : goal.invariant-loop-value
invariant-loop-value l = l.found.items ≡ links_of l.tables (take l.value-index l.values)
