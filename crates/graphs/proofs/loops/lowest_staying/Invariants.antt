use Rattle.std.proofs.Common.{◌≡◌, take}
use Rattle.graphs.specs.Loops.{lowest_staying}
use Rattle.graphs.proofs.loops.lowest_staying.Given as goal

-- the lowest of the names so far
abbrev pub invariant-loop-name : goal.invariant-loop-name
invariant-loop-name l = l.lowest ≡ lowest_staying l.graph l.ranks (take l.name-index l.names)
