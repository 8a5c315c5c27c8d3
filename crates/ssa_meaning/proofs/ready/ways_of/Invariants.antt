use Rattle.ssa_meaning.specs.tables.Ready.{LeadsTo}
use Rattle.ssa_meaning.proofs.ReadyLemmas.{MadeFor}
use Rattle.ssa_meaning.proofs.ready.ways_of.Given as goal

-- the ways to the successors so far
abbrev pub invariant-loop-place : goal.invariant-loop-place
invariant-loop-place l = MadeFor (LeadsTo l.func l.source) l.ways.items l.place
