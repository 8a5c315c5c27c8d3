use Rattle.graphs.specs.Searches.{work}
use Rattle.graphs.proofs.SearchLemmas.{Searches}
use Rattle.graphs.proofs.search.comes_back.Given as goal

abbrev pub decreases-loop-node : goal.decreases-loop-node
decreases-loop-node l = work l.search

-- the search goes on
abbrev pub invariant-loop-node : goal.invariant-loop-node
invariant-loop-node l = Searches l.graph l.start l.search
