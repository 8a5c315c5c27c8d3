use Rattle.std.proofs.Common.{◌≡◌, ℕ, ◌<◌, true, get_or}
use Rattle.std.specs.List.{list_all}
use Rattle.graphs.specs.Graphs.{targets}
use Rattle.graphs.specs.Ranks.{is_at_or_above}
use Rattle.graphs.proofs.loops.is_ordered.Given as goal

-- no edge of the nodes so far leads to a lower rank
abbrev pub invariant-loop-node : goal.invariant-loop-node
invariant-loop-node l =
    (u : ℕ) → u < l.node → list_all (is_at_or_above l.ranks (get_or l.ranks u 0)) (targets l.graph u) ≡ true
