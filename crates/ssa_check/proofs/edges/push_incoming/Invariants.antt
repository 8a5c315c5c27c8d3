use Rattle.std.proofs.Common.{◌≡◌, ◌++◌, map, take}
use Rattle.ssa_check.proofs.edges.push_incoming.Given as goal

-- the edges so far stand behind those that were there
abbrev pub invariant-loop-predecessor : goal.invariant-loop-predecessor
invariant-loop-predecessor l =
    l.edges.items
    ≡ l.fn.edges.items ++ map (λ s. record { target = l.block.id.n; source = s.n })
    (take l.predecessor-index l.predecessor-items)
