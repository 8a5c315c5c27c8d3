use Rattle.std.proofs.Common.{◌≡◌, ◌++◌, map, take}
use Rattle.ssa_check.proofs.edges.push_outgoing.Given as goal

-- the edges so far stand behind those that were there
abbrev pub invariant-loop-successor : goal.invariant-loop-successor
invariant-loop-successor l =
    l.edges.items
    ≡ l.fn.edges.items ++ map (λ t. record { target = t.n; source = l.block.id.n })
    (take l.successor-index l.successor-items)
