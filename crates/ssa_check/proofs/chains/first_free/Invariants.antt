use Rattle.std.proofs.Common.{◌≡◌, drop, find, nat_eq, not}
use Rattle.std.specs.List.{list_any}
use Rattle.ssa_check.proofs.chains.first_free.Given as goal

-- the first of all is the first of those left
abbrev pub invariant-loop-link : goal.invariant-loop-link
invariant-loop-link l =
    find (λ k. not (list_any (nat_eq k.id.0) l.numbers.keys)) (drop l.link-index l.found)
    ≡ find (λ k. not (list_any (nat_eq k.id.0) l.numbers.keys)) l.found
