use Rattle.std.proofs.Common.{◌≡◌, ◌-◌}
use Rattle.ssa_check.specs.tables.ChainLinks.{ends_after}
use Rattle.ssa_check.proofs.chains.ends_after.Given as goal

-- the steps left from here are all from the last
abbrev pub invariant-loop : goal.invariant-loop
invariant-loop l = ends_after l.taken.entries (l.steps - l.counter) l.id ≡ ends_after l.taken.entries l.steps l.fn.last
