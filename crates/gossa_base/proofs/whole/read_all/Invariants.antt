use Rattle.std.proofs.Common.{◌≡◌, ◌-◌, ◌+◌, ◌≤◌, vec_len}
use Rattle.std.specs.Io.KnownBytes.{Consumes}
use Rattle.gossa_base.proofs.whole.read_all.Given as goal

-- what is held was read, it is within the limit, and no fault was met
abbrev pub invariant-pieces : goal.invariant-pieces
invariant-pieces g l = record {
  read : Consumes (g.S.Source.left l.fn.source) (g.S.Source.left l.source) l.held.items;
  few : vec_len l.held ≤ l.limit;
  calm : g.S.Source.faults l.source ≡ g.S.Source.faults l.fn.source;
}

abbrev pub decreases-pieces : goal.decreases-pieces
decreases-pieces g l = l.limit + 1 - vec_len l.held
