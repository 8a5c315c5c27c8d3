use Rattle.std.proofs.Common.{◌≡◌, take}
use Rattle.std.specs.List.{fold}
use Rattle.ssa_check.specs.tables.Lowest.{lower_where}
use Rattle.ssa_check.proofs.lowest.lowest_in.Given as goal

-- the values so far have this lowest number
abbrev pub invariant-loop-value : goal.invariant-loop-value
invariant-loop-value g l =
    l.lowest
    ≡ fold (λ lowest v. lower_where (g.T.ValueTest.fails l.test l.block v) lowest v.id.0) l.fn.before
    (take l.value-index l.value-items)
