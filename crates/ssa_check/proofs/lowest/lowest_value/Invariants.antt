use Rattle.std.proofs.Common.{◌≡◌, take, None}
use Rattle.std.specs.List.{fold}
use Rattle.ssa_check.specs.tables.Lowest.{lowest_in}
use Rattle.ssa_check.proofs.lowest.lowest_value.Given as goal

-- the blocks so far have this lowest number
abbrev pub invariant-loop-block : goal.invariant-loop-block
invariant-loop-block g l =
    l.lowest ≡ fold (lowest_in (g.T.ValueTest.fails l.test)) None (take l.block-index l.block-items)
