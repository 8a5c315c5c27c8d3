use Rattle.std.proofs.Common.{◌≡◌, take, None}
use Rattle.std.specs.List.{fold}
use Rattle.ssa_check.specs.tables.Lowest.{lower_where}
use Rattle.ssa_check.proofs.lowest.lowest_block.Given as goal

-- the blocks so far have this lowest number
abbrev pub invariant-loop-block : goal.invariant-loop-block
invariant-loop-block g l =
    l.lowest
    ≡ fold (λ lowest b. lower_where (g.T.BlockTest.fails l.test b) lowest b.id.n) None
    (take l.block-index l.block-items)
