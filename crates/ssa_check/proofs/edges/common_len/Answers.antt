use Rattle.std.proofs.Common.{arith}
use Rattle.ssa_check.proofs.EdgeOrderLemmas.{right_ends}
use Rattle.ssa_check.proofs.edges.common_len.Goals as goal

pub returns-else-len-right : goal.returns-else-len-right
returns-else-len-right c =
    omega (
      arith,
      c.loop-len.invariant.2,
      right_ends c.loop-len.len c.args.left.now c.args.right.now
          c.if-len-right.false,
    )
