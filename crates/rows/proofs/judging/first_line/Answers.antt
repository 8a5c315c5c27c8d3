use Rattle.std.proofs.Common.{arith}
use Rattle.rows.proofs.JudgingLemmas.{ended}
use Rattle.rows.proofs.judging.first_line.Goals as goal

pub returns : goal.returns
returns c =
    omega (
      arith,
      c.bytes.invariant.rest,
      ended c.args.one.now c.args.other.now c.bytes.i
          (omega (arith, c.bytes-test.false)),
    )
