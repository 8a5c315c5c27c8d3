use Rattle.std.proofs.Common.{◌-◌, arith, drop}
use Rattle.ssa_meaning.proofs.ReadyLemmas.{none_before}
use Rattle.ssa_meaning.proofs.ready.times_before.Goals as goal

pub returns-after-loop-index : goal.returns-after-loop-index
returns-after-loop-index c =
    omega (
      arith,
      c.loop-index.invariant.0,
      none_before (drop c.loop-index.index c.args.ids.now) (c.args.len - c.loop-index.index) c.args.id
          (omega (arith, c.loop-index-test.false)),
    )
