use Rattle.std.proofs.Common.{◌≤◌, length, sym, ◌∙◌, arith}
use Rattle.ssa_check.proofs.MemoryTableLemmas.{past_args}
use Rattle.ssa_check.proofs.memory.some_other.Goals as goal

pub returns-then-i-args : goal.returns-then-i-args
returns-then-i-args c =
    let past : length c.args.args.now ≤ c.loop-i.i = omega (arith, c.if-i-args.true) in
    sym (past_args c.args.passed.now c.args.preds.now c.args.args.now c.loop-i.i past) ∙ c.loop-i.invariant
