use Rattle.std.proofs.Common.{◌≡◌, length, arith}
use Rattle.ssa_check.proofs.MemorySweepLemmas.{last_sweep}
use Rattle.ssa_check.proofs.memories.passed_memories.Goals as goal

pub returns : goal.returns
returns c =
    let whole : c.loop.passed.len ≡ length c.loop.passed.items = omega (arith, c.loop.passed.ok.0) in
    last_sweep c.args.flow.now c.args.leaves.now c.loop.passed.items c.as_mut_slice.result.now c.sweep.new.passed
    c.loop.passed.len c.sweep.result whole c.as_mut_slice.ensures.value c.loop.invariant.0 c.loop.invariant.1
    c.sweep.ensures c.loop-test.false
