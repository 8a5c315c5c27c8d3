use Rattle.std.proofs.Common.{arith}
use Rattle.ssa_meaning.proofs.WordLemmas.{all_taken}
use Rattle.ssa_meaning.proofs.words.room_for.Goals as goal

pub returns : goal.returns
returns c =
    all_taken c.loop-block.room c.loop-block.block-index c.as_slice-block-items.result.now c.args.func.now.blocks
    c.as_slice-block-items.ensures (omega (arith, c.loop-block-test.false)) c.loop-block.invariant.0
