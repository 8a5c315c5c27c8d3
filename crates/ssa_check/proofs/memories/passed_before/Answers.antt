use Rattle.std.proofs.Common.{sym, subst}
use Rattle.ssa_check.specs.tables.PassedMemories.{SaysBefore}
use Rattle.ssa_check.proofs.MemorySweepLemmas.{before_said}
use Rattle.ssa_check.proofs.memories.passed_before.Goals as goal

pub returns : goal.returns
returns c = λ leaves are.
    subst (SaysBefore c.args.flow.now leaves c.args.block) (sym c.before_of.ensures)
    (before_said c.args.flow.now leaves c.args.passed.now c.args.block c.requires.within are)
