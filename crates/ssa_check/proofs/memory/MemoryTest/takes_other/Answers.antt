use Rattle.std.proofs.Common.{sym, ◌∙◌}
use Rattle.ssa_check.proofs.MemoryTableLemmas.{takes_none}
use Rattle.ssa_check.proofs.memory.MemoryTest.takes_other.Goals as goal

pub returns-in_default : goal.returns-in_default
returns-in_default c =
    takes_none c.args.self.now.tables.now c.args.block.now c.args.value.now c.args.memory
    (sym c.in_default.is ∙ c.taken_by.ensures)
