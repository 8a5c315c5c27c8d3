use Rattle.std.proofs.Common.{◌<◌, length, subst, sym, ℕ}
use Rattle.ssa_check.proofs.TableLemmas.{index_inside}
use Rattle.ssa_check.proofs.memory.MemoryTest.index.Goals as goal

pub returns-clause-within : goal.returns-clause-within
returns-clause-within c =
    subst (λ (i : ℕ). i < length c.args.self.now.tables.now.blocks) (sym c.index.ensures)
    (index_inside c.args.self.now.tables.now c.args.block.now c.requires.of_block)
