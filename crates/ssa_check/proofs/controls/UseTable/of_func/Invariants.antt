use Rattle.std.proofs.Common.{take}
use Rattle.ssa_check.specs.tables.Uses.{TellsOf}
use Rattle.ssa_check.proofs.controls.UseTable.of_func.Given as goal

-- the table says what is so of the blocks so far
abbrev pub invariant-loop-block : goal.invariant-loop-block
invariant-loop-block l = TellsOf (take l.block-index l.block-items) l.table
