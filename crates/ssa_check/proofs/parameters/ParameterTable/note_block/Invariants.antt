use Rattle.std.proofs.Common.{take}
use Rattle.ssa_check.specs.tables.ParameterTables.{IsNoted}
use Rattle.ssa_check.proofs.parameters.ParameterTable.note_block.Given as goal

-- the values so far are noted
abbrev pub invariant-loop-value : goal.invariant-loop-value
invariant-loop-value l = IsNoted l.fn.self (take l.value-index l.value-items) l.self
