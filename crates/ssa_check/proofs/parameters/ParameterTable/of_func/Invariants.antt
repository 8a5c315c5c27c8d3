use Rattle.std.proofs.Common.{take}
use Rattle.std.specs.List.{flat_map}
use Rattle.ssa_check.specs.tables.ParameterTables.{IsTableOf}
use Rattle.ssa_check.proofs.parameters.ParameterTable.of_func.Given as goal

-- the table is that of the blocks so far
abbrev pub invariant-loop-block : goal.invariant-loop-block
invariant-loop-block l = IsTableOf (flat_map (λ b. b.values) (take l.block-index l.block-items)) l.table
