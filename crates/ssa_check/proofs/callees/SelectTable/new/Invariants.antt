use Rattle.std.proofs.Common.{take, flat_map}
use Rattle.ssa_check.specs.tables.Selects.{picks_of, TellsOf}
use Rattle.ssa_check.proofs.callees.SelectTable.new.Given as goal

-- the selects of the blocks so far are noted
abbrev pub invariant-loop-block : goal.invariant-loop-block
invariant-loop-block l = TellsOf (picks_of (flat_map (λ b. b.values) (take l.block-index l.func.blocks))) l.table
