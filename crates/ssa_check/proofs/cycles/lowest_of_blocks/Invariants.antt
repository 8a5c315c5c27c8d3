use Rattle.std.proofs.Common.{take}
use Rattle.block_order.specs.LowestOnCycle.{IsLeast}
use Rattle.ssa_check.proofs.CyclePlaces.{OnCycleOf}
use Rattle.ssa_check.proofs.cycles.lowest_of_blocks.Given as goal

-- the lowest number of the blocks so far
abbrev pub invariant-loop-block : goal.invariant-loop-block
invariant-loop-block l = IsLeast l.lowest (OnCycleOf (take l.block-index l.block-items))
