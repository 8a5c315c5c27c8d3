use Rattle.std.proofs.Common.{◌≡◌, map, take}
use Rattle.ssa_tables.proofs.blocks.BlockTable.new.Given as goal

-- the names of the blocks so far
abbrev pub invariant-loop-block : goal.invariant-loop-block
invariant-loop-block l = l.names.keys ≡ map (λ b. b.id) (take l.block-index l.block-items)
