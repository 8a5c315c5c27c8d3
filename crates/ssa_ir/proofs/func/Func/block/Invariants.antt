use Rattle.std.proofs.Common.{◌≡◌, drop}
use Rattle.ssa_ir.specs.Edges.{block_named}
use Rattle.ssa_ir.proofs.func.Func.block.Given as goal

-- none so far has the number
abbrev pub invariant-loop-block : goal.invariant-loop-block
invariant-loop-block l = block_named l.self.blocks l.id ≡ block_named (drop l.block-index l.self.blocks) l.id
