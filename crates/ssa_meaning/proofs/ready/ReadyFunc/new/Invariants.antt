use Rattle.ssa_meaning.proofs.ReadyLemmas.{MadeFor, ReadyAt}
use Rattle.ssa_meaning.proofs.ready.ReadyFunc.new.Given as goal

-- the blocks so far are made ready
abbrev pub invariant-loop-block : goal.invariant-loop-block
invariant-loop-block l = MadeFor (ReadyAt l.func) l.blocks.items l.block-index
