use Rattle.std.proofs.Common.{◌≡◌, ◌++◌, map, take}
use Rattle.ssa_text.specs.declared.partial.Named.TheVariants.{OfBlock}
use Rattle.ssa_text.specs.Reading.{mention}
use Rattle.ssa_text.proofs.gathered.mention_blocks.Given as goal

-- the mentions so far are appended
abbrev pub invariant-loop-block : goal.invariant-loop-block
invariant-loop-block l = l.mentions ≡ l.fn.mentions ++ map (mention l.line) (map OfBlock (take l.block-index l.blocks))
