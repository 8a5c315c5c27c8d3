use Rattle.std.proofs.Common.{◌≡◌, ◌++◌, take}
use Rattle.std.specs.List.{flat_map}
use Rattle.ssa_text.specs.Text.{block_lines}
use Rattle.ssa_text.proofs.print.print_blocks.Given as goal

-- the blocks so far are appended
abbrev pub invariant-loop-block : goal.invariant-loop-block
invariant-loop-block l = l.text.items ≡ l.fn.text.items ++ flat_map block_lines (take l.block-index l.blocks)
