use Rattle.std.proofs.Common.{◌≡◌, length}
use Rattle.std.specs.Option.{option_map}
use Rattle.ssa_lines.specs.Forms.{blocks_of, some_blocks}
use Rattle.ssa_lines.specs.NumberWords.{numbers_ahead}
use Rattle.ssa_lines.proofs.FormLemmas.{numbers_in, blocks_behind}
use Rattle.ssa_lines.proofs.read_forms.read_blocks.Given as goal

-- what the words left spell behind the blocks so far, all words spell
abbrev pub invariant-loop-word : goal.invariant-loop-word
invariant-loop-word l =
    option_map (blocks_behind l.too_large l.blocks) (numbers_in l.words)
    ≡ option_map blocks_of (some_blocks (numbers_ahead 98 l.fn.words))

abbrev pub decreases-loop-word : goal.decreases-loop-word
decreases-loop-word l = length l.words
