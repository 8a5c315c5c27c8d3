use Rattle.std.proofs.Common.{◌≡◌, drop}
use Rattle.ssa_lines.specs.Forms.{blocks_of}
use Rattle.ssa_lines.proofs.FormLemmas.{onto_blocks}
use Rattle.ssa_lines.proofs.read_forms.blocks_of.Given as goal

-- the blocks so far, and those of the numbers left, are the blocks of all
abbrev pub invariant-loop-number : goal.invariant-loop-number
invariant-loop-number l = onto_blocks l.blocks (drop l.number-index l.numbers) ≡ blocks_of l.numbers
