use Rattle.std.proofs.Common.{◌≡◌, length}
use Rattle.ssa_lines.specs.ValueForms.{last_word}
use Rattle.ssa_lines.proofs.values.is_skipped.Given as goal

-- the last of the words left is the last of all
abbrev pub invariant-loop-word : goal.invariant-loop-word
invariant-loop-word l = last_word l.last l.words ≡ last_word l.first l.fn.words

abbrev pub decreases-loop-word : goal.decreases-loop-word
decreases-loop-word l = length l.words
