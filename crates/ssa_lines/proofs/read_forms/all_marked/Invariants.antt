use Rattle.std.proofs.Common.{◌≡◌, length}
use Rattle.std.specs.List.{list_all}
use Rattle.ssa_lines.specs.Words.{is_marked}
use Rattle.ssa_lines.proofs.read_forms.all_marked.Given as goal

-- the words left are marked exactly where all are
abbrev pub invariant-loop-word : goal.invariant-loop-word
invariant-loop-word l = list_all is_marked l.words ≡ list_all is_marked l.fn.words

abbrev pub decreases-loop-word : goal.decreases-loop-word
decreases-loop-word l = length l.words
