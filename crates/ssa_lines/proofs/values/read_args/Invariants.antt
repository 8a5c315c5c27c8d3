use Rattle.std.proofs.Common.{◌≡◌, length}
use Rattle.ssa_lines.specs.ValueForms.{all_args}
use Rattle.ssa_lines.proofs.ArgLemmas.{args_from}
use Rattle.ssa_lines.proofs.values.read_args.Given as goal

-- the arguments so far and those of the words left are those of all
abbrev pub invariant-loop-word : goal.invariant-loop-word
invariant-loop-word l = args_from l.args l.words ≡ all_args l.fn.words

abbrev pub decreases-loop-word : goal.decreases-loop-word
decreases-loop-word l = length l.words
