use Rattle.std.proofs.Common.{◌≡◌, ◌∷◌, length}
use Rattle.ssa_lines.specs.Headers.{types_ahead}
use Rattle.ssa_lines.proofs.HeaderLemmas.{onto_group}
use Rattle.ssa_lines.proofs.headers.read_types.Given as goal

abbrev pub invariant-loop-scalar : goal.invariant-loop-scalar
invariant-loop-scalar l =
    onto_group l.types (types_ahead (l.word ∷ l.words)) ≡ types_ahead (l.fn.first ∷ l.fn.words)

abbrev pub decreases-loop-scalar : goal.decreases-loop-scalar
decreases-loop-scalar l = length l.words
