use Rattle.std.proofs.Common.{◌≡◌, ◌∷◌, ◌++◌, length}
use Rattle.std.specs.Option.{option_map}
use Rattle.ssa_lines.specs.Types.{tuple_of}
use Rattle.ssa_lines.proofs.types.read_tuple.Given as goal

abbrev pub invariant-loop-next : goal.invariant-loop-next
invariant-loop-next l =
    option_map (λ last. l.types ++ last) (tuple_of (l.part ∷ l.parts)) ≡ tuple_of (l.fn.first ∷ l.fn.parts)

abbrev pub decreases-loop-next : goal.decreases-loop-next
decreases-loop-next l = length l.parts
