use Rattle.std.proofs.Common.{◌≡◌, map, drop}
use Rattle.ssa_lines.specs.Types.{scalar_among}
use Rattle.ssa_lines.proofs.types.scalar_in.Given as goal

-- no name so far is the word
abbrev pub invariant-loop-row : goal.invariant-loop-row
invariant-loop-row l =
    scalar_among (map (λ row. (row.0.now, row.1)) l.names) l.word
    ≡ scalar_among (map (λ row. (row.0.now, row.1)) (drop l.row-index l.names)) l.word
