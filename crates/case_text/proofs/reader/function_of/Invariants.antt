use Rattle.std.proofs.Common.{◌≡◌, drop}
use Rattle.std.specs.List.{position_from}
use Rattle.ssa_lines.specs.Words.{is_same}
use Rattle.case_text.proofs.reader.function_of.Given as goal

-- none so far has the name
abbrev pub invariant-loop-number : goal.invariant-loop-number
invariant-loop-number l = position_from (λ n. is_same n l.name) 0 l.names
    ≡ position_from (λ n. is_same n l.name) l.number (drop l.number l.names)
