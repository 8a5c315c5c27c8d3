use Rattle.std.proofs.Common.{◌≡◌, ◌++◌, take}
use Rattle.ssa_text.specs.Text.{before_commas}
use Rattle.ssa_text.proofs.print.print_before_commas.Given as goal

-- the types so far are appended
abbrev pub invariant-loop-scalar : goal.invariant-loop-scalar
invariant-loop-scalar l = l.text.items ≡ l.fn.text.items ++ before_commas (take l.scalar-index l.types)
