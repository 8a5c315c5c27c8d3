use Rattle.std.proofs.Common.{◌≡◌, ◌++◌, take}
use Rattle.std.specs.List.{flat_map}
use Rattle.ssa_text.specs.Text.{value_line}
use Rattle.ssa_text.proofs.print.print_values.Given as goal

-- the values so far are appended
abbrev pub invariant-loop-value : goal.invariant-loop-value
invariant-loop-value l = l.text.items ≡ l.fn.text.items ++ flat_map value_line (take l.value-index l.values)
