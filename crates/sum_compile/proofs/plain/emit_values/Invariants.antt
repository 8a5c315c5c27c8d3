use Rattle.std.proofs.Common.{◌≡◌, ◌++◌, take}
use Rattle.std.specs.List.{flat_map}
use Rattle.sum_compile.specs.tables.Places.{place_in}
use Rattle.sum_compile.specs.Plain.{value_lines}
use Rattle.sum_compile.proofs.plain.emit_values.Given as goal

-- the lines of the values so far are emitted
abbrev pub invariant-loop-value : goal.invariant-loop-value
invariant-loop-value l =
    l.lines.items ≡ l.fn.lines.items ++ flat_map (value_lines (place_in l.places.places)) (take l.value-index l.values)
