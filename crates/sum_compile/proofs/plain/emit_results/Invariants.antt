use Rattle.std.proofs.Common.{◌≡◌, ◌++◌, drop}
use Rattle.sum_compile.specs.tables.Places.{place_in}
use Rattle.sum_compile.specs.Plain.{result_lines}
use Rattle.sum_compile.proofs.plain.emit_results.Given as goal

-- the lines so far, and those of the rest, are the lines of all
abbrev pub invariant-loop-register : goal.invariant-loop-register
invariant-loop-register l =
    l.lines.items ++ result_lines (place_in l.places.places) l.register (drop l.register l.ids) ≡ l.fn.lines.items
    ++ result_lines (place_in l.places.places) 0 l.ids
