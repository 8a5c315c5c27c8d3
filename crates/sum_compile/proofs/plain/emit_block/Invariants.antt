use Rattle.std.proofs.Common.{◌≡◌, ◌++◌, ◌∷◌, map, take}
use Rattle.listing.specs.declared.line.Line.TheVariants.{Label}
use Rattle.sum_compile.specs.tables.Places.{place_in}
use Rattle.sum_compile.specs.Plain.{spill_line}
use Rattle.sum_compile.proofs.plain.emit_block.Given as goal

-- the label and the spills so far are emitted
abbrev pub invariant-loop-register : goal.invariant-loop-register
invariant-loop-register l =
    l.lines.items ≡ l.fn.lines.items ++ Label l.block.id l.fn.held
    ∷ map (spill_line (place_in l.places.places)) (take l.register-index l.register-items)
