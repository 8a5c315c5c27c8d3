use Rattle.std.proofs.Common.{◌≡◌, ◌||◌, take}
use Rattle.gossa_base.specs.declared.ids.ValueId.{ValueId}
use Rattle.ssa_check.specs.tables.Uses.{is_noted, is_taken}
use Rattle.ssa_check.proofs.controls.note_values.Given as goal

-- the arguments of the values so far are noted
abbrev pub invariant-loop-value : goal.invariant-loop-value
invariant-loop-value l =
    (id : ValueId) → is_noted id l.used.keys ≡ (is_noted id l.fn.used.keys || is_taken id (take l.value-index l.values))
