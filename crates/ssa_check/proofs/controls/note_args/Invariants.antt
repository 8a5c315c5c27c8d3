use Rattle.std.proofs.Common.{◌≡◌, ◌||◌, take}
use Rattle.std.specs.List.{list_any}
use Rattle.gossa_base.specs.declared.ids.ValueId.{ValueId}
use Rattle.ssa_ir.specs.FirstOrder.{same_value}
use Rattle.ssa_check.specs.tables.Uses.{is_noted}
use Rattle.ssa_check.proofs.controls.note_args.Given as goal

-- the arguments so far are noted
abbrev pub invariant-loop-arg : goal.invariant-loop-arg
invariant-loop-arg l =
    (id : ValueId)
    → is_noted id l.used.keys ≡ (is_noted id l.fn.used.keys || list_any (same_value id) (take l.arg-index l.args))
