use Rattle.std.proofs.Common.{List, ◌++◌, take}
use Rattle.gossa_base.specs.declared.ids.ValueId.{ValueId}
use Rattle.ssa_ir.specs.declared.func.Value.{Value}
use Rattle.ssa_check.specs.tables.Selects.{picks_of, TellsOf}
use Rattle.ssa_check.proofs.callees.SelectTable.put_values.Given as goal

-- the selects so far are noted
abbrev pub invariant-loop-value : goal.invariant-loop-value
invariant-loop-value l =
    (picks : List (ValueId × Value)) → TellsOf picks l.fn.self
    → TellsOf (picks ++ picks_of (take l.value-index l.values)) l.self
