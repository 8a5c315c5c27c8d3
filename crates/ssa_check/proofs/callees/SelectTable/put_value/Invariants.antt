use Rattle.std.proofs.Common.{List, ◌++◌, map, take}
use Rattle.gossa_base.specs.declared.ids.ValueId.{ValueId}
use Rattle.ssa_ir.specs.declared.func.Value.{Value}
use Rattle.ssa_check.specs.tables.Selects.{TellsOf}
use Rattle.ssa_check.proofs.callees.SelectTable.put_value.Given as goal

-- the arguments so far are noted
abbrev pub invariant-loop-id : goal.invariant-loop-id
invariant-loop-id l =
    (picks : List (ValueId × Value)) → TellsOf picks l.fn.self
    → TellsOf (picks ++ map (λ id. (id, l.value)) (take l.id-index l.value.args)) l.self
