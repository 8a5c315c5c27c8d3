use Rattle.std.proofs.Common.{◌≡◌, drop}
use Rattle.std.specs.List.{list_all}
use Rattle.ssa_ir.specs.Classes.{same_class}
use Rattle.ssa_check.specs.OpTypes.{classes_of}
use Rattle.ssa_check.proofs.types.all_are.Given as goal

-- the values left are of the class exactly where all values are
abbrev pub invariant-loop-id : goal.invariant-loop-id
invariant-loop-id l =
    list_all (same_class l.class) (classes_of l.tables (drop l.id-index l.args))
    ≡ list_all (same_class l.class) (classes_of l.tables l.args)
