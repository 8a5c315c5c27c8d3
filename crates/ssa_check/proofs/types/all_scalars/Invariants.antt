use Rattle.std.proofs.Common.{◌≡◌, drop}
use Rattle.std.specs.List.{list_all}
use Rattle.ssa_ir.specs.Classes.{is_scalar}
use Rattle.ssa_check.specs.OpTypes.{classes_of}
use Rattle.ssa_check.proofs.types.all_scalars.Given as goal

-- the values left are integers, bools and pointers exactly where all values are
abbrev pub invariant-loop-id : goal.invariant-loop-id
invariant-loop-id l =
    list_all is_scalar (classes_of l.tables (drop l.id-index l.args)) ≡ list_all is_scalar (classes_of l.tables l.args)
