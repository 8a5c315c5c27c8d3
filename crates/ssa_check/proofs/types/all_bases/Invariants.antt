use Rattle.std.proofs.Common.{◌≡◌, drop}
use Rattle.std.specs.List.{list_all}
use Rattle.ssa_ir.specs.Lookups.{value_of}
use Rattle.ssa_check.specs.OpTypes.{is_base}
use Rattle.ssa_check.proofs.types.all_bases.Given as goal

-- the values left are the base of symbols exactly where all values are
abbrev pub invariant-loop-id : goal.invariant-loop-id
invariant-loop-id l =
    list_all (λ id. is_base (value_of l.tables id)) (drop l.id-index l.args)
    ≡ list_all (λ id. is_base (value_of l.tables id)) l.args
