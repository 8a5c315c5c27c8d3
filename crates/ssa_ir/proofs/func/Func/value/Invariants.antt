use Rattle.std.proofs.Common.{◌≡◌, find, drop}
use Rattle.std.specs.List.{flat_map}
use Rattle.ssa_ir.specs.Lookups.{is_numbered}
use Rattle.ssa_ir.proofs.func.Func.value.Given as goal

-- no value so far has the number
abbrev pub invariant-loop-block : goal.invariant-loop-block
invariant-loop-block l = find (is_numbered l.id) (flat_map (λ b. b.values) l.self.blocks)
    ≡ find (is_numbered l.id) (flat_map (λ b. b.values) (drop l.block-index l.self.blocks))
