use Rattle.std.proofs.Common.{◌≡◌, map, take}
use Rattle.ssa_ir.specs.OpKinds.{is_phi}
use Rattle.block_order.proofs.order.phi_flags.Given as goal

-- the flags of the values so far
abbrev pub invariant-loop-value : goal.invariant-loop-value
invariant-loop-value l = l.flags.items ≡ map (λ v. is_phi v.op) (take l.value-index l.values)
