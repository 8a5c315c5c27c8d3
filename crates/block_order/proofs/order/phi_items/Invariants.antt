use Rattle.std.proofs.Common.{◌≡◌, ◌++◌, drop, filter}
use Rattle.std.specs.List.{All}
use Rattle.ssa_ir.specs.OpKinds.{is_phi}
use Rattle.block_order.specs.Items.{IsItem}
use Rattle.block_order.specs.tables.Placing.{values_of_items}
use Rattle.block_order.proofs.order.phi_items.Given as goal

-- the phis so far, and those that are left
abbrev pub invariant-loop-index : goal.invariant-loop-index
invariant-loop-index l =
    All (IsItem l.values) l.items.items
    × (values_of_items l.values l.items.items ++ filter (λ v. is_phi v.op) (drop l.index l.values)
    ≡ filter (λ v. is_phi v.op) l.values)
