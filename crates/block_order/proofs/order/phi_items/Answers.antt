use Rattle.std.proofs.Common.{◌≡◌, ℕ, ◌+◌, List, [], ◌∷◌, ◌++◌, refl, subst, sym, ap, ◌∙◌}
use Rattle.ssa_ir.specs.declared.func.Value.{Value}
use Rattle.block_order.specs.declared.order.Item.{Item}
use Rattle.block_order.proofs.PlacingLemmas.{PhisSoFar, no_phi_more, phi_more}
use Rattle.block_order.proofs.order.phi_items.Goals as goal
use Rattle.block_order.proofs.order.phi_items.Goals.{then-is_phi+in_ok-push, else-is_phi}

pub loop-index-preserved : goal.loop-index-preserved
loop-index-preserved c =
    let values : List Value = c.args.values.now in
    let i : ℕ = c.loop-index.index in
    let v : Value = c.index-values-index.result in
    let old : List Item = c.loop-index.items.items in
    elim c.if-is_phi.branch [
      | then-is_phi+in_ok-push w ↦
          let item : Item = record { value = i; selects = w.new.result } in
          let items : c.if-is_phi.items.items ≡ old ++ item ∷ [] =
          ap (λ xs. xs.items) w.items-is ∙ w.in_ok-push.ensures.items in
          subst (λ xs. PhisSoFar values xs (i + 1)) (sym items)
          (phi_more values old i v item c.loop-index-test.true c.index-values-index.is (sym w.if-is_phi.ensures) refl
          w.new.ensures.items
          c.loop-index.invariant)
      | else-is_phi w ↦
          subst (λ xs. PhisSoFar values xs (i + 1)) (sym (ap (λ xs. xs.items) w.items-is))
          (no_phi_more values old i v c.loop-index-test.true c.index-values-index.is (sym w.if-is_phi.ensures)
          c.loop-index.invariant)
    ]
