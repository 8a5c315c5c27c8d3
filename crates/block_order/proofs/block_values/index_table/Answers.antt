use Rattle.std.proofs.Common.{◌≡◌, ℕ, nat_eq, List, get_or, None, Some, sym, ap, ◌∙◌}
use Rattle.ssa_ir.specs.declared.func.Value.{Value}
use Rattle.indexmap.specs.IndexMap.{get}
use Rattle.block_order.proofs.DependencyLemmas.{new_index, old_index}
use Rattle.gossa_base.proofs.ListPlaces.{none_copied, some_copied}
use Rattle.block_order.proofs.block_values.index_table.Goals as goal
use Rattle.block_order.proofs.block_values.index_table.Goals.{then-is_none+in_ok-insert, else-is_none}

pub loop-index-preserved : goal.loop-index-preserved
loop-index-preserved c =
    let values : List Value = c.args.values.now in
    let i : ℕ = c.loop-index.index in
    let v : Value = c.index-values-index.result in
    let same : v.id ≡ (get_or values i v).id = ap (λ (x : Value). x.id) c.index-values-index.is in
    elim c.if-is_none.branch [
      | then-is_none+in_ok-insert w ↦
          let none : get nat_eq c.loop-index.table v.id.0 ≡ None =
          sym c.get.ensures.value ∙ none_copied c.get.result w.if-is_none.ensures in
          λ m. ap (λ table. get nat_eq table m.0) w.table-is ∙ w.in_ok-insert.ensures.updates.0 m.0
          ∙ new_index values i v v.id m (get nat_eq c.loop-index.table m.0) c.loop-index-test.true same
          (sym (c.loop-index.invariant v.id) ∙ none) (c.loop-index.invariant m)
      | else-is_none w ↦
          let some : (k : ℕ) × (get nat_eq c.loop-index.table v.id.0 ≡ Some k) =
          let found : (k : ℕ) × _ = some_copied c.get.result w.if-is_none.ensures in
          (found.0, sym c.get.ensures.value ∙ found.1) in
          λ m. ap (λ table. get nat_eq table m.0) w.table-is
          ∙ old_index values i v v.id m (get nat_eq c.loop-index.table m.0) some.0 c.loop-index-test.true same
          (sym (c.loop-index.invariant v.id) ∙ some.1) (c.loop-index.invariant m)
    ]
