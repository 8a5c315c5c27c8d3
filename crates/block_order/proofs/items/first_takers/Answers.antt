use Rattle.std.proofs.Common.{◌≡◌, ℕ, nat_eq, List, get_or, None, Some, sym, ap, ◌∙◌}
use Rattle.ssa_ir.specs.FirstOrder.{memory_taken}
use Rattle.ssa_ir.specs.declared.func.Value.{Value}
use Rattle.indexmap.specs.IndexMap.{get}
use Rattle.block_order.proofs.ItemSteps.{new_taker, no_taker, old_taker}
use Rattle.gossa_base.proofs.ListPlaces.{none_copied, some_copied}
use Rattle.block_order.proofs.items.first_takers.Goals as goal
use Rattle.block_order.proofs.items.first_takers.Goals.{in-Some+then-is_none+in_ok-insert, in-Some+else-is_none}
use Rattle.block_order.proofs.items.first_takers.Goals.{in_default}

pub loop-index-preserved : goal.loop-index-preserved
loop-index-preserved c =
    let values : List Value = c.args.values.now in
    let i : ℕ = c.loop-index.index in
    let v : Value = c.index-values-index.result in
    let same : memory_taken v.op v.args ≡ memory_taken (get_or values i v).op (get_or values i v).args =
    ap (λ (x : Value). memory_taken x.op x.args) c.index-values-index.is in
    elim c.match-memory_taken.branch [
      | in-Some+then-is_none+in_ok-insert w ↦
          let taken : Some w.in-Some.memory ≡ memory_taken v.op v.args = w.in-Some.ensures in
          let none : get nat_eq c.loop-index.firsts w.in-Some.memory.0 ≡ None =
          sym w.get.ensures.value ∙ none_copied w.get.result w.if-is_none.ensures in
          λ m. ap (λ firsts. get nat_eq firsts m.0) w.firsts-is ∙ w.in_ok-insert.ensures.updates.0 m.0
          ∙ new_taker values i v m w.in-Some.memory (get nat_eq c.loop-index.firsts m.0) c.loop-index-test.true
          (taken ∙ same)
          (sym (c.loop-index.invariant w.in-Some.memory) ∙ none) (c.loop-index.invariant m)
      | in-Some+else-is_none w ↦
          let taken : Some w.in-Some.memory ≡ memory_taken v.op v.args = w.in-Some.ensures in
          let some : (k : ℕ) × (get nat_eq c.loop-index.firsts w.in-Some.memory.0 ≡ Some k) =
          let found : (k : ℕ) × _ = some_copied w.get.result w.if-is_none.ensures in
          (found.0, sym w.get.ensures.value ∙ found.1) in
          λ m. ap (λ firsts. get nat_eq firsts m.0) w.firsts-is
          ∙ old_taker values i v m w.in-Some.memory (get nat_eq c.loop-index.firsts m.0) some.0 c.loop-index-test.true
          (taken ∙ same)
          (sym (c.loop-index.invariant w.in-Some.memory) ∙ some.1) (c.loop-index.invariant m)
      | in_default w ↦
          let taken : None ≡ memory_taken v.op v.args = w.in_default.ensures in
          λ m. ap (λ firsts. get nat_eq firsts m.0) w.firsts-is
          ∙ no_taker values i v m (get nat_eq c.loop-index.firsts m.0) c.loop-index-test.true (taken ∙ same)
          (c.loop-index.invariant m)
    ]
