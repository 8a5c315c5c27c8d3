use Rattle.std.proofs.Common.{◌≡◌, ◌∙◌, ◌<◌, List, length, get_or, ap, arith}
use Rattle.std.proofs.lemmas.List.{get_or_default}
use Rattle.gossa_base.specs.declared.ids.ValueId.{ValueId}
use Rattle.ssa_check.proofs.CalleeSelectLemmas.{picks_more}
use Rattle.ssa_check.proofs.callees.SelectTable.put_value.Goals as goal

pub loop-id-preserved : goal.loop-id-preserved
loop-id-preserved c =
    let s = c.args.value.now in
    let i = c.loop-id.id-index in
    let items = c.as_slice-id-items.ensures in
    let none : ValueId = record { 0 = 0 } in
    let id = get_or c.as_slice-id-items.result.now i none in
    let lt : i < length s.args = omega (arith, c.loop-id-test.true, ap length items) in
    let is : id ≡ get_or s.args i id = ap (λ (l : List ValueId). get_or l i none) items
    ∙ get_or_default s.args i none id lt in
    picks_more s s.args i id c.args.self.now c.loop-id.self c.put.new.self lt is c.loop-id.invariant c.in_ok-put.ensures
