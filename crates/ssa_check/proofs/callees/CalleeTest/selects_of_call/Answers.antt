use Rattle.std.proofs.Common.{◌≡◌, ◌∙◌, true, not, ◌&&◌, sym, ap, rules, SFits, to_z-of_z, w64}
use Rattle.ssa_ir.specs.FirstOrder.{has_value}
use Rattle.ssa_ir.specs.OpKinds.{is_call}
use Rattle.ssa_ir.specs.Limits.{tuple_words}
use Rattle.ssa_check.specs.CalleeCheck.{has_lower_twin, is_class, result_class}
use Rattle.ssa_check.proofs.CalleeSelectLemmas.{lower_twin}
use Rattle.ssa_check.proofs.callees.CalleeTest.selects_of_call.Goals as goal

pub returns-then-is_class : goal.returns-then-is_class
returns-then-is_class c =
    let f = c.args.self.now.tables.now in
    let b = c.args.block.now in
    let v = c.args.select.now in
    let call = c.args.call.now in
    let twin : c.has_lower_twin.result ≡ has_lower_twin f call.id v
    = c.has_lower_twin.ensures ∙ lower_twin f call.id v c.args.self.now.selects.now c.requires.of_selects in
    let calls : true ≡ is_call call.op = sym c.if-not-is_call.false ∙ c.is_call.ensures in
    let stands : true ≡ has_value b.values call.id = sym c.if-not-stands_in.false ∙ c.stands_in.ensures in
    let bits : SFits w64 v.aux = search rules in
    let index = to_z-of_z bits in
    let words = c.tuple_words.ensures in
    let asked = c.result_class-asked.ensures ∙ (λ i. result_class (words i) (index i)) in
    let has : true ≡ is_class v (result_class (tuple_words call.ty) v.aux)
    = sym c.if-is_class.true ∙ c.is_class.ensures ∙ ap (is_class v) asked in
    ap not twin ∙ (λ i. calls i && stands i && has i && not (has_lower_twin f call.id v))
