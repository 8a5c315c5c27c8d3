use Rattle.std.proofs.Common.{◌≡◌, ◌∙◌, true, ◌&&◌, sym, ap}
use Rattle.ssa_check.specs.CalleeCheck.{callee, has_memory_select, matches}
use Rattle.ssa_check.proofs.CalleeSelectLemmas.{memory_select}
use Rattle.ssa_check.proofs.callees.CalleeTest.call_holds.Goals as goal

pub returns-then-has_callee : goal.returns-then-has_callee
returns-then-has_callee c =
    let t = c.args.self.now in
    let call = c.args.call.now in
    let has : true ≡ matches t.tables.now call (callee t.unit.now call.sym) = sym c.if-has_callee.true
    ∙ c.has_callee.ensures in
    c.has_memory_of.ensures
    ∙ memory_select t.tables.now call t.selects.now c.requires.of_selects
    ∙ ap (λ b. b && has_memory_select t.tables.now call) has
