use Rattle.std.proofs.Common.{◌≡◌, ◌∙◌, ◌&&◌, true, not, ap, subst, sym}
use Rattle.std.proofs.lemmas.Bool.{and_from}
use Rattle.ssa_ir.specs.FirstOrder.{has_value}
use Rattle.ssa_ir.specs.Lookups.{value_of}
use Rattle.ssa_ir.specs.WellFormed.{WellFormedFunc}
use Rattle.ssa_check.specs.BlockChecks.{has_results, is_used_elsewhere}
use Rattle.ssa_check.proofs.ControlLemmas.{used_elsewhere}
use Rattle.ssa_check.proofs.controls.ControlTest.may_return.Goals as goal
use Rattle.ssa_check.proofs.controls.ControlTest.may_return.Goals.{then-has_results, else-has_results}

pub returns-then-stands_in : goal.returns-then-stands_in
returns-then-stands_in c =
    let f = c.args.self.now.tables.now in
    let well : WellFormedFunc f =
    subst WellFormedFunc c.func-well_formed.ensures.func c.func-well_formed.ensures.well_formed in
    let b = c.args.block.now in
    let id = c.args.id in
    let used : c.is_used.result ≡ is_used_elsewhere f b id =
    c.is_used.ensures ∙ c.requires.of_uses.used id
    ∙ used_elsewhere f well b c.requires.of_block id c.requires.is_its in
    let both : (has_results f (value_of f id) && has_value b.values id) ≡ true =
    elim c.if-has_results.branch [
      | then-has_results w ↦ and_from (has_results f (value_of f id)) (has_value b.values id)
          (sym c.has_results.ensures ∙ w.if-has_results.true)
          (sym w.stands_in.ensures ∙ sym w.value-is ∙ c.if-stands_in.true)
      | else-has_results w ↦ cc (w.value-is, c.if-stands_in.true)
    ] in
    ap not used ∙ ap (λ t. t && not (is_used_elsewhere f b id)) (sym both)
