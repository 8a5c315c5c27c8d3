use Rattle.std.proofs.Common.{sym, subst}
use Rattle.std.proofs.lemmas.Result.{err_from_is_err_and}
use Rattle.ssa_lines.specs.ReadsAs.{RefusesAs}
use Rattle.ssa_text.specs.UnitReading.{read_unit}
use Rattle.ssa_text.proofs.UnitReadLemmas.{unit_refused, cases_refused, unit_read}
use Rattle.ssa_text.proofs.WellFormedUnit.{read_is_well_formed}
use Rattle.ssa_text.proofs.read.read_unit.Goals as goal

pub returns-in_err-reader-clause-exact : goal.returns-in_err-reader-clause-exact
returns-in_err-reader-clause-exact c =
    let p = err_from_is_err_and c.from_residual.result c.from_residual.ensures.1 in
    let refused = unit_refused c.args.text.now c.in_err-reader.field-0.0 c.in_err-reader.ensures.exact in
    rw p.1 (subst (λ refusal. RefusesAs refusal (read_unit c.args.text.now)) (sym p.2) refused)

pub returns-in_err-cases-clause-exact : goal.returns-in_err-cases-clause-exact
returns-in_err-cases-clause-exact c =
    let p = err_from_is_err_and c.from_residual-in_err-cases.result c.from_residual-in_err-cases.ensures.1 in
    let refused =
    cases_refused c.args.text.now c.in_ok-reader.reader c.in_ok-reader.ensures.exact c.in_err-cases.field-0.0
    c.in_err-cases.ensures in
    rw p.1 (subst (λ refusal. RefusesAs refusal (read_unit c.args.text.now)) (sym p.2) refused)

pub returns-clause-exact : goal.returns-clause-exact
returns-clause-exact c =
    unit_read c.args.text.now c.in_ok-reader.reader c.in_ok-reader.ensures.exact c.in_ok-cases.cases c.finish.result
    c.in_ok-cases.ensures c.finish.ensures

pub returns-clause-well_formed : goal.returns-clause-well_formed
returns-clause-well_formed c =
    read_is_well_formed c.args.text.now c.finish.result
    (unit_read c.args.text.now c.in_ok-reader.reader c.in_ok-reader.ensures.exact c.in_ok-cases.cases c.finish.result
    c.in_ok-cases.ensures c.finish.ensures)
