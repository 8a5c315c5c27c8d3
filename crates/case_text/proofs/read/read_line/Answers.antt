use Rattle.std.proofs.Common.{sym, subst}
use Rattle.std.proofs.lemmas.Result.{err_from_is_err_and}
use Rattle.ssa_lines.specs.ReadsAs.{RefusesAs}
use Rattle.case_text.specs.CaseReading.{read_line}
use Rattle.case_text.proofs.CheckedLemmas.{line_refused, form_in_place, form_once, form_within, form_taken}
use Rattle.case_text.proofs.read.read_line.Goals as goal

pub returns-in_err-form : goal.returns-in_err-form
returns-in_err-form c =
    let a = c.args in
    let p = err_from_is_err_and c.from_residual.result c.from_residual.ensures.1 in
    let refused = line_refused a.names.now a.reader a.number a.line.now c.in_err-form.field-0.0 c.in_err-form.ensures in
    rw p.1 (subst (λ refusal. RefusesAs refusal (read_line a.names.now a.reader a.number a.line.now)) (sym p.2) refused)

pub take-requires-clause-place : goal.take-requires-clause-place
take-requires-clause-place c =
    let a = c.args in
    form_in_place a.names.now a.reader a.number a.line.now c.in_ok-form.form c.in_ok-form.ensures

pub take-requires-clause-once : goal.take-requires-clause-once
take-requires-clause-once c =
    let a = c.args in
    form_once a.names.now a.reader a.number a.line.now c.in_ok-form.form c.in_ok-form.ensures

pub take-requires-clause-within : goal.take-requires-clause-within
take-requires-clause-within c =
    let a = c.args in
    form_within a.names.now a.reader a.number a.line.now c.in_ok-form.form c.in_ok-form.ensures

pub returns : goal.returns
returns c =
    let a = c.args in
    form_taken a.names.now a.reader a.number a.line.now c.in_ok-form.form c.in_ok-form.ensures c.in_ok-take.field-0
    c.in_ok-take.ensures
