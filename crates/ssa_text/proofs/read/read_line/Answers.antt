use Rattle.std.proofs.Common.{sym, subst}
use Rattle.std.proofs.lemmas.Result.{err_from_is_err_and}
use Rattle.ssa_text.specs.Reading.{read_line}
use Rattle.ssa_lines.specs.ReadsAs.{RefusesAs}
use Rattle.ssa_text.proofs.CheckedLemmas.{line_refused, form_in_place, form_once, form_taken}
use Rattle.ssa_text.proofs.read.read_line.Goals as goal

pub returns-in_err-form : goal.returns-in_err-form
returns-in_err-form c =
    let a = c.args in
    let p = err_from_is_err_and c.from_residual.result c.from_residual.ensures.1 in
    let refused = line_refused a.reader a.number a.last a.line.now c.in_err-form.field-0.0 c.in_err-form.ensures in
    rw p.1 (subst (λ refusal. RefusesAs refusal (read_line a.reader a.number a.last a.line.now)) (sym p.2) refused)

pub take-requires-clause-place : goal.take-requires-clause-place
take-requires-clause-place c =
    form_in_place c.args.reader c.args.number c.args.last c.args.line.now c.in_ok-form.form c.in_ok-form.ensures

pub take-requires-clause-once : goal.take-requires-clause-once
take-requires-clause-once c =
    form_once c.args.reader c.args.number c.args.last c.args.line.now c.in_ok-form.form c.in_ok-form.ensures

pub returns : goal.returns
returns c =
    form_taken c.args.reader c.args.number c.args.last c.args.line.now c.in_ok-form.form c.in_ok-form.ensures
    c.in_ok-take.field-0
    c.in_ok-take.ensures
