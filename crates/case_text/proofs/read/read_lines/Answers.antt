use Rattle.std.proofs.Common.{sym, subst}
use Rattle.std.proofs.lemmas.Result.{err_from_is_err_and}
use Rattle.ssa_lines.specs.Lines.{lines_of}
use Rattle.ssa_lines.specs.ReadsAs.{RefusesAs}
use Rattle.case_text.specs.CaseReading.{no_cases, read_from}
use Rattle.case_text.proofs.ReadLemmas.{begun, goes_on, refused_there}
use Rattle.case_text.proofs.read.read_lines.Goals as goal

pub loop-line-init : goal.loop-line-init
loop-line-init c =
    let a = c.args in
    begun a.names.now a.text.now a.first_line c.new-reader.result c.of-lines.result c.new-reader.ensures
    c.of-lines.ensures

pub loop-line-preserved : goal.loop-line-preserved
loop-line-preserved c =
    let a = c.args in
    let l = c.loop-line in
    goes_on a.names.now a.text.now a.first_line l.reader l.number l.lines c.next.new.self c.in-Some.line.now l.invariant
    c.in-Some.ensures c.in_ok-reader.reader c.in_ok-reader.ensures

pub returns-in_err-reader : goal.returns-in_err-reader
returns-in_err-reader c =
    let a = c.args in
    let l = c.loop-line in
    let p = err_from_is_err_and c.from_residual.result c.from_residual.ensures.1 in
    let refused = refused_there a.names.now a.text.now a.first_line l.reader l.number l.lines c.next.new.self
    c.in-Some.line.now l.invariant c.in-Some.ensures c.in_err-reader.field-0.0 c.in_err-reader.ensures in
    rw p.1 (subst (λ refusal. RefusesAs refusal (read_from a.names.now no_cases a.first_line (lines_of a.text.now)))
    (sym p.2) refused)
