use Rattle.std.proofs.Common.{sym, subst}
use Rattle.std.proofs.lemmas.Result.{err_from_is_err_and}
use Rattle.ssa_lines.specs.Lines.{lines_of}
use Rattle.ssa_lines.specs.ReadsAs.{RefusesAs}
use Rattle.ssa_text.specs.CaseSplit.{through_case}
use Rattle.ssa_text.specs.Reading.{nothing, read_from}
use Rattle.ssa_text.proofs.ReadLemmas.{begun, goes_on, case_reached, refused_there, all_read, closed_there}
use Rattle.ssa_text.proofs.WellFormedUnit.{few_functions}
use Rattle.ssa_text.proofs.read.read_lines.Goals as goal

pub loop-line-init : goal.loop-line-init
loop-line-init c = begun c.args.text.now c.new-reader.result c.of-lines.result c.new-reader.ensures c.of-lines.ensures

pub loop-line-preserved : goal.loop-line-preserved
loop-line-preserved c =
    let l = c.loop-line in
    goes_on c.args.text.now l.reader l.number l.lines c.next.new.self c.in-Some.line.now c.is_last-last.result
    c.is_case_line-in_cases.result l.invariant c.in-Some.ensures c.is_case_line-in_cases.ensures c.is_last-last.ensures
    c.in_ok-reader.reader c.in_ok-reader.ensures c.if-in_cases.false

pub returns-then-in_cases-clause-exact : goal.returns-then-in_cases-clause-exact
returns-then-in_cases-clause-exact c =
    let l = c.loop-line in
    case_reached c.args.text.now l.reader l.number l.lines c.next.new.self c.in-Some.line.now c.is_last-last.result
    c.is_case_line-in_cases.result l.invariant c.in-Some.ensures c.is_case_line-in_cases.ensures c.is_last-last.ensures
    c.in_ok-reader.reader c.in_ok-reader.ensures c.if-in_cases.true

pub returns-then-in_cases-clause-whole : goal.returns-then-in_cases-clause-whole
returns-then-in_cases-clause-whole c =
    let l = c.loop-line in
    closed_there c.args.text.now c.in_ok-reader.reader
    (case_reached c.args.text.now l.reader l.number l.lines c.next.new.self c.in-Some.line.now c.is_last-last.result
    c.is_case_line-in_cases.result l.invariant c.in-Some.ensures c.is_case_line-in_cases.ensures c.is_last-last.ensures
    c.in_ok-reader.reader c.in_ok-reader.ensures c.if-in_cases.true)

pub returns-in_err-reader-clause-exact : goal.returns-in_err-reader-clause-exact
returns-in_err-reader-clause-exact c =
    let l = c.loop-line in
    let p = err_from_is_err_and c.from_residual.result c.from_residual.ensures.1 in
    let refused =
    refused_there c.args.text.now l.reader l.number l.lines c.next.new.self c.in-Some.line.now c.is_last-last.result
    c.is_case_line-in_cases.result l.invariant c.in-Some.ensures c.is_case_line-in_cases.ensures c.is_last-last.ensures
    c.in_err-reader.field-0.0 c.in_err-reader.ensures in
    rw p.1 (subst (λ refusal. RefusesAs refusal (read_from nothing 1 (through_case (lines_of c.args.text.now))))
    (sym p.2) refused)

pub returns-clause-whole : goal.returns-clause-whole
returns-clause-whole c =
    let l = c.loop-line in
    closed_there c.args.text.now l.reader
    (all_read c.args.text.now l.reader l.number l.lines l.invariant c.in_default.ensures.0)

pub returns-then-in_cases-clause-few_names : goal.returns-then-in_cases-clause-few_names
returns-then-in_cases-clause-few_names c =
    let l = c.loop-line in
    few_functions c.args.text.now c.in_ok-reader.reader
    (case_reached c.args.text.now l.reader l.number l.lines c.next.new.self c.in-Some.line.now c.is_last-last.result
    c.is_case_line-in_cases.result l.invariant c.in-Some.ensures c.is_case_line-in_cases.ensures c.is_last-last.ensures
    c.in_ok-reader.reader c.in_ok-reader.ensures c.if-in_cases.true)

pub returns-clause-few_names : goal.returns-clause-few_names
returns-clause-few_names c =
    let l = c.loop-line in
    few_functions c.args.text.now l.reader
    (all_read c.args.text.now l.reader l.number l.lines l.invariant c.in_default.ensures.0)
