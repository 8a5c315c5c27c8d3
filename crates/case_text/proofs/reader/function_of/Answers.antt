use Rattle.std.proofs.Common.{sym, ◌∙◌}
use Rattle.ssa_lines.specs.Words.{is_same}
use Rattle.case_text.proofs.NameLemmas.{found_here, found_nowhere}
use Rattle.case_text.proofs.reader.function_of.Goals as goal

pub returns-then-eq : goal.returns-then-eq
returns-then-eq c =
    let l = c.loop-number in
    found_here (λ n. is_same n c.args.name.now) c.args.names.now l.number l.invariant c.index-names-number.result
    c.loop-number-test.true c.index-names-number.is (sym c.eq.ensures ∙ c.if-eq.true)

pub returns : goal.returns
returns c =
    let l = c.loop-number in
    found_nowhere (λ n. is_same n c.args.name.now) c.args.names.now l.number l.invariant c.loop-number-test.false
