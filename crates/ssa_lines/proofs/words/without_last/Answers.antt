use Rattle.std.proofs.Common.{sym, ap, ◌∙◌}
use Rattle.std.proofs.lemmas.Bool.{cond-true, cond-false, eq-eqb, ne_eqb}
use Rattle.ssa_lines.specs.Words.{without_last}
use Rattle.ssa_lines.proofs.WordLemmas.{without_last_of}
use Rattle.ssa_lines.proofs.words.without_last.Goals as goal

pub returns-then-end-last : goal.returns-then-end-last
returns-then-end-last c =
    let last = c.args.last in
    let front = c.in_ok-end.front.now in
    sym (ap (without_last last) c.in_ok-end.ensures.cases.0
    ∙ without_last_of last c.in_ok-end.end.now front
    ∙ cond-true _ _ _ (eq-eqb _ _ c.if-end-last.true))

pub returns-else-end-last : goal.returns-else-end-last
returns-else-end-last c =
    let last = c.args.last in
    let front = c.in_ok-end.front.now in
    sym (ap (without_last last) c.in_ok-end.ensures.cases.0
    ∙ without_last_of last c.in_ok-end.end.now front
    ∙ cond-false _ _ _ (ne_eqb _ _ c.if-end-last.false))
