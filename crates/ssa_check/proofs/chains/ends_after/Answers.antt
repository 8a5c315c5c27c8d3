use Rattle.std.proofs.Common.{None, Some, sym, ◌∙◌}
use Rattle.ssa_check.proofs.ChainWalkLemmas.{no_step, none_is, one_step}
use Rattle.ssa_check.proofs.chains.ends_after.Goals as goal

pub loop-preserved : goal.loop-preserved
loop-preserved c =
    sym (one_step c.args.taken.now.entries c.args.steps c.loop.counter c.loop.id (Some c.in-Some.before)
    c.loop-test.true
    (sym c.in-Some.is ∙ c.link_before.ensures))
    ∙ c.loop.invariant

pub returns-in-None : goal.returns-in-None
returns-in-None c =
    sym (one_step c.args.taken.now.entries c.args.steps c.loop.counter c.loop.id None c.loop-test.true
    (sym c.in-None.is ∙ c.link_before.ensures))
    ∙ c.loop.invariant

pub returns : goal.returns
returns c =
    none_is c.link_before-2.result c.is_none.result c.is_none.ensures
    ∙ sym (no_step c.args.taken.now.entries c.args.steps c.loop.counter c.loop.id c.link_before-2.result
    c.loop-test.false
    c.link_before-2.ensures)
    ∙ c.loop.invariant
