use Rattle.std.proofs.Common.{sym, ◌∙◌}
use Rattle.gossa_core.specs.tables.RunLengths.{run_length}
use Rattle.gossa_core.proofs.ShownRunLemmas.{run_stops}
use Rattle.gossa_core.proofs.shown.run_length.Goals as goal

pub returns-then-not-follows : goal.returns-then-not-follows
returns-then-not-follows c =
    let n = run_length c.args.changes.now in
    let other = sym c.follows.ensures ∙ c.if-not-follows.true in
    run_stops c.loop-place.place n c.loop-place.last c.in-Some.others.now c.loop-place-test.true other
    c.loop-place.invariant
