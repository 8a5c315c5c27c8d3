use Rattle.std.proofs.Common.{arith, ◌∙◌}
use Rattle.std.proofs.lemmas.Result.{err_from_is_err_and}
use Rattle.gossa_base.proofs.WholeLemmas.{appended_more, prefix_kept}
use Rattle.gossa_base.proofs.whole.write_all.Goals as goal

pub pieces-preserved : goal.pieces-preserved
pieces-preserved g c = record {
  within = omega (arith, c.in_ok-written.ensures.bound);
  appended = appended_more _ _ _ _ _ _ c.pieces.invariant.appended c.in_ok-written.ensures.bytes;
  calm = c.in_ok-written.ensures.calm ∙ c.pieces.invariant.calm;
}

pub returns-in_err-written-clause-prefix : goal.returns-in_err-written-clause-prefix
returns-in_err-written-clause-prefix g c =
    let p = err_from_is_err_and c.from_residual.result c.from_residual.ensures.1 in
    rw p.1 (prefix_kept _ _ _ _ _ c.pieces.invariant.appended c.in_err-written.ensures.bytes)
