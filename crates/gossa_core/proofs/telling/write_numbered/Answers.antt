use Rattle.std.proofs.Common.{subst, ◌∙◌}
use Rattle.std.proofs.KnownBytes.{Appends-trans}
use Rattle.std.proofs.lemmas.Result.{on_ok_weaker, on_err_weaker}
use Rattle.std.specs.Io.KnownBytes.{Appends}
use Rattle.gossa_base.specs.Whole.{AppendsPrefix}
use Rattle.gossa_core.proofs.TellingLemmas.{in_front, behind, failed}
use Rattle.gossa_core.proofs.telling.write_numbered.Goals as goal

pub returns-in_err-write_all-clause-prefix : goal.returns-in_err-write_all-clause-prefix
returns-in_err-write_all-clause-prefix g c =
    failed c.from_residual.result _ (in_front _ _ c.args.front.now _ c.in_err-write_all.ensures.prefix)

pub returns-clause-ok : goal.returns-clause-ok
returns-clause-ok g c =
    let number = c.as_bytes.ensures.value ∙ c.format.ensures.text in
    on_ok_weaker c.write_all-2.result
    (λ last. Appends-trans _ _ _ c.args.front.now _ c.in_ok-write_all.ensures.ok (subst (Appends _ _) number last))
    c.write_all-2.ensures.ok

pub returns-clause-prefix : goal.returns-clause-prefix
returns-clause-prefix g c =
    let number = c.as_bytes.ensures.value ∙ c.format.ensures.text in
    on_err_weaker c.write_all-2.result
    (λ last. behind _ _ _ c.args.front.now _ c.in_ok-write_all.ensures.ok (subst (AppendsPrefix _ _) number last))
    c.write_all-2.ensures.prefix
