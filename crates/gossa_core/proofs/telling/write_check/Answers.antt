use Rattle.std.proofs.Common.{codes, subst}
use Rattle.std.proofs.KnownBytes.{Appends-trans}
use Rattle.std.proofs.lemmas.Result.{on_ok_weaker, on_err_weaker}
use Rattle.std.specs.Io.KnownBytes.{Appends}
use Rattle.gossa_base.specs.Whole.{AppendsPrefix}
use Rattle.gossa_core.specs.CheckText.{check_text, place_text}
use Rattle.gossa_core.proofs.TellingLemmas.{in_front, behind, failed}
use Rattle.gossa_core.proofs.telling.write_check.Goals as goal

pub returns-in_err-write_all-clause-prefix : goal.returns-in_err-write_all-clause-prefix
returns-in_err-write_all-clause-prefix g c =
    failed c.from_residual.result _ (in_front _ _ (codes "gossa: ") _ c.in_err-write_all.ensures.prefix)

pub returns-in_err-write_all-2-clause-prefix : goal.returns-in_err-write_all-2-clause-prefix
returns-in_err-write_all-2-clause-prefix g c =
    let name = c.as_slice.ensures.value in
    failed c.from_residual-in_err-write_all-2.result _
    (behind _ _ _ (codes "gossa: ") _ c.in_ok-write_all.ensures.ok
    (in_front _ _ c.args.fault.now.func _ (subst (AppendsPrefix _ _) name c.in_err-write_all-2.ensures.prefix)))

pub returns-in_err-write_check_name-clause-prefix : goal.returns-in_err-write_check_name-clause-prefix
returns-in_err-write_check_name-clause-prefix g c =
    let name = c.as_slice.ensures.value in
    failed c.from_residual-in_err-write_check_name.result _
    (behind _ _ _ (codes "gossa: ") _ c.in_ok-write_all.ensures.ok
    (behind _ _ _ c.args.fault.now.func _ (subst (Appends _ _) name c.in_ok-write_all-2.ensures.ok)
    (in_front _ _ (check_text c.args.fault.now.check) _ c.in_err-write_check_name.ensures.prefix)))

pub returns-in_err-write_place-clause-prefix : goal.returns-in_err-write_place-clause-prefix
returns-in_err-write_place-clause-prefix g c =
    let name = c.as_slice.ensures.value in
    failed c.from_residual-in_err-write_place.result _
    (behind _ _ _ (codes "gossa: ") _ c.in_ok-write_all.ensures.ok
    (behind _ _ _ c.args.fault.now.func _ (subst (Appends _ _) name c.in_ok-write_all-2.ensures.ok)
    (behind _ _ _ (check_text c.args.fault.now.check) _ c.in_ok-write_check_name.ensures.ok
    (in_front _ _ (place_text c.args.fault.now.at) _ c.in_err-write_place.ensures.prefix))))

pub returns-clause-ok : goal.returns-clause-ok
returns-clause-ok g c =
    let name = c.as_slice.ensures.value in
    on_ok_weaker c.write_all-3.result
    (λ last.
    Appends-trans _ _ _ (codes "gossa: ") _ c.in_ok-write_all.ensures.ok
    (Appends-trans _ _ _ c.args.fault.now.func _ (subst (Appends _ _) name c.in_ok-write_all-2.ensures.ok)
    (Appends-trans _ _ _ (check_text c.args.fault.now.check) _ c.in_ok-write_check_name.ensures.ok
    (Appends-trans _ _ _ (place_text c.args.fault.now.at) _ c.in_ok-write_place.ensures.ok last))))
    c.write_all-3.ensures.ok

pub returns-clause-prefix : goal.returns-clause-prefix
returns-clause-prefix g c =
    let name = c.as_slice.ensures.value in
    on_err_weaker c.write_all-3.result
    (λ last.
    behind _ _ _ (codes "gossa: ") _ c.in_ok-write_all.ensures.ok
    (behind _ _ _ c.args.fault.now.func _ (subst (Appends _ _) name c.in_ok-write_all-2.ensures.ok)
    (behind _ _ _ (check_text c.args.fault.now.check) _ c.in_ok-write_check_name.ensures.ok
    (behind _ _ _ (place_text c.args.fault.now.at) _ c.in_ok-write_place.ensures.ok last))))
    c.write_all-3.ensures.prefix
