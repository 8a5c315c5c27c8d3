use Rattle.std.proofs.Common.{codes, decimal, subst, ◌∙◌}
use Rattle.std.proofs.KnownBytes.{Appends-trans}
use Rattle.std.proofs.lemmas.Result.{on_ok_weaker, on_err_weaker}
use Rattle.std.specs.Io.KnownBytes.{Appends}
use Rattle.gossa_base.specs.Whole.{AppendsPrefix}
use Rattle.gossa_core.proofs.TellingLemmas.{in_front, behind, failed}
use Rattle.gossa_core.proofs.telling.write_fault.Goals as goal

pub returns-in_err-write_all-clause-prefix : goal.returns-in_err-write_all-clause-prefix
returns-in_err-write_all-clause-prefix g c =
    failed c.from_residual.result _ (in_front _ _ (codes "gossa: line ") _ c.in_err-write_all.ensures.prefix)

pub returns-in_err-write_all-2-clause-prefix : goal.returns-in_err-write_all-2-clause-prefix
returns-in_err-write_all-2-clause-prefix g c =
    let number = c.as_bytes.ensures.value ∙ c.format.ensures.text in
    failed c.from_residual-in_err-write_all-2.result _
    (behind _ _ _ (codes "gossa: line ") _ c.in_ok-write_all.ensures.ok
    (in_front _ _ (decimal c.args.line) _
    (subst (AppendsPrefix _ _) number c.in_err-write_all-2.ensures.prefix)))

pub returns-in_err-write_all-3-clause-prefix : goal.returns-in_err-write_all-3-clause-prefix
returns-in_err-write_all-3-clause-prefix g c =
    let number = c.as_bytes.ensures.value ∙ c.format.ensures.text in
    failed c.from_residual-in_err-write_all-3.result _
    (behind _ _ _ (codes "gossa: line ") _ c.in_ok-write_all.ensures.ok
    (behind _ _ _ (decimal c.args.line) _ (subst (Appends _ _) number c.in_ok-write_all-2.ensures.ok)
    (in_front _ _ (codes ": ") _ c.in_err-write_all-3.ensures.prefix)))

pub returns-in_err-write_all-4-clause-prefix : goal.returns-in_err-write_all-4-clause-prefix
returns-in_err-write_all-4-clause-prefix g c =
    let number = c.as_bytes.ensures.value ∙ c.format.ensures.text in
    failed c.from_residual-in_err-write_all-4.result _
    (behind _ _ _ (codes "gossa: line ") _ c.in_ok-write_all.ensures.ok
    (behind _ _ _ (decimal c.args.line) _ (subst (Appends _ _) number c.in_ok-write_all-2.ensures.ok)
    (behind _ _ _ (codes ": ") _ c.in_ok-write_all-3.ensures.ok
    (in_front _ _ c.args.fault.now _ c.in_err-write_all-4.ensures.prefix))))

pub returns-clause-ok : goal.returns-clause-ok
returns-clause-ok g c =
    let number = c.as_bytes.ensures.value ∙ c.format.ensures.text in
    on_ok_weaker c.write_all-5.result
    (λ last.
    Appends-trans _ _ _ (codes "gossa: line ") _ c.in_ok-write_all.ensures.ok
    (Appends-trans _ _ _ (decimal c.args.line) _ (subst (Appends _ _) number c.in_ok-write_all-2.ensures.ok)
    (Appends-trans _ _ _ (codes ": ") _ c.in_ok-write_all-3.ensures.ok
    (Appends-trans _ _ _ c.args.fault.now _ c.in_ok-write_all-4.ensures.ok last))))
    c.write_all-5.ensures.ok

pub returns-clause-prefix : goal.returns-clause-prefix
returns-clause-prefix g c =
    let number = c.as_bytes.ensures.value ∙ c.format.ensures.text in
    on_err_weaker c.write_all-5.result
    (λ last.
    behind _ _ _ (codes "gossa: line ") _ c.in_ok-write_all.ensures.ok
    (behind _ _ _ (decimal c.args.line) _ (subst (Appends _ _) number c.in_ok-write_all-2.ensures.ok)
    (behind _ _ _ (codes ": ") _ c.in_ok-write_all-3.ensures.ok
    (behind _ _ _ c.args.fault.now _ c.in_ok-write_all-4.ensures.ok last))))
    c.write_all-5.ensures.prefix
