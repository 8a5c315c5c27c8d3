use Rattle.std.proofs.Common.{sym, subst}
use Rattle.std.proofs.lemmas.Result.{err_from_is_err_and}
use Rattle.gossa_core.specs.Unmade.{Unmade}
use Rattle.gossa_core.proofs.top.read_checked.Goals as goal

pub returns-in_err-unit-clause-unmade : goal.returns-in_err-unit-clause-unmade
returns-in_err-unit-clause-unmade c = λ command.
    let p = err_from_is_err_and c.from_residual.result c.from_residual.ensures.1 in
    rw p.1 (subst (λ outcome. Unmade command c.args.text.now outcome) (sym p.2) (c.in_err-unit.ensures.unmade command))
