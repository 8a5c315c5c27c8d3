use Rattle.std.proofs.Common.{sym, subst}
use Rattle.std.proofs.lemmas.Result.{err_from_is_err_and}
use Rattle.gossa_core.specs.declared.words.Command.TheVariants.{Run}
use Rattle.gossa_core.specs.Unmade.{Unmade}
use Rattle.gossa_core.proofs.top.run_text.Goals as goal

pub returns-in_err-accepted-clause-unmade : goal.returns-in_err-accepted-clause-unmade
returns-in_err-accepted-clause-unmade c =
    let p = err_from_is_err_and c.from_residual.result c.from_residual.ensures.1 in
    rw p.1 (subst (λ outcome. Unmade Run c.args.text.now outcome) (sym p.2) (c.in_err-accepted.ensures.unmade Run))
