use Rattle.std.proofs.Common.{◌≡◌, Ok, subst, sym}
use Rattle.std.proofs.lemmas.Result.{err_from_is_err_and}
use Rattle.std.specs.List.{All}
use Rattle.ssa_text.specs.UnitReading.{read_unit}
use Rattle.gossa_core.specs.declared.words.Command.TheVariants.{Compile}
use Rattle.sum_compile.specs.Narrow.{Narrow}
use Rattle.gossa_core.specs.Unmade.{Unmade}
use Rattle.gossa_core.proofs.CompileLemmas.{same_show}
use Rattle.gossa_core.proofs.top.compile_text.Goals as goal

pub returns-in-Ok-clause-made : goal.returns-in-Ok-clause-made
returns-in-Ok-clause-made c =
    let unit = c.into_unit-unit.result in
    let narrow : All Narrow unit.funcs =
    subst (All Narrow) c.as_slice.ensures (c.all_narrow.ensures.0 c.if-not-all_narrow.false) in
    record {
      unit = unit;
      read =
          subst (λ u. read_unit c.args.text.now ≡ Ok u) (sym c.into_unit-unit.ensures.unit)
          c.in_ok-checked.ensures.spelled;
      accepted = c.into_unit-unit.ensures.accepted;
      narrow = narrow;
      listed = c.in-Ok.ensures;
      shows = same_show unit c.args.regs narrow c.requires.many;
    }

pub returns-in_err-checked-clause-unmade : goal.returns-in_err-checked-clause-unmade
returns-in_err-checked-clause-unmade c =
    let p = err_from_is_err_and c.from_residual.result c.from_residual.ensures.1 in
    rw p.1 (subst (λ outcome. Unmade (Compile c.args.regs) c.args.text.now outcome) (sym p.2)
    (c.in_err-checked.ensures.unmade (Compile c.args.regs)))
