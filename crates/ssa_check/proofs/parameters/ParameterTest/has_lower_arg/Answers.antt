use Rattle.std.proofs.Common.{ap, ◌∙◌}
use Rattle.ssa_ir.specs.Lookups.{values_of}
use Rattle.ssa_check.specs.tables.ParameterTables.{is_below, is_arg_of}
use Rattle.ssa_check.proofs.ParameterLemmas.{below_lowest}
use Rattle.ssa_check.proofs.parameters.ParameterTest.has_lower_arg.Goals as goal

pub returns : goal.returns
returns c =
    let number = c.args.value.now.id.0 in
    let aux = c.args.value.now.aux in
    c.is_below.ensures
    ∙ ap (λ o. is_below o number) (c.copied.ensures ∙ c.get.ensures.value ∙ c.requires.args aux)
    ∙ below_lowest (is_arg_of aux) (values_of c.args.self.now.func.now) number
