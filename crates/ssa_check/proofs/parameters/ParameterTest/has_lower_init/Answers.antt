use Rattle.std.proofs.Common.{ap, ◌∙◌}
use Rattle.ssa_ir.specs.Lookups.{values_of}
use Rattle.ssa_check.specs.tables.ParameterTables.{is_below, is_init_value}
use Rattle.ssa_check.proofs.ParameterLemmas.{below_lowest}
use Rattle.ssa_check.proofs.parameters.ParameterTest.has_lower_init.Goals as goal

pub returns : goal.returns
returns c =
    let number = c.args.value.now.id.0 in
    c.is_below.ensures ∙ ap (λ o. is_below o number) c.requires.init
    ∙ below_lowest is_init_value (values_of c.args.self.now.func.now) number
