use Rattle.std.proofs.Common.{◌∙◌}
use Rattle.std.proofs.lemmas.List.{take_rest}
use Rattle.ssa_text.proofs.UnitReadLemmas.{cases_there}
use Rattle.ssa_text.specs.UnitReading.{function_names}
use Rattle.ssa_text.proofs.read.read_cases_behind.Goals as goal

pub returns : goal.returns
returns c =
    let at = c.split_cases-offset in
    cases_there c.args.text.now _ (function_names c.args.reader.now) c.as_slice.result.now at.result.0 at.result.1
    c.read_case_part.result at.ensures.offset at.ensures.line (take_rest c.args.text.now at.result.0)
    (c.as_slice.ensures ∙ c.in_ok-names.ensures) c.read_case_part.ensures.exact
