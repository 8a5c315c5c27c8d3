use Rattle.std.proofs.Common.{rules}
use Rattle.ssa_lines.specs.Types.{is_comma}
use Rattle.ssa_lines.proofs.TypeLemmas.{one_part, first_part}
use Rattle.ssa_lines.proofs.types.Parts.next.Goals as goal

pub returns-in_default : goal.returns-in_default
returns-in_default c =
    let parts = one_part is_comma c.in_ok-rest.rest.now c.in_default.ensures in
    search (rules, parts)

pub returns : goal.returns
returns c =
    let parts = first_part is_comma c.in_ok-rest.rest.now c.in-Some.ensures.0 in
    search (rules, parts)
