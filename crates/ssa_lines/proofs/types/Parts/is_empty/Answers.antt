use Rattle.std.proofs.Common.{◌==◌, length, ap, ◌∙◌}
use Rattle.ssa_lines.specs.Types.{is_comma}
use Rattle.ssa_lines.proofs.TypeLemmas.{none_left}
use Rattle.ssa_lines.proofs.types.Parts.is_empty.Goals as goal

pub returns : goal.returns
returns c =
    none_left is_comma c.self.inside.rest c.is_none.result c.is_none.ensures
    ∙ ap (λ parts. length parts == 0) c.self.view_is
