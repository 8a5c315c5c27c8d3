use Rattle.std.proofs.Common.{ℕ, eqb, List, length, ap, ◌∙◌}
use Rattle.ssa_lines.proofs.LineLemmas.{few_lines}
use Rattle.ssa_lines.proofs.lines.TextLines.is_empty.Goals as goal

pub returns : goal.returns
returns c =
    c.is_empty.ensures
    ∙ few_lines c.self.inside.rest.now
    ∙ ap (λ (lines : List (List ℕ)). eqb (length lines) 0) c.self.view_is
