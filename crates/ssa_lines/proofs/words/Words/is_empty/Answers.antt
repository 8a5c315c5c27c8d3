use Rattle.std.proofs.Common.{ℕ, eqb, List, length, ap, ◌∙◌}
use Rattle.ssa_lines.proofs.WordLemmas.{spaces_alone}
use Rattle.ssa_lines.proofs.words.Words.is_empty.Goals as goal

pub returns : goal.returns
returns c =
    let line = c.self.inside.rest.now in
    ap (λ n. eqb n (length line)) c.space_length.ensures.exact
    ∙ spaces_alone line
    ∙ ap (λ (words : List (List ℕ)). eqb (length words) 0) c.self.view_is
