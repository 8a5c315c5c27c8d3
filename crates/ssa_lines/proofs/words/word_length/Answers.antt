use Rattle.std.proofs.Common.{◌≡◌, position, ◌∙◌, rules, tests}
use Rattle.std.proofs.lemmas.Iterator.{YieldsList-from_slice}
use Rattle.std.proofs.lemmas.Iterator.Search.{position_from_yields_List}
use Rattle.ssa_lines.specs.Lines.{is_space}
use Rattle.ssa_lines.proofs.WordLemmas.{place_or_all}
use Rattle.ssa_lines.proofs.words.word_length.Goals as goal

pub returns-clause-exact : goal.returns-clause-exact
returns-clause-exact c =
    let bytes = c.args.bytes.now in
    let found : c.position.result ≡ position is_space bytes =
    position_from_yields_List is_space _ _ c.position.result c.position.ensures.ran
    (YieldsList-from_slice _ c.iter.ensures.rest) (λ x b q k. search (rules, tests))
    in
    c.unwrap_or.ensures ∙ place_or_all is_space bytes c.position.result found
