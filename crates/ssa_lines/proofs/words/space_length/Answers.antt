use Rattle.std.proofs.Common.{◌≡◌, position, ◌∙◌, rules, tests}
use Rattle.std.proofs.lemmas.Iterator.{YieldsList-from_slice}
use Rattle.std.proofs.lemmas.Iterator.Search.{position_from_yields_List}
use Rattle.ssa_lines.specs.Words.{is_word_byte}
use Rattle.ssa_lines.proofs.WordLemmas.{place_or_all, spaces_to_word}
use Rattle.ssa_lines.proofs.words.space_length.Goals as goal

pub returns-clause-exact : goal.returns-clause-exact
returns-clause-exact c =
    let bytes = c.args.bytes.now in
    let found : c.position.result ≡ position is_word_byte bytes =
    position_from_yields_List is_word_byte _ _ c.position.result c.position.ensures.ran
    (YieldsList-from_slice _ c.iter.ensures.rest) (λ x b q k. search (rules, tests))
    in
    c.unwrap_or.ensures ∙ place_or_all is_word_byte bytes c.position.result found ∙ spaces_to_word bytes
