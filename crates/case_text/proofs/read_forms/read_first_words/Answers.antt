use Rattle.std.proofs.Common.{false, ap, ◌∙◌}
use Rattle.case_text.proofs.FormWordsLemmas.{one_more_kept, words_from, kept_from_first}
use Rattle.case_text.proofs.read_forms.read_first_words.Goals as goal

pub loop-word-init : goal.loop-word-init
loop-word-init c =
    ap (λ list. words_from one_more_kept false list c.args.words.now) c.new-list.ensures
    ∙ kept_from_first c.args.words.now
