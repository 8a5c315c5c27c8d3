use Rattle.std.proofs.Common.{◌≡◌, length}
use Rattle.case_text.specs.CaseForms.{first_words_in}
use Rattle.case_text.proofs.FormWordsLemmas.{one_more_kept, words_from}
use Rattle.case_text.proofs.read_forms.read_first_words.Given as goal

-- what is kept so far and of the words left is what is kept of all
abbrev pub invariant-loop-word : goal.invariant-loop-word
invariant-loop-word l = words_from one_more_kept l.too_large l.list l.words ≡ first_words_in l.fn.words

abbrev pub decreases-loop-word : goal.decreases-loop-word
decreases-loop-word l = length l.words
