use Rattle.std.proofs.Common.{◌≡◌, length}
use Rattle.case_text.specs.CaseForms.{words_in}
use Rattle.case_text.proofs.FormWordsLemmas.{one_more, words_from}
use Rattle.case_text.proofs.read_forms.read_words.Given as goal

-- the words so far and those of the words left are those of all
abbrev pub invariant-loop-word : goal.invariant-loop-word
invariant-loop-word l = words_from one_more l.too_large l.list l.words ≡ words_in l.fn.words

abbrev pub decreases-loop-word : goal.decreases-loop-word
decreases-loop-word l = length l.words
