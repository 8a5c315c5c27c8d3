use Rattle.std.proofs.Common.{◌≡◌, ◌++◌, take}
use Rattle.case_text.specs.CaseText.{words_text}
use Rattle.case_text.proofs.print.print_words.Given as goal

-- the keyword and the words so far are appended
abbrev pub invariant-loop-word : goal.invariant-loop-word
invariant-loop-word l = l.text.items ≡ l.fn.text.items ++ (l.keyword ++ words_text (take l.word-index l.words))
