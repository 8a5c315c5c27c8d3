use Rattle.std.proofs.Common.{◌≡◌, ◌++◌, take}
use Rattle.case_text.proofs.partial.append.Given as goal

-- the words so far are appended
abbrev pub invariant-loop-word : goal.invariant-loop-word
invariant-loop-word l = l.words ≡ l.fn.words ++ take l.word-index l.more
