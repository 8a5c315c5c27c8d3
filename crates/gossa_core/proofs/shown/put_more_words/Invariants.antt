use Rattle.std.proofs.Common.{◌≡◌, ◌++◌, drop}
use Rattle.gossa_core.specs.ShownText.{more_words}
use Rattle.gossa_core.proofs.shown.put_more_words.Given as goal

-- the words so far are appended, and those that are left are still to come
abbrev pub invariant-loop-index : goal.invariant-loop-index
invariant-loop-index l =
    l.out.items ++ more_words (drop l.index l.types) (drop l.index l.words)
    ≡ l.fn.out.items ++ more_words l.types l.words
