use Rattle.std.proofs.Common.{◌++◌, ◌≤◌, sym, ap, ◌∙◌, subst}
use Rattle.std.proofs.lemmas.List.{append-nil}
use Rattle.gossa_core.proofs.ShownWordLemmas.{none_left}
use Rattle.gossa_core.proofs.shown.put_more_words.Goals as goal

pub returns : goal.returns
returns c =
    let i = c.loop-index.index in
    let out = c.loop-index.out.items in
    let ended = subst (λ n. n ≤ i) c.min-index-end.ensures c.loop-index-test.false in
    let none = none_left i c.args.types.now c.args.words.now ended in
    sym (append-nil out) ∙ ap (λ t. out ++ t) (sym none) ∙ c.loop-index.invariant
