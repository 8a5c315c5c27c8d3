use Rattle.std.proofs.Common.{Ok, ap, sym, ◌∙◌}
use Rattle.std.proofs.lemmas.Iterator.{items_from_collect}
use Rattle.std.proofs.lemmas.Iterator.Adapters.{YieldsList-from_skip, YieldsList-from_vec}
use Rattle.std.specs.Vec.Iter.{into_iter_items, into_iter_len}
use Rattle.gossa_main.specs.Process.{words_given}
use Rattle.gossa_main.proofs.command_words.Goals as goal

pub returns-in_ok-collect-in-Ok : goal.returns-in_ok-collect-in-Ok
returns-in_ok-collect-in-Ok c =
    let all = c.in-Ok.words in
    let source = c.skip.ensures.source in
    items_from_collect {E = Unit {0}} (Ok c.in_ok-collect-in-Ok.field-0) c.in_ok-collect-in-Ok.ensures.ran
    (YieldsList-from_skip 1
    (YieldsList-from_vec (into_iter_items all) (ap into_iter_items source) (ap into_iter_len source ∙ all.rest.ok.0))
    c.skip.ensures.count)
    ∙ ap words_given (sym c.in-Ok.is)
