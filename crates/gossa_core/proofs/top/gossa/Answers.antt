use Rattle.std.proofs.Common.{map}
use Rattle.std.specs.String.{string_bytes}
use Rattle.gossa_core.specs.Worlds.{World, world}
use Rattle.gossa_core.proofs.CompleteLemmas.{complete}
use Rattle.gossa_core.proofs.top.gossa.Goals as goal

pub returns-clause-complete : goal.returns-clause-complete
returns-clause-complete g c =
    let source = g.S.Source in
    let sink = g.K.Sink in
    let before : World =
    world (source.left c.args.source.now) (source.faults c.args.source.now) (sink.held c.args.sink.now)
    (sink.faults c.args.sink.now) in
    let after : World =
    world (source.left c.answer-outcome.new.source) (source.faults c.answer-outcome.new.source)
    (sink.held c.answer-outcome.new.sink) (sink.faults c.answer-outcome.new.sink) in
    complete (map string_bytes c.args.words.now) before after c.status.result c.answer-outcome.result c.status.ensures
    c.answer-outcome.ensures
