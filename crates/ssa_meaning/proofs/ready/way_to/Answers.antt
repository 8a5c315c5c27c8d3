use Rattle.std.proofs.Common.{◌∙◌, ap, slice_get, sym}
use Rattle.std.specs.Option.{option_copied}
use Rattle.ssa_ir.specs.Edges.{place_of_time, times_before}
use Rattle.ssa_meaning.proofs.ReadyLemmas.{arrives_at, goes_nowhere}
use Rattle.gossa_base.proofs.ListPlaces.{item_copied}
use Rattle.ssa_meaning.proofs.ready.way_to.Goals as goal

pub returns-in_default : goal.returns-in_default
returns-in_default c =
    goes_nowhere c.args.func.now c.args.source.now c.args.place c.args.id c.requires.stands c.args.table.now
    c.requires.table c.index-block.result c.index-block.ensures
    (ap option_copied (sym c.in_default.is)
    ∙ item_copied c.as_slice.result.now c.index-block.result c.get.result c.get.ensures.lookup
    ∙ ap (λ blocks. slice_get blocks c.index-block.result) c.as_slice.ensures)

pub returns : goal.returns
returns c =
    arrives_at c.args.func.now c.args.source.now c.args.place c.args.id c.requires.stands c.args.table.now
    c.requires.table c.index-block.result c.index-block.ensures c.in-Some.target.now
    (ap option_copied (sym c.in-Some.is)
    ∙ item_copied c.as_slice.result.now c.index-block.result c.get.result c.get.ensures.lookup
    ∙ ap (λ blocks. slice_get blocks c.index-block.result) c.as_slice.ensures)
    c.place_of_time-edge.result
    (c.place_of_time-edge.ensures
    ∙ ap (λ preds. place_of_time preds c.args.source.now.id c.times_before-times.result) c.as_slice-3.ensures
    ∙ ap (place_of_time c.in-Some.target.now.preds c.args.source.now.id) c.times_before-times.ensures
    ∙ ap (λ succs. place_of_time c.in-Some.target.now.preds c.args.source.now.id
    (times_before succs c.args.place c.in-Some.target.now.id))
    c.as_slice-2.ensures)
