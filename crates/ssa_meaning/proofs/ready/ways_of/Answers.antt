use Rattle.std.proofs.Common.{◌∙◌, ap, arith, length, slice_get, sym}
use Rattle.std.proofs.lemmas.Option.{slice_get-get_or}
use Rattle.ssa_meaning.specs.tables.Ready.{LeadsTo}
use Rattle.ssa_meaning.proofs.ReadyLemmas.{all_ways, made_further, made_none}
use Rattle.ssa_meaning.proofs.ready.ways_of.Goals as goal

pub loop-place-init : goal.loop-place-init
loop-place-init c =
    made_none (LeadsTo c.args.func.now c.args.source.now) c.new-ways.result.items c.new-ways.ensures.items

pub way_to-requires-clause-stands : goal.way_to-requires-clause-stands
way_to-requires-clause-stands c =
    ap (λ ids. slice_get ids c.loop-place.place) (sym c.as_slice-id-items.ensures)
    ∙ slice_get-get_or c.as_slice-id-items.result.now c.loop-place.place _ c.loop-place-test.true

pub loop-place-preserved : goal.loop-place-preserved
loop-place-preserved c =
    made_further (LeadsTo c.args.func.now c.args.source.now) c.loop-place.ways.items c.loop-place.place
    c.way_to.result c.loop-place.invariant c.way_to.ensures
    c.push.new.self.items c.in_ok-push.ensures.items

pub returns : goal.returns
returns c =
    all_ways c.args.func.now c.args.source.now c.loop-place.ways.items c.loop-place.place c.loop-place.invariant
    (omega (arith, c.loop-place-test.false, ap (λ l. length l) c.as_slice-id-items.ensures))
