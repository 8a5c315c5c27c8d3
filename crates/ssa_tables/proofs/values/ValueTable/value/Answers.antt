use Rattle.std.proofs.Common.{slice_get, sym, ap, ◌∙◌}
use Rattle.std.specs.Option.{option_copied}
use Rattle.ssa_tables.proofs.ValueTableLemmas.{without_place, without_block, value_there}
use Rattle.gossa_base.proofs.ListPlaces.{item_copied}
use Rattle.ssa_tables.proofs.values.ValueTable.value.Goals as goal

pub returns-in_default : goal.returns-in_default
returns-in_default c =
    without_place c.args.func.now c.args.id c.args.self.now c.requires.of_func (sym c.place.ensures ∙ c.in_default.is)

pub returns-in_default-get : goal.returns-in_default-get
returns-in_default-get c =
    without_block c.args.func.now c.args.id c.args.self.now c.requires.of_func c.in-Some.place
    (sym c.place.ensures ∙ c.in-Some.is)
    (ap (λ l. slice_get l c.in-Some.place.block) (sym c.as_slice.ensures)
    ∙ sym (item_copied c.as_slice.result.now c.in-Some.place.block c.get.result c.get.ensures.lookup)
    ∙ ap option_copied c.in_default-get.is)

pub returns : goal.returns
returns c =
    item_copied c.as_slice-2.result.now c.in-Some.place.index c.get-2.result c.get-2.ensures.lookup
    ∙ ap (λ l. slice_get l c.in-Some.place.index) c.as_slice-2.ensures
    ∙ value_there c.args.func.now c.args.id c.args.self.now c.requires.of_func c.in-Some.place c.in-Some-get.block.now
    (sym c.place.ensures ∙ c.in-Some.is)
    (ap (λ l. slice_get l c.in-Some.place.block) (sym c.as_slice.ensures)
    ∙ sym (item_copied c.as_slice.result.now c.in-Some.place.block c.get.result c.get.ensures.lookup)
    ∙ ap option_copied c.in-Some-get.is)
