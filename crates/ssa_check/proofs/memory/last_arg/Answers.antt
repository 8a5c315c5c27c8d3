use Rattle.std.proofs.Common.{◌-◌, List, length, slice_get, ap, ◌∙◌}
use Rattle.gossa_base.specs.declared.ids.ValueId.{ValueId}
use Rattle.gossa_base.proofs.ListPlaces.{last_is}
use Rattle.ssa_check.proofs.memory.last_arg.Goals as goal

pub returns : goal.returns
returns c =
    c.copied.ensures ∙ c.last.ensures.value
    ∙ ap (λ (xs : List ValueId). slice_get xs (length xs - 1)) c.as_slice.ensures
    ∙ last_is c.args.value.now.args
