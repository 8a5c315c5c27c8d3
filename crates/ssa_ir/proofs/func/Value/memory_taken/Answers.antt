use Rattle.std.proofs.Common.{◌≡◌, ◌-◌, true, ◌||◌, if◌then◌else◌, List, length, slice_get, None, sym, ap, ◌∙◌}
use Rattle.std.specs.List.{last_or}
use Rattle.gossa_base.specs.declared.ids.ValueId.{ValueId}
use Rattle.ssa_ir.specs.OpKinds.{changes_memory, reads_memory}
use Rattle.gossa_base.proofs.ListPlaces.{last_is}
use Rattle.ssa_ir.proofs.func.Value.memory_taken.Goals as goal

pub returns-then-takes_memory : goal.returns-then-takes_memory
returns-then-takes_memory c =
    let takes : (reads_memory c.args.self.now.op || changes_memory c.args.self.now.op) ≡ true =
    sym c.takes_memory.ensures ∙ c.if-takes_memory.true in
    let last : c.copied.result ≡ last_or None c.args.self.now.args =
    c.copied.ensures ∙ c.last.ensures.value
    ∙ ap (λ (xs : List ValueId). slice_get xs (length xs - 1)) c.as_slice.ensures
    ∙ last_is c.args.self.now.args in
    last ∙ sym (ap (λ b. if b then last_or None c.args.self.now.args else None) takes)
