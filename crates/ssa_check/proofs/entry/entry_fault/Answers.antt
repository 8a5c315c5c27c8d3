use Rattle.std.proofs.Common.{List, slice_get, ap, ◌∙◌}
use Rattle.ssa_ir.specs.declared.func.Block.{Block}
use Rattle.ssa_check.proofs.EntryLemmas.{free_entry}
use Rattle.ssa_check.proofs.entry.entry_fault.Goals as goal

pub returns-then-is_empty : goal.returns-then-is_empty
returns-then-is_empty c = λ u.
    let is_first = c.in-Some.ensures.value ∙ ap (λ (items : List Block). slice_get items 0) c.as_slice.ensures in
    free_entry u c.args.func.now c.in-Some.entry.now c.requires is_first (cc)
