use Rattle.std.proofs.Common.{refl, ap, ◌∙◌}
use Rattle.ssa_text.specs.Reading.{change, end_block}
use Rattle.ssa_text.proofs.TakeLemmas.{so_far, end_keeps_sig, names_kept, none_kept, blocks_stay_at_end}
use Rattle.ssa_text.proofs.TakeLemmas.{values_stay_at_end}
use Rattle.ssa_text.proofs.gathered.Gathered.take_control.Goals as goal

-- no table changes
pub returns : goal.returns
returns c =
    let before = c.args.self.now in
    let tables = c.requires.tables in
    let after = c.in_ok-self.field-0 in
    let by = end_block c.args.control in
    let changed = c.in_ok-self.ensures ∙ ap (change by) c.take.ensures.value in
    let read = so_far before.sigs refl changed c.in_ok-mention_end.ensures refl in (
      read,
      (
        names_kept before.sigs before.funcs before.func after by (end_keeps_sig c.args.control) changed before.names
            tables.0,
        none_kept before.sigs before.funcs before.func after by (end_keeps_sig c.args.control) changed tables.1,
        blocks_stay_at_end c.args.control before.func after changed before.blocks tables.2,
        values_stay_at_end c.args.control before.func after changed before.values tables.3,
      ),
    )
