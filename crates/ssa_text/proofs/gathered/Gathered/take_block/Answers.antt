use Rattle.std.proofs.Common.{◌++◌, map, refl, ap, ◌∙◌}
use Rattle.ssa_text.specs.declared.partial.Named.TheVariants.{OfBlock}
use Rattle.ssa_text.specs.Reading.{begin_block, change, mention}
use Rattle.ssa_text.proofs.TakeLemmas.{so_far, names_kept, none_kept, block_taken, values_stay}
use Rattle.ssa_text.proofs.gathered.Gathered.take_block.Goals as goal

-- the table of blocks has the new number last
pub returns : goal.returns
returns c =
    let before = c.args.self.now in
    let tables = c.requires.tables in
    let after = c.with_block.result in
    let by = begin_block c.args.block in
    let changed = c.with_block.ensures ∙ ap (change by) c.take.ensures.value in
    let told = c.in_ok-mention_blocks.ensures
    ∙ ap (λ ids. before.mentions ++ map (mention c.args.line) (map OfBlock ids)) c.as_slice.ensures in
    let read = so_far before.sigs refl changed told refl in (
      read,
      (
        names_kept before.sigs before.funcs before.func after by (λ f. refl) changed before.names tables.0,
        none_kept before.sigs before.funcs before.func after by (λ f. refl) changed tables.1,
        block_taken c.args.block before.func after changed c.requires.place _ c.insert.new.self c.requires.once tables.2
            c.in_ok-insert.ensures.ok,
        values_stay c.args.block before.func after changed c.requires.place before.values tables.3,
      ),
    )
