use Rattle.std.proofs.Common.{◌++◌, map, refl, ap, ◌∙◌}
use Rattle.ssa_text.specs.declared.partial.Named.TheVariants.{OfValue}
use Rattle.ssa_text.specs.Reading.{change, mention, value_behind}
use Rattle.ssa_text.proofs.TakeLemmas.{so_far, names_kept, none_kept, value_taken, blocks_stay}
use Rattle.ssa_text.proofs.gathered.Gathered.take_value.Goals as goal

-- the table of values has the new number last
pub returns : goal.returns
returns c =
    let before = c.args.self.now in
    let tables = c.requires.tables in
    let after = c.in_ok-self.field-0 in
    let by = value_behind c.args.value in
    let changed = c.in_ok-self.ensures ∙ ap (change by) c.take.ensures.value in
    let told = c.in_ok-mention_values.ensures
    ∙ ap (λ ids. before.mentions ++ map (mention c.args.line) (map OfValue ids)) c.as_slice.ensures in
    let read = so_far before.sigs refl changed told refl in (
      read,
      (
        names_kept before.sigs before.funcs before.func after by (λ f. refl) changed before.names tables.0,
        none_kept before.sigs before.funcs before.func after by (λ f. refl) changed tables.1,
        blocks_stay c.args.value before.func after changed c.requires.place _ tables.2,
        value_taken c.args.value before.func after changed c.requires.place before.values c.insert.new.self
            c.requires.once tables.3
            c.in_ok-insert.ensures.ok,
      ),
    )
