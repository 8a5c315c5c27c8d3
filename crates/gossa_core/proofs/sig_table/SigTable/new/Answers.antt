use Rattle.std.proofs.Common.{ℕ, nat_eq, drop, find, ◌+◌, ap, ◌∙◌}
use Rattle.std.specs.Cmp.Lexicographic.{pointwise}
use Rattle.indexmap.specs.IndexMap.{get}
use Rattle.ssa_ir.specs.Lookups.{is_of}
use Rattle.gossa_core.specs.tables.SigTables.{found_or}
use Rattle.gossa_core.proofs.SigTableLemmas.{found_from}
use Rattle.gossa_core.proofs.sig_table.SigTable.new.Goals as goal

pub loop-place-preserved : goal.loop-place-preserved
loop-place-preserved c =
    λ other.
    let sigs = c.args.sigs.now in
    let place : ℕ = c.loop-place.place in
    let sig = c.index-sigs-place.result in
    let found = found_from sigs place sig other c.loop-place-test.true c.index-sigs-place.is in
    c.in_ok-put.ensures sigs other (find (is_of other) (drop (place + 1) sigs))
    ∙ ap (found_or sigs (get (pointwise nat_eq) c.loop-place.table.places other)) found
    ∙ c.loop-place.invariant other
