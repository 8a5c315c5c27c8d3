use Rattle.std.proofs.Common.{◌≡◌, ℕ, List, find, drop, nat_eq}
use Rattle.std.specs.Cmp.Lexicographic.{pointwise}
use Rattle.indexmap.specs.IndexMap.{get}
use Rattle.ssa_ir.specs.Lookups.{is_of}
use Rattle.gossa_core.specs.ShownText.{sig_among}
use Rattle.gossa_core.specs.tables.SigTables.{found_or}
use Rattle.gossa_core.proofs.sig_table.SigTable.new.Given as goal

-- the table, and then the signatures left, give what all signatures give
abbrev pub invariant-loop-place : goal.invariant-loop-place
invariant-loop-place l =
    (other : List ℕ)
    → found_or l.sigs (get (pointwise nat_eq) l.table.places other) (find (is_of other) (drop l.place l.sigs))
    ≡ sig_among l.sigs other
