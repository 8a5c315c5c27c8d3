-- Signatures that a table finds by name.
use Rattle.std.specs.Prelude.{◌≡◌, ℕ, List, nat_eq, slice_get, Option, None, Some}
use Rattle.std.specs.Cmp.Lexicographic.{pointwise}
use Rattle.indexmap.specs.IndexMap.{get}
use Rattle.ssa_ir.specs.declared.types.Sig.{Sig}
use Rattle.gossa_core.specs.declared.sig_table.SigTable.{SigTable}
use Rattle.gossa_core.specs.ShownText.{sig_among}

-- the signature at a place, or another where there is none
abbrev pub found_or : List Sig → Option ℕ → Option Sig → Option Sig
found_or sigs None later = later
found_or sigs (Some place) later = slice_get sigs place

-- the table finds the signature of each name
abbrev pub Finds : List Sig → SigTable → Type 0
Finds sigs table =
    (name : List ℕ) → found_or sigs (get (pointwise nat_eq) table.places name) None ≡ sig_among sigs name
