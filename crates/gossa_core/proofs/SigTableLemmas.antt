-- The first signature of a name counts.
use Rattle.std.proofs.Common.{◌≡◌, ℕ, ◌+◌, ◌<◌, cond, List, ◌∷◌, nat_eq, slice_get, get_or, drop, find}
use Rattle.std.proofs.Common.{length, Some, refl, sym, ap, ◌∙◌}
use Rattle.std.specs.Cmp.Lexicographic.{pointwise}
use Rattle.std.proofs.lemmas.List.{drop_more}
use Rattle.std.proofs.lemmas.Option.{slice_get_read}
use Rattle.ssa_ir.specs.declared.types.Sig.{Sig}
use Rattle.ssa_ir.specs.Lookups.{is_of}

-- a look-up in the signatures from a place on: that at the place, or one behind it
pub found_from : (sigs : List Sig) (place : ℕ) (sig : Sig) (name : List ℕ) → place < length sigs
    → sig ≡ get_or sigs place sig
    → cond (pointwise nat_eq sig.name name) (slice_get sigs place) (find (is_of name) (drop (place + 1) sigs))
    ≡ find (is_of name) (drop place sigs)
found_from sigs place sig name within at =
    let read : slice_get sigs place ≡ Some sig = slice_get_read sigs (length sigs) place sig refl within at in
    let rest : List Sig = drop (place + 1) sigs in
    ap (λ s. cond (pointwise nat_eq sig.name name) s (find (is_of name) rest)) read
    ∙ ap (find (is_of name)) (sym (drop_more sigs place sig within ∙ ap (λ s. s ∷ rest) (sym at)))
