-- Words behind others.
use Rattle.std.proofs.Common.{◌≡◌, ℕ, zero, suc, ◌≤◌, min, List, [], ◌∷◌, length, drop, refl, arith}
use Rattle.ssa_ir.specs.declared.types.Scalar.{Scalar}
use Rattle.gossa_core.specs.ShownText.{more_words}

-- types without words have no text
no_words : (types : List Scalar) → more_words types [] ≡ []
no_words [] = refl
no_words (t ∷ types) = refl

-- where the types or the words have ended, no text is left
pub none_left : (i : ℕ) (types : List Scalar) (words : List ℕ) → min (length types) (length words) ≤ i
    → more_words (drop i types) (drop i words) ≡ []
none_left zero [] words h = refl
none_left zero (t ∷ types) [] h = refl
none_left zero (t ∷ types) (w ∷ words) h = absurd (omega arith)
none_left (suc i) [] words h = refl
none_left (suc i) (t ∷ types) [] h = no_words (drop i types)
none_left (suc i) (t ∷ types) (w ∷ words) h = none_left i types words (omega arith)
