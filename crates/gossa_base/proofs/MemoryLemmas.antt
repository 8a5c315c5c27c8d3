-- Memory against itself.
use Rattle.std.proofs.Common.{◌≡◌, ℕ, cond, List, [], ◌∷◌, refl, ap, ◌∙◌}
use Rattle.std.proofs.lemmas.Bool.{eq-eqb}
use Rattle.gossa_base.specs.Memory.{Memory, byte_at, change_at, changes_at, addresses_of, changed}

same_byte : (a b : ℕ) (rest : List (ℕ × ℕ)) → change_at a b b rest ≡ rest
same_byte a b rest = ap (λ t. cond t rest ((a, b) ∷ rest)) (eq-eqb b b refl)

no_changes : (m : Memory) (addresses : List ℕ) → changes_at m m addresses ≡ []
no_changes m [] = refl
no_changes m (a ∷ addresses) = same_byte a (byte_at m a) (changes_at m m addresses) ∙ no_changes m addresses

pub unchanged : (m : Memory) → changed m m ≡ []
unchanged m = no_changes m (addresses_of m m)
