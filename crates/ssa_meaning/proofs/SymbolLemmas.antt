-- The first line of a name counts.
use Rattle.std.proofs.Common.{◌≡◌, ℕ, Bool, true, false, cond, List, nat_eq, Option, None, Some, is_some, refl, sym, ap}
use Rattle.std.proofs.Common.{◌∙◌}
use Rattle.std.specs.Cmp.Lexicographic.{pointwise, same_text}
use Rattle.std.specs.Option.{unwrap_or}

none_there : (o : Option ℕ) → is_some o ≡ false → o ≡ None
none_there None e = refl
none_there (Some x) e = cc

-- a word that is put where none was: it is found behind all that was found before
pub put_behind : (old new : List ℕ → Option ℕ) (name : List ℕ) (word : ℕ) → is_some (old name) ≡ false
    → ((q : List ℕ) → new q ≡ cond (pointwise nat_eq name q) (Some word) (old q))
    → (other : List ℕ) (rest : ℕ)
    → unwrap_or (new other) rest ≡ unwrap_or (old other) (cond (pointwise nat_eq name other) word rest)
put_behind old new name word absent updates other rest =
    ap (λ o. unwrap_or o rest) (updates other) ∙ go (pointwise nat_eq name other) refl
  where
    go : (b : Bool) → pointwise nat_eq name other ≡ b
        → unwrap_or (cond b (Some word) (old other)) rest ≡ unwrap_or (old other) (cond b word rest)
    go true e =
        ap (λ o. unwrap_or o word) (sym (ap old (sym (same_text name other (sym e))) ∙ none_there (old name) absent))
    go false e = refl
