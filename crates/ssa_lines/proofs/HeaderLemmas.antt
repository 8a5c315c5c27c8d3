-- The types of a group, one after the other.
use Rattle.std.proofs.Common.{◌≡◌, ℕ, List, [], ◌∷◌, ◌++◌, append_assoc, Option, None, Some, refl, sym, ap, ◌∙◌}
use Rattle.std.specs.Option.{option_map}
use Rattle.ssa_ir.specs.declared.types.Scalar.{Scalar}
use Rattle.ssa_lines.specs.Headers.{type_before, last_or_more, types_ahead}

-- types before those of a group
abbrev pub onto_group : List Scalar → Option (List Scalar × List (List ℕ)) → Option (List Scalar × List (List ℕ))
onto_group types group = option_map (λ found. (types ++ found.0, found.1)) group

pub onto_group-none : (group : Option (List Scalar × List (List ℕ))) → onto_group [] group ≡ group
onto_group-none None = refl
onto_group-none (Some found) = refl

-- one more type before those of the words left
pub one_more_word : (types more : List Scalar) (t : Scalar) (word next : List ℕ) (words behind : List (List ℕ)) →
    type_before 41 word ≡ None → type_before 44 word ≡ Some t → more ≡ types ++ t ∷ [] → words ≡ next ∷ behind →
    onto_group more (types_ahead (next ∷ behind)) ≡ onto_group types (types_ahead (word ∷ words))
one_more_word types more t word next words behind not_last read added taken =
    ap (λ front. onto_group front (types_ahead (next ∷ behind))) added
    ∙ go (types_ahead (next ∷ behind))
    ∙ ap (λ left. onto_group types (last_or_more None (Some t) left (types_ahead left))) (sym taken)
    ∙ ap (λ last. onto_group types (last_or_more last (Some t) words (types_ahead words))) (sym not_last)
    ∙ ap (λ other. onto_group types (last_or_more (type_before 41 word) other words (types_ahead words))) (sym read)
  where
    go : (group : Option (List Scalar × List (List ℕ))) →
        onto_group (types ++ t ∷ []) group ≡ onto_group types (last_or_more None (Some t) (next ∷ behind) group)
    go None = refl
    go (Some found) = ap (λ all. Some (all, found.1)) (append_assoc types (t ∷ []) found.0)
