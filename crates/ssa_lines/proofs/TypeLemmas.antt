-- Lists that are cut into parts, and the types of the parts.
use Rattle.std.proofs.Common.{◌≡◌, ℕ, ◌+◌, ◌-◌, ◌<◌, ◌≤◌, ◌==◌, nat_lt, Bool, true, false, not, cond, List, [], ◌∷◌}
use Rattle.std.proofs.Common.{◌++◌, append_assoc, length, take, drop, position, Option, None, Some, is_some, Bor, refl}
use Rattle.std.proofs.Common.{sym, ap, ◌∙◌, arith}
use Rattle.std.specs.Option.{option_map, option_map_or}
use Rattle.std.specs.List.{position_or_len, before_first, after_first, list_any, slice_split, onto_first, count_by}
use Rattle.std.proofs.lemmas.Bool.{or_parts}
use Rattle.std.proofs.lemmas.Bool.Decides.{nat_tests}
use Rattle.std.proofs.lemmas.List.{take_rest}
use Rattle.std.proofs.lemmas.List.Folds.{list_any_at, list_any_none}
use Rattle.std.proofs.lemmas.List.Splits.{slice_split_first, slice_split-cons_no, length-slice_split}
use Rattle.std.proofs.lemmas.List.Sums.{fails_before_first, passes_at_first}
use Rattle.ssa_ir.specs.declared.types.Scalar.{Scalar}
use Rattle.ssa_lines.specs.Types.{scalar_of, before_type, tuple_of}

-- nothing passes where no place is
far_none : (p : ℕ → Bool) (text : List ℕ) → length text ≤ position_or_len p text → list_any p text ≡ false
far_none p text far = list_any_none p text (λ k d lt. fails_before_first p text k d (omega arith))

pub none_found : (p : ℕ → Bool) (text : List ℕ) → position p text ≡ None → list_any p text ≡ false
none_found p text = go (nat_lt (position_or_len p text) (length text)) refl
  where
    go : (b : Bool) → nat_lt (position_or_len p text) (length text) ≡ b →
        cond b (Some (position_or_len p text)) None ≡ None → list_any p text ≡ false
    go true within e = cc
    go false past e = far_none p text (grind (arith, nat_tests))

-- what stands before the first place, and behind it
pub cut_found : (p : ℕ → Bool) (text : List ℕ) (place : ℕ) → position p text ≡ Some place →
    (list_any p text ≡ true) × (take place text ≡ before_first p text)
    × (take (length text - (place + 1)) (drop (place + 1) text) ≡ after_first p text)
cut_found p text place = go (nat_lt (position_or_len p text) (length text)) refl
  where
    go : (b : Bool) → nat_lt (position_or_len p text) (length text) ≡ b →
        cond b (Some (position_or_len p text)) None ≡ Some place →
        (list_any p text ≡ true) × (take place text ≡ before_first p text)
        × (take (length text - (place + 1)) (drop (place + 1) text) ≡ after_first p text)
    go true within e =
        let lt : position_or_len p text < length text = grind (arith, nat_tests) in
        let here : place ≡ position_or_len p text = cc in (
          list_any_at p text (position_or_len p text) 0 lt (passes_at_first p text 0 lt),
          ap (λ n. take n text) here,
          take_rest text (place + 1) ∙ ap (λ n. drop (n + 1) text) here,
        )
    go false past e = cc

-- a list in which nothing passes is its one part
pub one_part : (p : ℕ → Bool) (text : List ℕ) → list_any p text ≡ false → slice_split p text ≡ text ∷ []
one_part p [] e = refl
one_part p (x ∷ xs) e =
    let none = or_parts (p x) (list_any p xs) e in
    slice_split-cons_no p x xs none.0 ∙ ap (onto_first x) (one_part p xs none.1)

-- the parts of a list that is cut: what stands before the first place, and the parts of what stands behind it
pub first_part : (p : ℕ → Bool) (text : List ℕ) → list_any p text ≡ true →
    slice_split p text ≡ before_first p text ∷ slice_split p (after_first p text)
first_part p text e = go (nat_lt (position_or_len p text) (length text)) refl
  where
    go : (b : Bool) → nat_lt (position_or_len p text) (length text) ≡ b →
        slice_split p text ≡ before_first p text ∷ slice_split p (after_first p text)
    go true within = slice_split_first p text 0 (grind (arith, nat_tests))
    go false past = let none = far_none p text (grind (arith, nat_tests)) in cc

-- no part is left only where no text is
pub none_left : (p : ℕ → Bool) (rest : Option (Bor (List ℕ))) (none : Bool) → is_some rest ≡ not none →
    none ≡ (length (option_map_or (λ text. slice_split p text.now) rest []) == 0)
none_left p None true e = refl
none_left p None false e = cc
none_left p (Some text) true e = cc
none_left p (Some text) false e =
    let parts : length (slice_split p text.now) ≡ count_by p text.now + 1 = length-slice_split p text.now in
    grind (arith, nat_tests)

-- one more type before those of the parts left
pub one_more_part : (types more : List Scalar) (t : Scalar) (part next : List ℕ) (parts behind : List (List ℕ)) →
    scalar_of part ≡ Some t → more ≡ types ++ t ∷ [] → parts ≡ next ∷ behind →
    option_map (λ last. more ++ last) (tuple_of (next ∷ behind))
    ≡ option_map (λ last. types ++ last) (tuple_of (part ∷ parts))
one_more_part types more t part next parts behind read added taken =
    ap (λ front. option_map (λ last. front ++ last) (tuple_of (next ∷ behind))) added
    ∙ go (tuple_of (next ∷ behind))
    ∙ ap (λ first. option_map (λ last. types ++ last) (before_type first (tuple_of (next ∷ behind)))) (sym read)
    ∙ ap (λ left. option_map (λ last. types ++ last) (tuple_of (part ∷ left))) (sym taken)
  where
    go : (found : Option (List Scalar)) → option_map (λ last. (types ++ t ∷ []) ++ last) found
        ≡ option_map (λ last. types ++ last) (before_type (Some t) found)
    go None = refl
    go (Some last) = ap Some (append_assoc types (t ∷ []) last)
