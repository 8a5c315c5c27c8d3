-- The front of a list, taken as a piece.
use Rattle.std.proofs.Common.{◌≡◌, ℕ, ◌+◌, ◌≤◌, List, [], ◌∷◌, ◌++◌, length, min, take, drop, sym, ap, ◌∙◌, arith}
use Rattle.std.proofs.Math.ListN.{drop_of_length-le}
use Rattle.std.proofs.Math.Seq.{take-append_seam, drop-append_seam}
use Rattle.std.proofs.lemmas.List.{append-nil, length-append, length-drop, take-append-drop}

-- a short list is taken whole
pub taken_whole : {X : Type 0} (n : ℕ) (xs : List X) → length xs ≤ n → take n xs ≡ xs
taken_whole n xs few =
    sym (append-nil (take n xs)) ∙ ap (λ d. take n xs ++ d) (sym (drop_of_length-le xs few)) ∙ take-append-drop n xs

-- the first n of a list cut there are its front, and what is behind it is left
pub front_taken : {X : Type 0} (n : ℕ) (front rest : List X) → length front ≡ min n (length front + length rest)
    → (take n (front ++ rest) ≡ front) × (drop n (front ++ rest) ≡ rest)
front_taken n front [] e =
    let few : length (front ++ []) ≤ n = let sum = length-append front [] in omega arith in
    (taken_whole n (front ++ []) few ∙ append-nil front, drop_of_length-le (front ++ []) few)
front_taken n front (r ∷ rest) e =
    let full : length front ≡ n = omega arith in (
      ap (λ k. take k (front ++ r ∷ rest)) (sym full) ∙ take-append_seam front (r ∷ rest),
      ap (λ k. drop k (front ++ r ∷ rest)) (sym full) ∙ drop-append_seam front (r ∷ rest),
    )
