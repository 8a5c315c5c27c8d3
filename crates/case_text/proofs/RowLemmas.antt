-- Words in rows of 16.
use Rattle.std.proofs.Common.{◌≡◌, ℕ, zero, suc, ◌+◌, ◌-◌, ◌<◌, ◌≤◌, min, List, [], ◌∷◌, ◌++◌, length, take, drop, refl}
use Rattle.std.proofs.Common.{ap, ◌∙◌, arith}
use Rattle.std.proofs.lemmas.List.{length-append, length-drop}
use Rattle.gossa_base.proofs.ListPieces.{front_taken}
use Rattle.case_text.specs.CaseText.{rows_within, rows_of}

-- more rows than are needed change nothing
enough : (n m : ℕ) (words : List ℕ) → length words ≤ n → length words ≤ m → rows_within n words ≡ rows_within m words
enough zero zero words a b = refl
enough zero (suc m) [] a b = refl
enough zero (suc m) (w ∷ words) a b = absurd (omega arith)
enough (suc n) zero [] a b = refl
enough (suc n) zero (w ∷ words) a b = absurd (omega arith)
enough (suc n) (suc m) [] a b = refl
enough (suc n) (suc m) (w ∷ words) a b =
    let rest : List ℕ = drop 16 (w ∷ words) in
    let shorter : length rest ≡ length (w ∷ words) - 16 = length-drop 16 (w ∷ words) in
    ap (λ rows. take 16 (w ∷ words) ∷ rows) (enough n m rest (omega arith) (omega arith))

-- a row, and the rows behind it
rows_begin : (words : List ℕ) → 0 < length words → rows_of words ≡ take 16 words ∷ rows_of (drop 16 words)
rows_begin [] some = absurd (omega arith)
rows_begin (w ∷ words) some =
    let rest : List ℕ = drop 16 (w ∷ words) in
    let shorter : length rest ≡ length (w ∷ words) - 16 = length-drop 16 (w ∷ words) in
    ap (λ rows. take 16 (w ∷ words) ∷ rows) (enough (length words) (length rest) rest (omega arith) (omega arith))

pub rows_step : (words front rest : List ℕ) → words ≡ front ++ rest → length front ≡ min 16 (length words)
    → 0 < length words
    → rows_of words ≡ front ∷ rows_of rest
rows_step words front rest e row some =
    let total : length words ≡ length front + length rest = ap length e ∙ length-append front rest in
    let parts = front_taken 16 front rest (row ∙ ap (λ n. min 16 n) total) in
    rows_begin words some
    ∙ ap (λ w. take 16 w ∷ rows_of (drop 16 w)) e
    ∙ ap (λ t. t ∷ rows_of (drop 16 (front ++ rest))) parts.0
    ∙ ap (λ d. front ∷ rows_of d) parts.1
