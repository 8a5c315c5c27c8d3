-- Rows of words, joined, are the words; and each row is a short list of them.
use Rattle.std.proofs.Common.{◌≡◌, ℕ, zero, suc, ◌-◌, ◌≤◌, List, [], ◌∷◌, ◌++◌, length, take, drop, All, refl, ap, ◌∙◌}
use Rattle.std.proofs.Common.{arith, take-append-drop}
use Rattle.std.specs.List.{concat}
use Rattle.std.proofs.lemmas.List.{length-drop, length-take}
use Rattle.std.proofs.lemmas.List.Elements.{All-nil, All-cons, All-take, All-drop}
use Rattle.case_text.specs.CaseText.{rows_within, rows_of}
use Rattle.case_text.proofs.CaseFacts.{IsWord}

pub record RowFacts (row : List ℕ) : Type 0 where
  pub words : All IsWord row
  pub few : length row ≤ 16

joined_within : (n : ℕ) (words : List ℕ) → length words ≤ n → concat (rows_within n words) ≡ words
joined_within zero [] few = refl
joined_within zero (w ∷ words) few = absurd (omega arith)
joined_within (suc n) [] few = refl
joined_within (suc n) (w ∷ words) few =
    let rest : List ℕ = drop 16 (w ∷ words) in
    let shorter : length rest ≡ length (w ∷ words) - 16 = length-drop 16 (w ∷ words) in
    ap (λ behind. take 16 (w ∷ words) ++ behind) (joined_within n rest (omega arith)) ∙ take-append-drop 16 (w ∷ words)

-- the rows joined are the words
pub concat-rows_of : (words : List ℕ) → concat (rows_of words) ≡ words
concat-rows_of words = joined_within (length words) words (omega arith)

row_facts_within : (n : ℕ) (words : List ℕ) → All IsWord words → All RowFacts (rows_within n words)
row_facts_within zero words all = All-nil RowFacts
row_facts_within (suc n) [] all = All-nil RowFacts
row_facts_within (suc n) (w ∷ words) all =
    let row : List ℕ = take 16 (w ∷ words) in
    let rest : List ℕ = drop 16 (w ∷ words) in
    let here : RowFacts row = record {
      words = All-take IsWord 16 (w ∷ words) all;
      few = omega (arith, length-take 16 (w ∷ words));
    } in
    All-cons RowFacts row (rows_within n rest) here (row_facts_within n rest (All-drop IsWord 16 (w ∷ words) all))

pub row_facts : (words : List ℕ) → All IsWord words → All RowFacts (rows_of words)
row_facts words all = row_facts_within (length words) words all
