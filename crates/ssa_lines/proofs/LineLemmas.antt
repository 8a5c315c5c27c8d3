-- The lines of a text that is put together.
use Rattle.std.proofs.Common.{◌≡◌, ◌==◌, ℕ, ◌<◌, Bool, true, false, List, [], ◌∷◌, ◌++◌, length, cond, All, refl, sym}
use Rattle.std.proofs.Common.{ap, ◌∙◌, arith}
use Rattle.std.specs.List.{slice_split, onto_first}
use Rattle.std.proofs.lemmas.Bool.{ne_eqb}
use Rattle.std.proofs.lemmas.List.Splits.{length-slice_split, slice_split_none, slice_split_at}
use Rattle.ssa_lines.specs.Lines.{lines_of, is_newline, without_empty_last}

-- none of these bytes is LF
abbrev pub HasNoNewline : List ℕ → Type 0
HasNoNewline line = All (λ b. is_newline b ≡ false) line

-- the first of several parts stays
pub first_stays : (part : List ℕ) (parts : List (List ℕ)) → 0 < length parts →
    without_empty_last (part ∷ parts) ≡ part ∷ without_empty_last parts
first_stays part [] some = absurd (omega arith)
first_stays [] (other ∷ parts) some = refl
first_stays (b ∷ part) (other ∷ parts) some = refl

-- a text without bytes has no lines
pub no_lines : lines_of [] ≡ []
no_lines = refl

-- what stands before the first LF is the first line
pub line_in_front : (line text : List ℕ) → HasNoNewline line → lines_of (line ++ 10 ∷ text) ≡ line ∷ lines_of text
line_in_front line text none =
    ap without_empty_last (slice_split_at is_newline line 10 text none refl)
    ∙ first_stays line (slice_split is_newline text) (omega (arith, length-slice_split is_newline text))

-- bytes with no LF are the only line
pub only_line : (line : List ℕ) → 0 < length line → HasNoNewline line → lines_of line ≡ line ∷ []
only_line [] some none = absurd (omega arith)
only_line (b ∷ bytes) some none = ap without_empty_last (slice_split_none is_newline (b ∷ bytes) none)

some_line : (b : ℕ) (test : Bool) (parts : List (List ℕ)) → 0 < length parts →
    0 < length (without_empty_last (cond test ([] ∷ parts) (onto_first b parts)))
some_line b test [] some = absurd (omega arith)
some_line b true (part ∷ parts) some = omega arith
some_line b false (part ∷ []) some = omega arith
some_line b false (part ∷ other ∷ parts) some = omega arith

-- a text has no lines exactly where it has no bytes
pub few_lines : (text : List ℕ) → (length text == 0) ≡ (length (lines_of text) == 0)
few_lines [] = refl
few_lines (b ∷ text) =
    let parts = slice_split is_newline text in
    let some = some_line b (is_newline b) parts (omega (arith, length-slice_split is_newline text)) in
    ne_eqb (length (b ∷ text)) 0 (λ e. omega arith) ∙ sym (ne_eqb (length (lines_of (b ∷ text))) 0 (λ e. omega arith))
