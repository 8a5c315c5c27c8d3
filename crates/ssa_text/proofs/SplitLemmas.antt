-- The lines of a text and their bytes, and the first line of a case among them.
use Rattle.std.proofs.Common.{◌≡◌, ℕ, suc, ◌+◌, ◌≤◌, ◌<◌, Bool, true, false, not, ◌||◌, cond, List, [], ◌∷◌, length}
use Rattle.std.proofs.Common.{drop, get_or, refl, sym, ap, ◌∙◌, arith, ⊎_elim, length-take}
use Rattle.std.specs.List.{list_any, slice_split, onto_first, position_or_len, before_first, after_first}
use Rattle.std.proofs.lemmas.Bool.{not-true, cases_lt}
use Rattle.std.proofs.lemmas.List.{drop_all, drop-drop}
use Rattle.std.proofs.lemmas.List.Elements.{All-from_get_or}
use Rattle.std.proofs.lemmas.List.Splits.{length-slice_split, slice_split_first}
use Rattle.std.proofs.lemmas.List.Sums.{prefix_len_passes}
use Rattle.ssa_lines.specs.Lines.{lines_of, is_newline, without_empty_last}
use Rattle.ssa_lines.proofs.LineLemmas.{HasNoNewline, first_stays, only_line}
use Rattle.ssa_text.specs.CaseSplit.{is_case_line, before_case, from_case, bytes_of, has_case, case_offset, case_line}

bytes_grow : (b : ℕ) (test : Bool) (parts : List (List ℕ)) → 0 < length parts
    → bytes_of (cond test ([] ∷ parts) (onto_first b parts)) ≡ suc (bytes_of parts)
bytes_grow b test [] some = absurd (omega arith)
bytes_grow b true (part ∷ parts) some = omega arith
bytes_grow b false (part ∷ parts) some = omega arith

-- all parts of a text have its bytes, and one for each LF and for the end
bytes_of_parts : (text : List ℕ) → bytes_of (slice_split is_newline text) ≡ length text + 1
bytes_of_parts [] = refl
bytes_of_parts (b ∷ text) =
    bytes_grow b (is_newline b) (slice_split is_newline text) (omega (arith, length-slice_split is_newline text))
    ∙ omega (arith, bytes_of_parts text)

fewer_bytes : (parts : List (List ℕ)) → bytes_of (without_empty_last parts) ≤ bytes_of parts
fewer_bytes [] = omega arith
fewer_bytes ([] ∷ []) = omega arith
fewer_bytes ((b ∷ part) ∷ []) = omega arith
fewer_bytes ([] ∷ other ∷ parts) = omega (arith, fewer_bytes (other ∷ parts))
fewer_bytes ((b ∷ part) ∷ other ∷ parts) = omega (arith, fewer_bytes (other ∷ parts))

-- the lines of a text have no more bytes than the text, and one
pub line_bytes : (text : List ℕ) → bytes_of (lines_of text) ≤ length text + 1
line_bytes text = omega (arith, fewer_bytes (slice_split is_newline text), bytes_of_parts text)

fewer_lines : (parts : List (List ℕ)) → 0 < length parts → length (without_empty_last parts) + 1 ≤ bytes_of parts
fewer_lines [] some = absurd (omega arith)
fewer_lines ([] ∷ []) some = omega arith
fewer_lines ((b ∷ part) ∷ []) some = omega arith
fewer_lines ([] ∷ other ∷ parts) some = omega (arith, fewer_lines (other ∷ parts) (omega arith))
fewer_lines ((b ∷ part) ∷ other ∷ parts) some = omega (arith, fewer_lines (other ∷ parts) (omega arith))

-- a text has no more lines than bytes
pub few_lines_of : (text : List ℕ) → length (lines_of text) ≤ length text
few_lines_of text =
    let parts = slice_split is_newline text in
    omega (arith, fewer_lines parts (omega (arith, length-slice_split is_newline text)), bytes_of_parts text)

fewer_by_test : (line : List ℕ) (lines before : List (List ℕ)) (b : Bool) → length before ≤ length lines
    → length (cond b [] (line ∷ before)) ≤ length (line ∷ lines)
fewer_by_test line lines before true few = omega arith
fewer_by_test line lines before false few = omega (arith, few)

fewer_before : (lines : List (List ℕ)) → length (before_case lines) ≤ length lines
fewer_before [] = omega arith
fewer_before (line ∷ lines) = fewer_by_test line lines (before_case lines) (is_case_line line) (fewer_before lines)

-- so the line of the first case has no greater number than there are bytes, and one
pub case_line_within : (text : List ℕ) → case_line text ≤ length text + 1
case_line_within text = omega (arith, fewer_before (lines_of text), few_lines_of text)

-- where the cases begin, by the lines left behind so many bytes
abbrev pub offset_behind : List ℕ → ℕ → List (List ℕ) → ℕ
offset_behind text offset lines =
    cond (list_any is_case_line lines) (offset + bytes_of (before_case lines)) (length text)

-- and by the lines left from this number on
abbrev pub line_behind : ℕ → List (List ℕ) → ℕ
line_behind number lines = length (before_case lines) + number

-- a search among the lines left that is as good as one among all
pub record SoFar (text : List ℕ) (offset number : ℕ) (lines : List (List ℕ)) : Type 0 where
  pub offset_is : offset_behind text offset lines ≡ case_offset text
  pub line_is : line_behind number lines ≡ case_line text
  pub bytes : offset + bytes_of lines ≤ length text + 1
  pub count : number + length lines ≤ length text + 1

nothing_before : (n : ℕ) → 0 + n ≡ n
nothing_before n = omega arith

pub begun : (text : List ℕ) → SoFar text 0 1 (lines_of text)
begun text = record {
  offset_is = ap (λ n. cond (has_case text) n (length text)) (nothing_before (bytes_of (before_case (lines_of text))));
  line_is = refl;
  bytes = omega (arith, line_bytes text);
  count = omega (arith, few_lines_of text);
}

-- ---- the lines from the first case on

module _ (text line : List ℕ) (left : List (List ℕ)) (taken : lines_of text ≡ line ∷ left) where
  abbrev end : ℕ
  end = position_or_len is_newline text

  cut : end < length text → lines_of (drop (length line + 1) text) ≡ left
  cut lt =
      let rest : List ℕ = after_first is_newline text in
      let first : lines_of text ≡ before_first is_newline text ∷ lines_of rest =
      ap without_empty_last (slice_split_first is_newline text 0 lt)
      ∙ first_stays (before_first is_newline text) (slice_split is_newline rest)
      (omega (arith, length-slice_split is_newline rest)) in
      let both : line ∷ left ≡ before_first is_newline text ∷ lines_of rest = sym taken ∙ first in
      let same_line : line ≡ before_first is_newline text = cc in
      let same_left : lines_of rest ≡ left = cc in
      let long : length line ≡ end = ap length same_line ∙ omega (arith, length-take end text) in
      ap (λ k. lines_of (drop (k + 1) text)) long ∙ same_left

  uncut : length text ≤ end → lines_of (drop (length line + 1) text) ≡ left
  uncut past =
      let none : HasNoNewline text =
      All-from_get_or (λ b. is_newline b ≡ false) text 0
      (λ i lt. not-true (is_newline (get_or text i 0))
      (prefix_len_passes (λ b. not (is_newline b)) text i 0 (omega (arith, lt, past)))) in
      whole text none taken
    where
      whole : (bytes : List ℕ) → HasNoNewline bytes → lines_of bytes ≡ line ∷ left
          → lines_of (drop (length line + 1) bytes) ≡ left
      whole [] none e = cc
      whole (b ∷ bytes) none e =
          let only : (b ∷ bytes) ∷ [] ≡ line ∷ left = sym (only_line (b ∷ bytes) (omega arith) none) ∙ e in
          let same_line : line ≡ b ∷ bytes = cc in
          let same_left : [] ≡ left = cc in
          ap lines_of (drop_all (length line + 1) (b ∷ bytes) (omega (arith, ap length same_line))) ∙ same_left

  -- behind the first line and its LF stand the others
  pub behind_line : lines_of (drop (length line + 1) text) ≡ left
  behind_line = ⊎_elim cut uncut (cases_lt end (length text))

abbrev offset_of : List (List ℕ) → List ℕ → ℕ
offset_of lines text = cond (list_any is_case_line lines) (bytes_of (before_case lines)) (length text)

module _ (text line : List ℕ) (lines : List (List ℕ)) (taken : lines_of text ≡ line ∷ lines)
    (there : (rest : List ℕ) → lines_of rest ≡ lines → lines_of (drop (offset_of lines rest) rest) ≡ from_case lines)
  where
    abbrev rest : List ℕ
    rest = drop (length line + 1) text

    in_rest : lines_of (drop (offset_of lines rest) rest) ≡ from_case lines
    in_rest = there rest (behind_line text line lines taken)

    behind_other : (c : Bool) → list_any is_case_line lines ≡ c
        → lines_of (drop (cond c (length line + 1 + bytes_of (before_case lines)) (length text)) text) ≡ from_case lines
    behind_other true e =
        ap lines_of (sym (drop-drop (bytes_of (before_case lines)) (length line + 1) text))
        ∙ ap (λ b. lines_of (drop (cond b (bytes_of (before_case lines)) (length rest)) rest)) (sym e)
        ∙ in_rest
    behind_other false e =
        ap lines_of (drop_all (length text) text (omega arith))
        ∙ sym (ap lines_of (drop_all (length rest) rest (omega arith)))
        ∙ ap (λ b. lines_of (drop (cond b (bytes_of (before_case lines)) (length rest)) rest)) (sym e)
        ∙ in_rest

    by_line : (b : Bool) → is_case_line line ≡ b
        → lines_of (drop (cond (b || list_any is_case_line lines)
        (bytes_of (cond b [] (line ∷ before_case lines))) (length text)) text)
        ≡ cond b (line ∷ lines) (from_case lines)
    by_line true e = taken
    by_line false e = behind_other (list_any is_case_line lines) refl

lines_from : (lines : List (List ℕ)) (text : List ℕ) → lines_of text ≡ lines
    → lines_of (drop (offset_of lines text) text) ≡ from_case lines
lines_from [] text e = ap lines_of (drop_all (length text) text (omega arith))
lines_from (line ∷ lines) text e = by_line text line lines e (lines_from lines) (is_case_line line) refl

-- what stands from the first case on
pub lines_from_case : (text : List ℕ) → lines_of (drop (case_offset text) text) ≡ from_case (lines_of text)
lines_from_case text = lines_from (lines_of text) text refl

before_by_test : (line : List ℕ) (lines before : List (List ℕ)) (b c : Bool) → b || c ≡ true
    → (c ≡ true → bytes_of before + 1 ≤ bytes_of lines)
    → bytes_of (cond b [] (line ∷ before)) + 1 ≤ length line + 1 + bytes_of lines
before_by_test line lines before true c e later = omega arith
before_by_test line lines before false true e later = omega (arith, later refl)
before_by_test line lines before false false e later = cc

bytes_before : (lines : List (List ℕ)) → list_any is_case_line lines ≡ true
    → bytes_of (before_case lines) + 1 ≤ bytes_of lines
bytes_before [] e = cc
bytes_before (line ∷ lines) e =
    before_by_test line lines (before_case lines) (is_case_line line) (list_any is_case_line lines) e
    (bytes_before lines)

offset_by_test : (text : List ℕ) (b : Bool) → list_any is_case_line (lines_of text) ≡ b
    → cond b (bytes_of (before_case (lines_of text))) (length text) ≤ length text
offset_by_test text true e = omega (arith, bytes_before (lines_of text) e, line_bytes text)
offset_by_test text false e = omega arith

-- the first case begins within the text
pub offset_within : (text : List ℕ) → case_offset text ≤ length text
offset_within text = offset_by_test text (list_any is_case_line (lines_of text)) refl
