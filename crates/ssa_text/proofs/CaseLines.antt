-- Lines that begin no case, in front of others.
use Rattle.std.proofs.Common.{◌≡◌, ℕ, nat_eq, Bool, true, false, List, [], ◌∷◌, ◌++◌, codes, All, if◌then◌else◌, refl}
use Rattle.std.proofs.Common.{ap, ◌∙◌, true≢false}
use Rattle.std.specs.List.{starts_with}
use Rattle.std.proofs.lemmas.List.Elements.{All-head, All-tail}
use Rattle.ssa_lines.specs.Forms.{form_of}
use Rattle.ssa_lines.specs.Words.{is_same, words_of}
use Rattle.ssa_lines.specs.declared.forms.Form.{Form}
use Rattle.ssa_lines.specs.declared.forms.Form.TheVariants.{Blank, Case}
use Rattle.ssa_text.specs.CaseSplit.{begins_with, is_case_line, from_case, through_case}
use Rattle.ssa_text.proofs.FormTexts.{is_left_out}

abbrev pub NoCase : List ℕ → Type 0
NoCase line = is_case_line line ≡ false

-- a line of another form than a blank one and the first one of a case

by_tests : (is_comment is_case : Bool) (other : Form) →
    is_left_out (if is_comment then Blank else if is_case then Case else other) ≡ false → is_case ≡ false
by_tests true is_case other full = absurd (true≢false full)
by_tests false true other full = absurd (true≢false full)
by_tests false false other full = refl

by_words : (words : List (List ℕ)) → is_left_out (form_of words) ≡ false → begins_with (codes "case") words ≡ false
by_words [] full = refl
by_words (word ∷ words) full = by_tests (starts_with nat_eq word (codes "//")) (is_same word (codes "case")) _ full

-- begins no case
pub begins_no_case : (line : List ℕ) → is_left_out (form_of (words_of line)) ≡ false → NoCase line
begins_no_case line full = by_words (words_of line) full

-- so the cases begin where they begin in the lines behind
pub through_case-behind : (lines more : List (List ℕ)) → All NoCase lines →
    through_case (lines ++ more) ≡ lines ++ through_case more
through_case-behind [] more all = refl
through_case-behind (line ∷ lines) more all =
    ap (λ b. if b then line ∷ [] else line ∷ through_case (lines ++ more)) (All-head NoCase line lines all)
    ∙ ap (λ l. line ∷ l) (through_case-behind lines more (All-tail NoCase line lines all))

pub from_case-behind : (lines more : List (List ℕ)) → All NoCase lines → from_case (lines ++ more) ≡ from_case more
from_case-behind [] more all = refl
from_case-behind (line ∷ lines) more all =
    ap (λ b. if b then line ∷ (lines ++ more) else from_case (lines ++ more)) (All-head NoCase line lines all)
    ∙ from_case-behind lines more (All-tail NoCase line lines all)
