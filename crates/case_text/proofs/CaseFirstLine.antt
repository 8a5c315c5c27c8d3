-- The text of some cases begins with the word `case`, and so does its first line.
use Rattle.std.proofs.Common.{◌≡◌, ℕ, List, ◌∷◌, ◌++◌, codes, decimal, refl, ap, ◌∙◌, arith, append_assoc}
use Rattle.std.specs.List.{flat_map}
use Rattle.ssa_ir.specs.Texts.{newline}
use Rattle.ssa_ir.specs.declared.case.Case.{Case}
use Rattle.ssa_lines.specs.Lines.{lines_of}
use Rattle.ssa_lines.specs.Words.{words_of}
use Rattle.ssa_lines.proofs.LineLemmas.{line_in_front}
use Rattle.ssa_lines.proofs.WordLemmas.{word_and_space}
use Rattle.ssa_lines.proofs.WordTexts.{short_word}
use Rattle.case_text.specs.CaseText.{name_at, inputs_text, reply_text, cases_text}
use Rattle.case_text.proofs.CaseFacts.{CaseFacts}
use Rattle.case_text.proofs.CaseLineTexts.{ended, two_words_line, two_words_ended, spells_head}

-- what stands behind the first line of a case of these names, with these cases behind it
abbrev pub behind_head : List (List ℕ) → Case → List Case → List ℕ
behind_head names c cases = (inputs_text c ++ flat_map reply_text c.replies) ++ cases_text names cases

-- the first line of a case
abbrev pub head_line : List (List ℕ) → Case → List ℕ
head_line names c = two_words_line (codes "case") (name_at names c.func) (decimal c.bound)

-- the text of cases is the first line of the first, and what stands behind it
pub cases_text-head : (names : List (List ℕ)) (c : Case) (cases : List Case) →
    cases_text names (c ∷ cases) ≡ head_line names c ++ 10 ∷ behind_head names c cases
cases_text-head names c cases =
    let name : List ℕ = name_at names c.func in
    let rest : List ℕ = inputs_text c ++ flat_map reply_text c.replies in
    ap (λ head. (head ++ rest) ++ cases_text names cases) (two_words_ended (codes "case") name (decimal c.bound))
    ∙ append_assoc (ended (head_line names c)) rest (cases_text names cases)
    ∙ append_assoc (head_line names c) newline (behind_head names c cases)

-- it begins with the word and a space
pub cases_text-begins : (names : List (List ℕ)) (c : Case) (cases : List Case) →
    cases_text names (c ∷ cases)
    ≡ codes "case " ++ ((name_at names c.func ++ 32 ∷ decimal c.bound) ++ 10 ∷ behind_head names c cases)
cases_text-begins names c cases = cases_text-head names c cases

-- the first word of the first line is that word
pub words_of-head_line : (names : List (List ℕ)) (c : Case) →
    words_of (head_line names c) ≡ codes "case" ∷ words_of (name_at names c.func ++ 32 ∷ decimal c.bound)
words_of-head_line names c =
    word_and_space (codes "case") 32 (name_at names c.func ++ 32 ∷ decimal c.bound) (omega arith)
    (short_word 4 (codes "case") refl).unspaced refl

-- the first line is that of the first case
pub lines_of-cases_text : (names : List (List ℕ)) (c : Case) (cases : List Case) → CaseFacts names c →
    lines_of (cases_text names (c ∷ cases)) ≡ head_line names c ∷ lines_of (behind_head names c cases)
lines_of-cases_text names c cases h =
    ap lines_of (cases_text-head names c cases)
    ∙ line_in_front (head_line names c) (behind_head names c cases)
    (spells_head (name_at names c.func) c.bound h.name h.bound).one_line
