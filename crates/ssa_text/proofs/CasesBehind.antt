-- Lines that were read are read with the first line of some cases behind them, and give the same.
use Rattle.std.proofs.Common.{◌≡◌, ℕ, ◌+◌, true, false, not, List, [], ◌∷◌, ◌++◌, codes, None, Ok, if◌then◌else◌, refl}
use Rattle.std.proofs.Common.{sym, ap, ◌∙◌}
use Rattle.std.proofs.lemmas.List.{append-nil}
use Rattle.std.proofs.lemmas.List.Elements.{All-head}
use Rattle.ssa_ir.specs.declared.case.Case.{Case}
use Rattle.ssa_lines.specs.Forms.{form_of}
use Rattle.ssa_lines.specs.Lines.{lines_of}
use Rattle.ssa_lines.specs.Words.{words_of}
use Rattle.ssa_lines.specs.declared.forms.Form.TheVariants.{Case as CaseForm}
use Rattle.ssa_lines.proofs.FormFacts.{Spells}
use Rattle.case_text.specs.CaseText.{name_at, cases_text}
use Rattle.case_text.proofs.CaseFacts.{CaseFacts, CasesFacts}
use Rattle.case_text.proofs.CaseFirstLine.{behind_head, head_line, words_of-head_line, lines_of-cases_text}
use Rattle.case_text.proofs.CaseLineTexts.{spells_head}
use Rattle.ssa_text.specs.CaseSplit.{begins_with, is_case_line, from_case, through_case}
use Rattle.ssa_text.specs.Reading.{Read, has_open_block, fault_of, behind, then_read, is_last, read_from}
use Rattle.ssa_text.proofs.FormTests.{Passes, none_with_more, line_has_no_fault}
use Rattle.ssa_text.proofs.OpenBlocks.{line_was_read, same_read}

-- a line that may end a text behind what was read, and leaves that as it is
record AddsNothing (r : Read) (bytes : List ℕ) : Type 0 where
  no_fault : (line : ℕ) → fault_of r line true bytes ≡ None
  stays : (line : ℕ) → behind r line (form_of (words_of bytes)) ≡ r

still_none : (r : Read) (line : ℕ) (lines : List (List ℕ)) (bytes more : List ℕ) →
    fault_of r line (is_last lines) bytes ≡ None → fault_of r line (is_last (lines ++ more ∷ [])) bytes ≡ None
still_none r line [] bytes more h = none_with_more r line true bytes h
still_none r line (other ∷ lines) bytes more h = h

one_more : (s last : Read) (line : ℕ) (lines : List (List ℕ)) (more : List ℕ) → AddsNothing last more →
    read_from s line lines ≡ Ok last → read_from s line (lines ++ more ∷ []) ≡ Ok last
one_more s last line [] more adds h =
    ap (λ (x : Read). read_from x line (more ∷ [])) (same_read s last h)
    ∙ (λ i. then_read (adds.no_fault line i) (adds.stays line i) (λ next. Ok next))
one_more s last line (bytes ∷ lines) more adds h =
    let next : Read = behind s line (form_of (words_of bytes)) in
    let step = line_was_read (fault_of s line (is_last lines) bytes) next last (λ x. read_from x (line + 1) lines) h in
    ap (λ fault. then_read fault next (λ x. read_from x (line + 1) (lines ++ more ∷ [])))
    (still_none s line lines bytes more step.0)
    ∙ one_more next last (line + 1) lines more adds step.1

module _ (names : List (List ℕ)) where
  -- the first line of a case

  spells_case : (c : Case) → CaseFacts names c → Spells (head_line names c) CaseForm
  spells_case c h =
      let spelled = spells_head (name_at names c.func) c.bound h.name h.bound in
      record {
        form_is = ap form_of (words_of-head_line names c);
        allowed = spelled.allowed;
        short = spelled.short;
        one_line = spelled.one_line;
      }

  head_adds_nothing : (r : Read) (c : Case) → CaseFacts names c → has_open_block r.func ≡ false →
      AddsNothing r (head_line names c)
  head_adds_nothing r c h closed =
      let spelled : Spells (head_line names c) CaseForm = spells_case c h in
      let passed : Passes r CaseForm = record {
        in_its_place = ap not closed;
        is_known = refl;
        is_small = refl;
        is_new = refl;
        is_within = refl;
      } in
      record {
        no_fault = λ line. line_has_no_fault r line true CaseForm (head_line names c) spelled passed closed;
        stays = λ line. ap (behind r line) spelled.form_is;
      }

  begins_case : (c : Case) → is_case_line (head_line names c) ≡ true
  begins_case c = ap (begins_with (codes "case")) (words_of-head_line names c)

  -- the text of cases has no line in front of its first case
  pub from_case-cases_text : (cases : List Case) → CasesFacts names cases →
      from_case (lines_of (cases_text names cases)) ≡ lines_of (cases_text names cases)
  from_case-cases_text [] h = refl
  from_case-cases_text (c ∷ cases) h =
      let head : List ℕ = head_line names c in
      let more : List (List ℕ) = lines_of (behind_head names c cases) in
      let lines = lines_of-cases_text names c cases (All-head (CaseFacts names) c cases h.each) in
      ap from_case lines ∙ ap (λ b. if b then head ∷ more else from_case more) (begins_case c) ∙ sym lines

  through_case-cases_text : (c : Case) (cases : List Case) → CaseFacts names c →
      through_case (lines_of (cases_text names (c ∷ cases))) ≡ head_line names c ∷ []
  through_case-cases_text c cases h =
      let head : List ℕ = head_line names c in
      let more : List (List ℕ) = lines_of (behind_head names c cases) in
      ap through_case (lines_of-cases_text names c cases h)
      ∙ ap (λ b. if b then head ∷ [] else head ∷ through_case more) (begins_case c)

  -- lines that leave no block open are read with that line behind them, where there is one
  pub read_through_case : (s last : Read) (line : ℕ) (lines : List (List ℕ)) (cases : List Case) →
      CasesFacts names cases → has_open_block last.func ≡ false → read_from s line lines ≡ Ok last →
      read_from s line (lines ++ through_case (lines_of (cases_text names cases))) ≡ Ok last
  read_through_case s last line lines [] h closed read = ap (read_from s line) (append-nil lines) ∙ read
  read_through_case s last line lines (c ∷ cases) h closed read =
      let facts : CaseFacts names c = All-head (CaseFacts names) c cases h.each in
      ap (λ more. read_from s line (lines ++ more)) (through_case-cases_text c cases facts)
      ∙ one_more s last line lines (head_line names c) (head_adds_nothing last c facts closed) read
