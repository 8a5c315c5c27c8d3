-- Reading a text that is put together, step by step: each part leads from what was read to what is read behind it.
use Rattle.std.proofs.Common.{◌≡◌, ℕ, ◌+◌, true, false, not, cond, List, [], ◌++◌, length, None, Some, refl, ap, ◌∙◌}
use Rattle.std.proofs.Common.{append_assoc}
use Rattle.std.proofs.lemmas.Bool.{le-ltb}
use Rattle.ssa_ir.specs.declared.limits.TheConstants.{MAX_LINE_BYTES}
use Rattle.ssa_ir.specs.Texts.{newline}
use Rattle.ssa_lines.specs.Limits.{limit_of}
use Rattle.ssa_lines.specs.Lines.{lines_of}
use Rattle.ssa_lines.specs.declared.refusal.LimitKind.TheVariants.{LineBytes}
use Rattle.ssa_lines.specs.declared.refusal.TextFault.TheVariants.{BadByte, BadLine, NumberTooLarge, Duplicate, Limit}
use Rattle.ssa_lines.proofs.LineLemmas.{line_in_front}
use Rattle.case_text.specs.CaseReading.{CasesRead, in_place, is_too_large, is_twice, limit_passed, fault_of_form}
use Rattle.case_text.specs.CaseReading.{fault_of, behind, then_read, read_from}
use Rattle.case_text.specs.declared.forms.CaseForm.{CaseForm}
use Rattle.case_text.proofs.CaseLineTexts.{SpellsCase, ended}

-- a form that no test refuses
pub record CasePasses (r : CasesRead) (form : CaseForm) : Type 0 where
  pub placed : in_place r form ≡ true
  pub fits : is_too_large form ≡ false
  pub once : is_twice r form ≡ false
  pub within : limit_passed r form ≡ None

form_has_no_fault : (r : CasesRead) (n : ℕ) (form : CaseForm) → CasePasses r form → fault_of_form r n form ≡ None
form_has_no_fault r n form h =
    λ i.
    cond (not (h.placed i)) (Some (BadLine n))
    (cond (h.fits i) (Some (NumberTooLarge n)) (cond (h.once i) (Some (Duplicate n)) (limit_of n (h.within i))))

line_has_no_fault : (r : CasesRead) (n : ℕ) (line : List ℕ) (form : CaseForm) → SpellsCase line form →
    CasePasses r form → fault_of r n line ≡ None
line_has_no_fault r n line form spelled h =
    (λ i.
    cond (le-ltb MAX_LINE_BYTES (length line) spelled.short i) (Some (Limit LineBytes n))
    (cond (not (spelled.allowed i)) (Some (BadByte n)) (fault_of_form r n (spelled.form_is i))))
    ∙ form_has_no_fault r n form h

-- among functions of these names
module _ (names : List (List ℕ)) where
  -- this text leads from r to s: what is read of it and of more from r on, is what is read of the rest from s on
  pub record Leads (text : List ℕ) (r s : CasesRead) : Type 0 where
    pub read : (n : ℕ) (more : List ℕ) →
        (m : ℕ) × (read_from names r n (lines_of (text ++ more)) ≡ read_from names s m (lines_of more))

  pub leads_nowhere : (r : CasesRead) → Leads [] r r
  leads_nowhere r = record { read = λ n more. (n, refl) }

  pub leads_append : (text rest : List ℕ) (r s end : CasesRead) → Leads text r s → Leads rest s end →
      Leads (text ++ rest) r end
  leads_append text rest r s end first second = record { read = go }
    where
      go : (n : ℕ) (more : List ℕ) →
          (m : ℕ) × (read_from names r n (lines_of ((text ++ rest) ++ more)) ≡ read_from names end m (lines_of more))
      go n more =
          let one = first.read n (rest ++ more) in
          let two = second.read one.0 more in
          (two.0, ap (λ t. read_from names r n (lines_of t)) (append_assoc text rest more) ∙ one.1 ∙ two.1)

  -- a line that passes leads to what stands behind it
  pub leads_line : (line : List ℕ) (form : CaseForm) (r s : CasesRead) → SpellsCase line form → CasePasses r form →
      ((n : ℕ) → behind names r n form ≡ s) → Leads (ended line) r s
  leads_line line form r s spelled h same = record { read = go }
    where
      go : (n : ℕ) (more : List ℕ) →
          (m : ℕ) × (read_from names r n (lines_of (ended line ++ more)) ≡ read_from names s m (lines_of more))
      go n more = (
        n + 1,
        ap (λ t. read_from names r n (lines_of t)) (append_assoc line newline more)
            ∙ ap (read_from names r n) (line_in_front line more spelled.one_line)
            ∙ (λ i.
            then_read (line_has_no_fault r n line form spelled h i) (behind names r n (spelled.form_is i))
            (λ next. read_from names next (n + 1) (lines_of more)))
            ∙ ap (λ next. read_from names next (n + 1) (lines_of more)) (same n),
      )
