-- What a line without a fault gives, and what one with a fault does.
use Rattle.std.proofs.Common.{◌≡◌, ℕ, false, true, List, Option, None, Some, Ok, Err, refl, sym, ap, subst, ◌∙◌}
use Rattle.ssa_lines.specs.ReadsAs.{RefusesAs}
use Rattle.ssa_lines.specs.Words.{words_of}
use Rattle.ssa_lines.specs.declared.refusal.TextFault.{TextFault}
use Rattle.ssa_lines.specs.declared.refusal.TextRefusal.{TextRefusal}
use Rattle.ssa_lines.proofs.RefusalLemmas.{refuses_so}
use Rattle.case_text.specs.CaseForms.{case_form_of}
use Rattle.case_text.specs.declared.forms.CaseForm.{CaseForm}
use Rattle.case_text.specs.CaseReading.{CasesRead, fault_of, in_place, is_twice, limit_passed, behind, then_read}
use Rattle.case_text.specs.CaseReading.{form_or_fault, checked_form, read_line}
use Rattle.case_text.proofs.CaseTests.{Passes, passes, form_has_no_fault}

-- a fault of a line is what is read behind it
passed_on : (fault : Option TextFault) (form : CaseForm) (next : CasesRead) (first : TextFault)
    → form_or_fault fault form ≡ Err first → then_read fault next Ok ≡ Err first
passed_on (Some fault) form next first e = let same : fault ≡ first = cc in ap Err same
passed_on None form next first e = cc

no_fault : (fault : Option TextFault) (form given : CaseForm) → form_or_fault fault form ≡ Ok given
    → (fault ≡ None) × (given ≡ form)
no_fault (Some fault) form given e = cc
no_fault None form given e = (refl, cc)

module _ (names : List (List ℕ)) (r : CasesRead) (line : ℕ) (bytes : List ℕ) where
  -- a line that is refused is refused with the same words
  pub line_refused : (refusal : TextRefusal) → RefusesAs refusal (checked_form r line bytes)
      → RefusesAs refusal (read_line names r line bytes)
  line_refused =
      refuses_so CaseForm CasesRead (checked_form r line bytes) (read_line names r line bytes)
      (passed_on (fault_of r line bytes) (case_form_of (words_of bytes))
      (behind names r line (case_form_of (words_of bytes))))

  module _ (form : CaseForm) (checked : checked_form r line bytes ≡ Ok form) where
    nothing_wrong : (fault_of r line bytes ≡ None) × (form ≡ case_form_of (words_of bytes))
    nothing_wrong = no_fault (fault_of r line bytes) (case_form_of (words_of bytes)) form checked

    form_passes : Passes r form
    form_passes =
        subst (Passes r) (sym nothing_wrong.1)
        (passes r line (case_form_of (words_of bytes)) (form_has_no_fault r line bytes nothing_wrong.0))

    -- a line without a fault stands in its place
    pub form_in_place : in_place r form ≡ true
    form_in_place = form_passes.in_its_place

    -- gives nothing twice
    pub form_once : is_twice r form ≡ false
    form_once = form_passes.is_new

    -- passes no limit
    pub form_within : limit_passed r form ≡ None
    form_within = form_passes.is_within

    -- and is read
    pub form_taken : (next : CasesRead) → next ≡ behind names r line form → read_line names r line bytes ≡ Ok next
    form_taken next e =
        ap (λ fault. then_read fault (behind names r line (case_form_of (words_of bytes))) Ok) nothing_wrong.0
        ∙ ap Ok (ap (behind names r line) (sym nothing_wrong.1) ∙ sym e)
