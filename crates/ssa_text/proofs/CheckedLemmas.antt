-- What a line without a fault gives, and what one with a fault does.
use Rattle.std.proofs.Common.{◌≡◌, ℕ, Bool, false, true, List, Option, None, Some, Ok, Err, refl, sym, ap, subst, ◌∙◌}
use Rattle.ssa_lines.specs.Forms.{form_of}
use Rattle.ssa_lines.specs.Words.{words_of}
use Rattle.ssa_lines.specs.declared.forms.Form.{Form}
use Rattle.ssa_lines.specs.declared.refusal.TextFault.{TextFault}
use Rattle.ssa_lines.specs.declared.refusal.TextRefusal.{TextRefusal}
use Rattle.ssa_lines.specs.ReadsAs.{RefusesAs}
use Rattle.ssa_text.specs.Reading.{Read, fault_of, in_place, is_twice, behind, then_read, form_or_fault, checked_form}
use Rattle.ssa_text.specs.Reading.{read_line}
use Rattle.ssa_lines.proofs.RefusalLemmas.{refuses_so}
use Rattle.ssa_text.proofs.FormTests.{Passes, passes, form_has_no_fault}

-- a fault of a line is what is read behind it
passed_on : (fault : Option TextFault) (form : Form) (next : Read) (first : TextFault)
    → form_or_fault fault form ≡ Err first → then_read fault next Ok ≡ Err first
passed_on (Some fault) form next first e = let same : fault ≡ first = cc in ap Err same
passed_on None form next first e = cc

no_fault : (fault : Option TextFault) (form given : Form) → form_or_fault fault form ≡ Ok given
    → (fault ≡ None) × (given ≡ form)
no_fault (Some fault) form given e = cc
no_fault None form given e = (refl, cc)

module _ (r : Read) (line : ℕ) (last : Bool) (bytes : List ℕ) where
  -- a line that is refused is refused with the same words
  pub line_refused : (refusal : TextRefusal) → RefusesAs refusal (checked_form r line last bytes)
      → RefusesAs refusal (read_line r line last bytes)
  line_refused =
      refuses_so Form Read (checked_form r line last bytes) (read_line r line last bytes)
      (passed_on (fault_of r line last bytes) (form_of (words_of bytes)) (behind r line (form_of (words_of bytes))))

  module _ (form : Form) (checked : checked_form r line last bytes ≡ Ok form) where
    nothing_wrong : (fault_of r line last bytes ≡ None) × (form ≡ form_of (words_of bytes))
    nothing_wrong = no_fault (fault_of r line last bytes) (form_of (words_of bytes)) form checked

    form_passes : Passes r form
    form_passes =
        subst (Passes r) (sym nothing_wrong.1)
        (passes r line last (form_of (words_of bytes)) (form_has_no_fault r line last bytes nothing_wrong.0)).0

    -- a line without a fault stands in its place
    pub form_in_place : in_place r form ≡ true
    form_in_place = form_passes.in_its_place

    -- and gives nothing twice
    pub form_once : is_twice r form ≡ false
    form_once = form_passes.is_new

    -- and is read
    pub form_taken : (next : Read) → next ≡ behind r line form → read_line r line last bytes ≡ Ok next
    form_taken next e =
        ap (λ fault. then_read fault (behind r line (form_of (words_of bytes))) Ok) nothing_wrong.0
        ∙ ap Ok (ap (behind r line) (sym nothing_wrong.1) ∙ sym e)
