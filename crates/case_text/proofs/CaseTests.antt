-- What a line among cases without a fault passes, test by test.
use Rattle.std.proofs.Common.{◌≡◌, ℕ, Bool, true, false, not, nat_lt, List, length, Option, None, Some, Result, Ok}
use Rattle.std.proofs.Common.{if◌then◌else◌, refl}
use Rattle.ssa_ir.specs.declared.limits.TheConstants.{MAX_LINE_BYTES}
use Rattle.ssa_lines.specs.Limits.{limit_of}
use Rattle.ssa_lines.specs.Lines.{is_allowed}
use Rattle.ssa_lines.specs.Words.{words_of}
use Rattle.ssa_lines.specs.declared.refusal.LimitKind.{LimitKind}
use Rattle.ssa_lines.specs.declared.refusal.LimitKind.TheVariants.{LineBytes}
use Rattle.ssa_lines.specs.declared.refusal.TextFault.{TextFault}
use Rattle.ssa_lines.specs.declared.refusal.TextFault.TheVariants.{BadByte, BadLine, NumberTooLarge, Duplicate, Limit}
use Rattle.case_text.specs.CaseForms.{case_form_of}
use Rattle.case_text.specs.CaseReading.{CasesRead, in_place, is_too_large, is_twice, limit_passed, fault_of_form}
use Rattle.case_text.specs.CaseReading.{fault_of, then_read}
use Rattle.case_text.specs.declared.forms.CaseForm.{CaseForm}

-- the tests of a form, by what they answer, and what is passed of the limits
pub record AllPass (placed large twice : Bool) (limit : Option LimitKind) : Type 0 where
  pub in_its_place : placed ≡ true
  pub is_small : large ≡ false
  pub is_new : twice ≡ false
  pub is_within : limit ≡ None

-- a line of this form may stand behind what was read
abbrev pub Passes : CasesRead → CaseForm → Type 0
Passes r form = AllPass (in_place r form) (is_too_large form) (is_twice r form) (limit_passed r form)

-- the first fault, by what the tests answer
abbrev first_fault : ℕ → (placed large twice : Bool) → Option LimitKind → Option TextFault
first_fault line placed large twice limit =
    if not placed then Some (BadLine line)
    else if large then Some (NumberTooLarge line)
    else if twice then Some (Duplicate line)
    else limit_of line limit

all_pass : (line : ℕ) (placed large twice : Bool) (limit : Option LimitKind)
    → first_fault line placed large twice limit ≡ None → AllPass placed large twice limit
all_pass line false large twice limit h = cc
all_pass line true true twice limit h = cc
all_pass line true false true limit h = cc
all_pass line true false false (Some kind) h = cc
all_pass line true false false None h =
    record { in_its_place = refl; is_small = refl; is_new = refl; is_within = refl }

-- a form without a fault passes each test
pub passes : (r : CasesRead) (line : ℕ) (form : CaseForm) → fault_of_form r line form ≡ None → Passes r form
passes r line form h =
    all_pass line (in_place r form) (is_too_large form) (is_twice r form) (limit_passed r form) h

-- and back
pub no_form_fault : (r : CasesRead) (line : ℕ) (form : CaseForm) → Passes r form → fault_of_form r line form ≡ None
no_form_fault r line form h i =
    first_fault line (h.in_its_place i) (h.is_small i) (h.is_new i) (h.is_within i)

within : (line : ℕ) (long allowed : Bool) (fault : Option TextFault)
    → (if long then Some (Limit LineBytes line) else if not allowed then Some (BadByte line) else fault) ≡ None
    → fault ≡ None
within line true allowed fault h = cc
within line false false fault h = cc
within line false true fault h = h

-- a line without a fault has a form without one
pub form_has_no_fault : (r : CasesRead) (line : ℕ) (bytes : List ℕ) → fault_of r line bytes ≡ None
    → fault_of_form r line (case_form_of (words_of bytes)) ≡ None
form_has_no_fault r line bytes h =
    let fault : Option TextFault = fault_of_form r line (case_form_of (words_of bytes)) in
    within line (nat_lt MAX_LINE_BYTES (length bytes)) (is_allowed bytes) fault h

-- a line that was read has no fault, and the lines behind it were read
pub line_was_read : (fault : Option TextFault) (r end : CasesRead) (go : CasesRead → Result CasesRead TextFault)
    → then_read fault r go ≡ Ok end → (fault ≡ None) × (go r ≡ Ok end)
line_was_read None r end go h = (refl, h)
line_was_read (Some fault) r end go h = cc
