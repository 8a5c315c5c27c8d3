-- What a line without a fault passes, test by test, and that what passes them has no fault.
use Rattle.std.proofs.Common.{◌≡◌, ℕ, Bool, true, false, not, ◌&&◌, ◌||◌, List, length, nat_lt, Option, None, Some}
use Rattle.std.proofs.Common.{if◌then◌else◌, refl, ◌∙◌}
use Rattle.std.proofs.lemmas.Bool.{le-ltb}
use Rattle.ssa_ir.specs.declared.limits.TheConstants.{MAX_LINE_BYTES}
use Rattle.ssa_lines.specs.Forms.{form_of}
use Rattle.ssa_lines.specs.Lines.{is_allowed}
use Rattle.ssa_lines.specs.Words.{words_of}
use Rattle.ssa_lines.specs.declared.forms.Form.{Form}
use Rattle.ssa_lines.specs.declared.refusal.LimitKind.{LimitKind}
use Rattle.ssa_lines.specs.declared.refusal.LimitKind.TheVariants.{LineBytes}
use Rattle.ssa_lines.specs.declared.refusal.TextFault.{TextFault}
use Rattle.ssa_lines.specs.declared.refusal.TextFault.TheVariants.{BadByte, BadLine, UnknownOp, NumberTooLarge}
use Rattle.ssa_lines.specs.declared.refusal.TextFault.TheVariants.{Duplicate, Limit}
use Rattle.ssa_text.specs.Reading.{Read, in_place, leaves_open, is_unknown, is_too_large, is_twice, limit_passed}
use Rattle.ssa_text.specs.Reading.{limit_of, fault_of_form, fault_of}
use Rattle.ssa_lines.proofs.FormFacts.{Spells}

-- the tests of a form, by what they answer, and what is passed of the limits
pub record AllPass (placed unknown large twice : Bool) (limit : Option LimitKind) : Type 0 where
  pub in_its_place : placed ≡ true
  pub is_known : unknown ≡ false
  pub is_small : large ≡ false
  pub is_new : twice ≡ false
  pub is_within : limit ≡ None

-- a line of this form may stand behind what was read
abbrev pub Passes : Read → Form → Type 0
Passes r form = AllPass (in_place r form) (is_unknown form) (is_too_large form) (is_twice r form) (limit_passed r form)

-- the first fault, by what the tests answer
abbrev first_fault : ℕ → (placed ends unknown large twice : Bool) → Option LimitKind → Option TextFault
first_fault line placed ends unknown large twice limit =
    if not placed || ends then Some (BadLine line)
    else if unknown then Some (UnknownOp line)
    else if large then Some (NumberTooLarge line)
    else if twice then Some (Duplicate line)
    else limit_of line limit

all_pass : (line : ℕ) (placed ends unknown large twice : Bool) (limit : Option LimitKind) →
    first_fault line placed ends unknown large twice limit ≡ None →
    AllPass placed unknown large twice limit × (ends ≡ false)
all_pass line false ends unknown large twice limit h = cc
all_pass line true true unknown large twice limit h = cc
all_pass line true false true large twice limit h = cc
all_pass line true false false true twice limit h = cc
all_pass line true false false false true limit h = cc
all_pass line true false false false false (Some kind) h = cc
all_pass line true false false false false None h =
    (record { in_its_place = refl; is_known = refl; is_small = refl; is_new = refl; is_within = refl }, refl)

-- a form without a fault passes each test, and is no last line that leaves a block open
pub passes : (r : Read) (line : ℕ) (last : Bool) (form : Form) → fault_of_form r line last form ≡ None →
    Passes r form × ((last && leaves_open r form) ≡ false)
passes r line last form h =
    all_pass line (in_place r form) (last && leaves_open r form) (is_unknown form) (is_too_large form)
    (is_twice r form) (limit_passed r form) h

-- and back
no_form_fault : (r : Read) (line : ℕ) (last : Bool) (form : Form) → Passes r form →
    (last && leaves_open r form) ≡ false → fault_of_form r line last form ≡ None
no_form_fault r line last form h e i =
    first_fault line (h.in_its_place i) (e i) (h.is_known i) (h.is_small i) (h.is_new i) (h.is_within i)

-- the first fault of a line, by what the tests of its bytes answer
abbrev first_of_line : ℕ → (long allowed : Bool) → Option TextFault → Option TextFault
first_of_line line long allowed fault =
    if long then Some (Limit LineBytes line) else if not allowed then Some (BadByte line) else fault

within : (line : ℕ) (long allowed : Bool) (fault : Option TextFault) →
    first_of_line line long allowed fault ≡ None → fault ≡ None
within line true allowed fault h = cc
within line false false fault h = cc
within line false true fault h = h

with_other : (line : ℕ) (long allowed : Bool) (fault other : Option TextFault) → (fault ≡ None → other ≡ None) →
    first_of_line line long allowed fault ≡ None → first_of_line line long allowed other ≡ None
with_other line true allowed fault other none h = cc
with_other line false false fault other none h = cc
with_other line false true fault other none h = none h

-- a line without a fault has a form without one
pub form_has_no_fault : (r : Read) (line : ℕ) (last : Bool) (bytes : List ℕ) → fault_of r line last bytes ≡ None →
    fault_of_form r line last (form_of (words_of bytes)) ≡ None
form_has_no_fault r line last bytes h =
    let fault : Option TextFault = fault_of_form r line last (form_of (words_of bytes)) in
    within line (nat_lt MAX_LINE_BYTES (length bytes)) (is_allowed bytes) fault h

-- a line without a fault has none where other lines stand behind it
pub none_with_more : (r : Read) (line : ℕ) (last : Bool) (bytes : List ℕ) → fault_of r line last bytes ≡ None →
    fault_of r line false bytes ≡ None
none_with_more r line last bytes h =
    let form : Form = form_of (words_of bytes) in
    with_other line (nat_lt MAX_LINE_BYTES (length bytes)) (is_allowed bytes) (fault_of_form r line last form)
    (fault_of_form r line false form) (λ e. no_form_fault r line false form (passes r line last form e).0 refl) h

-- a line that spells a form that passes has no fault
pub line_has_no_fault : (r : Read) (line : ℕ) (last : Bool) (form : Form) (bytes : List ℕ) →
    Spells bytes form → Passes r form → (last && leaves_open r form) ≡ false → fault_of r line last bytes ≡ None
line_has_no_fault r line last form bytes spelled h e =
    let short : nat_lt MAX_LINE_BYTES (length bytes) ≡ false = le-ltb MAX_LINE_BYTES (length bytes) spelled.short in
    (λ i. if short i then Some (Limit LineBytes line)
    else if not (spelled.allowed i) then Some (BadByte line)
    else fault_of_form r line last (spelled.form_is i))
    ∙ no_form_fault r line last form h e
