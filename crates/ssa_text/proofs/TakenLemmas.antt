-- What is known of a line without a fault, and of all lines that are read without one.
use Rattle.std.proofs.Common.{◌≡◌, ℕ, ◌+◌, Bool, true, false, List, [], ◌∷◌, Ok, None, subst, sym, ap, ◌∙◌}
use Rattle.ssa_lines.specs.Forms.{form_of}
use Rattle.ssa_lines.specs.Words.{words_of}
use Rattle.ssa_lines.specs.declared.forms.Form.{Form}
use Rattle.ssa_text.specs.Reading.{Read, nothing, has_open_block, fault_of_form, fault_of, is_last, read_from, behind}
use Rattle.ssa_lines.proofs.FormFacts.{FormFacts}
use Rattle.ssa_text.proofs.FormFactsLemmas.{form_facts}
use Rattle.ssa_text.proofs.FormTests.{passes, form_has_no_fault}
use Rattle.ssa_text.proofs.LimitFacts.{form_limits, room_for_form}
use Rattle.ssa_text.proofs.OpenBlocks.{left_open, line_was_read, same_read}
use Rattle.ssa_text.proofs.ReadFacts.{Taken}

-- a line without a fault stands in its place, gives nothing twice, and keeps the limits
pub taken : (r : Read) (line : ℕ) (last : Bool) (form : Form) → fault_of_form r line last form ≡ None
    → FormFacts form → Taken r form
taken r line last form fault facts =
    let passed = (passes r line last form fault).0 in record {
      place = passed.in_its_place;
      small = passed.is_small;
      once = passed.is_new;
      limits = form_limits r form passed.is_within;
      room = room_for_form r form passed.is_within;
      facts = facts;
    }

-- ---- all lines

-- what each line without a fault keeps, they all keep
pub kept_to_end : (P : Read → Type 0)
    → ((r : Read) (line : ℕ) (last : Bool) (form : Form) → P r → fault_of_form r line last form ≡ None
    → FormFacts form → P (behind r line form))
    → (r s : Read) (line : ℕ) (lines : List (List ℕ)) → P r → read_from r line lines ≡ Ok s → P s
kept_to_end P keeps r s line [] h e = subst P (same_read r s e) h
kept_to_end P keeps r s line (bytes ∷ lines) h e =
    let form = form_of (words_of bytes) in
    let last = is_last lines in
    let parts = line_was_read (fault_of r line last bytes) (behind r line form) s
    (λ next. read_from next (line + 1) lines) e
    in
    let here = keeps r line last form h (form_has_no_fault r line last bytes parts.0) (form_facts (words_of bytes)) in
    kept_to_end P keeps (behind r line form) s (line + 1) lines here parts.1

-- no block goes on behind the last line
pub closed_at_end : (r s : Read) (line : ℕ) (bytes : List ℕ) (lines : List (List ℕ))
    → read_from r line (bytes ∷ lines) ≡ Ok s → has_open_block s.func ≡ false
closed_at_end r s line bytes [] e =
    let form = form_of (words_of bytes) in
    let parts = line_was_read (fault_of r line true bytes) (behind r line form) s
    (λ next. read_from next (line + 1) []) e
    in
    let passed = passes r line true form (form_has_no_fault r line true bytes parts.0) in
    let closed = sym (left_open r line form passed.0) ∙ passed.1 in
    subst (λ (q : Read). has_open_block q.func ≡ false) (same_read (behind r line form) s parts.1) closed
closed_at_end r s line bytes (other ∷ lines) e =
    let form = form_of (words_of bytes) in
    let parts = line_was_read (fault_of r line false bytes) (behind r line form) s
    (λ next. read_from next (line + 1) (other ∷ lines)) e
    in
    closed_at_end (behind r line form) s (line + 1) other lines parts.1

-- nor behind any lines that are read from the first on
pub closed_when_read : (lines : List (List ℕ)) (r : Read) → read_from nothing 1 lines ≡ Ok r
    → has_open_block r.func ≡ false
closed_when_read [] r e = sym (ap (λ (q : Read). has_open_block q.func) (same_read nothing r e))
closed_when_read (bytes ∷ lines) r e = closed_at_end nothing r 1 bytes lines e
