-- What was read from any lines is read from canonical lines: each form that was taken is taken again from its own.
use Rattle.std.proofs.Common.{◌≡◌, ℕ, ◌+◌, Bool, true, false, ◌&&◌, List, [], ◌∷◌, ◌++◌, None, Ok, All, refl, sym, ap}
use Rattle.std.proofs.Common.{subst, ◌∙◌, true≢false}
use Rattle.std.specs.List.{flat_map}
use Rattle.std.proofs.lemmas.List.{append_assoc, append-nil}
use Rattle.std.proofs.lemmas.List.Elements.{All-nil, All-cons}
use Rattle.ssa_lines.specs.Forms.{form_of}
use Rattle.ssa_lines.specs.Words.{words_of}
use Rattle.ssa_lines.specs.declared.forms.Form.{Form}
use Rattle.ssa_lines.specs.declared.forms.Form.TheVariants.{Blank, Case, Sig as SigForm, Func as FuncForm}
use Rattle.ssa_lines.specs.declared.forms.Form.TheVariants.{Block as BlockForm, Value as ValueForm}
use Rattle.ssa_lines.specs.declared.forms.Form.TheVariants.{Control as ControlForm, Bad}
use Rattle.ssa_lines.proofs.LineLemmas.{HasNoNewline}
use Rattle.ssa_text.specs.Reading.{Read, has_open_block, leaves_open, fault_of, behind, then_read, is_last, read_from}
use Rattle.ssa_text.proofs.AlikeReads.{Alike, alike_passes, alike_behind}
use Rattle.ssa_text.proofs.CaseLines.{NoCase, begins_no_case}
use Rattle.ssa_lines.proofs.FormFacts.{FormFacts, Spells}
use Rattle.ssa_text.proofs.FormFactsLemmas.{form_facts}
use Rattle.ssa_text.proofs.FormTests.{Passes, passes, form_has_no_fault, line_has_no_fault}
use Rattle.ssa_text.proofs.FormTexts.{is_left_out, line_of, spells_form}
use Rattle.ssa_text.proofs.OpenBlocks.{line_was_read, same_read, left_open, last_is_closed}
use Rattle.ssa_text.proofs.TextSoFar.{ended, text_so_far, SigsFirst, sigs_stay_first, text_behind}

-- canonical lines that are read from this line on behind s, give the like of `end`, and are what its text has beyond r
pub record Replayed (r s : Read) (line : ℕ) (end : Read) : Type 0 where
  pub lines : List (List ℕ)
  pub last : Read
  pub were_read : read_from s line lines ≡ Ok last
  pub alike : Alike end last
  pub text : text_so_far end ≡ text_so_far r ++ flat_map ended lines
  pub each : All HasNoNewline lines
  pub no_case : All NoCase lines

-- a line with a form, in front of those that were replayed
replay_form : (r s end : Read) (i j : ℕ) (form : Form) → SigsFirst r → Passes r form → Passes s form →
    Spells (line_of form) form → is_left_out form ≡ false → has_open_block end.func ≡ false →
    Replayed (behind r i form) (behind s j form) (j + 1) end → Replayed r s j end
replay_form r s end i j form first h k spelled full closed rest =
    let line : List ℕ = line_of form in
    let last_closed : has_open_block rest.last.func ≡ false =
    ap (λ (x : Read). has_open_block x.func) (sym rest.alike.read) ∙ closed
    in
    let ends : (is_last rest.lines && leaves_open s form) ≡ false =
    ap (λ b. is_last rest.lines && b) (left_open s j form k)
    ∙ last_is_closed (behind s j form) rest.last (j + 1) rest.lines rest.were_read last_closed
    in
    let no_fault : fault_of s j (is_last rest.lines) line ≡ None =
    line_has_no_fault s j (is_last rest.lines) form line spelled k ends
    in
    record {
      lines = line ∷ rest.lines;
      last = rest.last;
      were_read =
          (λ e. then_read (no_fault e) (behind s j (spelled.form_is e)) (λ next. read_from next (j + 1) rest.lines))
          ∙ rest.were_read;
      alike = rest.alike;
      text =
          rest.text
          ∙ ap (λ l. l ++ flat_map ended rest.lines) (text_behind r i form first h full)
          ∙ append_assoc (text_so_far r) (ended line) (flat_map ended rest.lines);
      each = All-cons HasNoNewline line rest.lines spelled.one_line rest.each;
      no_case =
          All-cons NoCase line rest.lines
          (begins_no_case line (ap is_left_out spelled.form_is ∙ full)) rest.no_case;
    }

-- a line that is left out changes nothing
left_out_stays : (r : Read) (line : ℕ) (form : Form) → is_left_out form ≡ true → behind r line form ≡ r
left_out_stays r line Blank e = refl
left_out_stays r line Case e = refl
left_out_stays r line Bad e = refl
left_out_stays r line (SigForm s) e = absurd (true≢false (sym e))
left_out_stays r line (FuncForm s) e = absurd (true≢false (sym e))
left_out_stays r line (BlockForm b) e = absurd (true≢false (sym e))
left_out_stays r line (ValueForm v) e = absurd (true≢false (sym e))
left_out_stays r line (ControlForm c) e = absurd (true≢false (sym e))

-- all lines: the blank ones are left out, and the first one of a case
pub replay : (r s end : Read) (i j : ℕ) (lines : List (List ℕ)) → SigsFirst r → Alike r s →
    has_open_block end.func ≡ false → read_from r i lines ≡ Ok end → Replayed r s j end
replay r s end i j [] first alike closed h =
    let same : r ≡ end = same_read r end h in
    record {
      lines = [];
      last = s;
      were_read = refl;
      alike = subst (λ (x : Read). Alike x s) same alike;
      text = ap text_so_far (sym same) ∙ sym (append-nil (text_so_far r));
      each = All-nil HasNoNewline;
      no_case = All-nil NoCase;
    }
replay r s end i j (bytes ∷ lines) first alike closed h =
    let form : Form = form_of (words_of bytes) in
    let last : Bool = is_last lines in
    let step = line_was_read (fault_of r i last bytes) (behind r i form) end (λ x. read_from x (i + 1) lines) h in
    let here : Passes r form = (passes r i last form (form_has_no_fault r i last bytes step.0)).0 in
    let still : SigsFirst (behind r i form) = sigs_stay_first r i form first in
    go form (is_left_out form) refl here (form_facts (words_of bytes))
    (λ t k like. replay (behind r i form) t end (i + 1) k lines still like closed step.1)
  where
    go : (form : Form) (b : Bool) → is_left_out form ≡ b → Passes r form → FormFacts form →
        ((t : Read) (k : ℕ) → Alike (behind r i form) t → Replayed (behind r i form) t k end) → Replayed r s j end
    go form true e here facts rest =
        let same : behind r i form ≡ r = left_out_stays r i form e in
        subst (λ (x : Read). Replayed x s j end) same (rest s j (subst (λ (x : Read). Alike x s) (sym same) alike))
    go form false e here facts rest =
        replay_form r s end i j form first here (alike_passes r s form alike here) (spells_form r form here facts e) e
        closed (rest (behind s j form) (j + 1) (alike_behind r s i j form alike))
