-- What is read of lines, one after the other.
use Rattle.std.proofs.Common.{◌≡◌, ℕ, ◌+◌, ◌≤◌, ◌==◌, Bool, true, false, ◌||◌, cond, List, [], ◌∷◌, length, Option}
use Rattle.std.proofs.Common.{None, Some, Result, Ok, Err, refl, sym, ap, ◌∙◌, arith}
use Rattle.std.proofs.lemmas.Bool.{ne_eqb}
use Rattle.ssa_lines.specs.Forms.{form_of}
use Rattle.ssa_lines.specs.Lines.{lines_of}
use Rattle.ssa_lines.specs.Words.{words_of}
use Rattle.ssa_lines.specs.declared.refusal.TextFault.{TextFault}
use Rattle.ssa_lines.specs.declared.refusal.TextRefusal.{TextRefusal}
use Rattle.ssa_text.specs.CaseSplit.{is_case_line, through_case}
use Rattle.ssa_text.specs.Reading.{Read, nothing, has_open_block, fault_of, behind, then_read, read_line, read_from}
use Rattle.ssa_text.specs.Reading.{is_last}
use Rattle.ssa_lines.specs.ReadsAs.{RefusesAs}
use Rattle.ssa_lines.proofs.RefusalLemmas.{refuses_so}
use Rattle.ssa_text.proofs.SplitLemmas.{few_lines_of}
use Rattle.ssa_text.proofs.TakenLemmas.{closed_when_read}

-- a line and then the others
one_line : (fault : Option TextFault) (next : Read) (go : Read → Result Read TextFault) (read : Read)
    → then_read fault next Ok ≡ Ok read → then_read fault next go ≡ go read
one_line (Some fault) next go read e = cc
one_line None next go read e = let same : next ≡ read = cc in ap go same

one_fault : (fault : Option TextFault) (next : Read) (go : Read → Result Read TextFault) (first : TextFault)
    → then_read fault next Ok ≡ Err first → then_read fault next go ≡ Err first
one_fault (Some fault) next go first e = e
one_fault None next go first e = cc

-- through the first case there are no lines exactly where there are none at all
last_through : (lines : List (List ℕ)) → (length lines == 0) ≡ is_last (through_case lines)
last_through [] = refl
last_through (line ∷ lines) = ne_eqb (length (line ∷ lines)) 0 (λ e. omega arith) ∙ by_test (is_case_line line)
  where
    by_test : (b : Bool) → false ≡ is_last (cond b (line ∷ []) (line ∷ through_case lines))
    by_test true = refl
    by_test false = refl

-- what is read of the lines left, behind what was read, is what is read of all
pub record GoesOn (text : List ℕ) (r : Read) (number : ℕ) (lines : List (List ℕ)) : Type 0 where
  pub exact : read_from r number (through_case lines) ≡ read_from nothing 1 (through_case (lines_of text))
  pub count : number + length lines ≤ length text + 1

pub begun : (text : List ℕ) (r : Read) (lines : List (List ℕ)) → r ≡ nothing → lines ≡ lines_of text
    → GoesOn text r 1 lines
begun text r lines first all = record {
  exact = λ i. read_from (first i) 1 (through_case (all i));
  count = omega (arith, few_lines_of text, ap length all);
}

-- the lines behind one of a case, or of none
abbrev pub left_behind : Bool → List (List ℕ) → List (List ℕ)
left_behind b left = cond b [] (through_case left)

through_line : (bytes : List ℕ) (left : List (List ℕ)) (b : Bool) → is_case_line bytes ≡ b
    → through_case (bytes ∷ left) ≡ bytes ∷ left_behind b left
through_line bytes left true e = ap (λ c. cond c (bytes ∷ []) (bytes ∷ through_case left)) e
through_line bytes left false e = ap (λ c. cond c (bytes ∷ []) (bytes ∷ through_case left)) e

ends_at : (b : Bool) (left : List (List ℕ)) → (b || (length left == 0)) ≡ is_last (left_behind b left)
ends_at true left = refl
ends_at false left = last_through left

module _ (text : List ℕ) (r : Read) (number : ℕ) (lines left : List (List ℕ)) (bytes : List ℕ) (last in_cases : Bool)
    (so_far : GoesOn text r number lines) (taken : lines ≡ bytes ∷ left) (test : in_cases ≡ is_case_line bytes)
    (at_end : last ≡ (in_cases || (length left == 0))) where
  ends : last ≡ is_last (left_behind in_cases left)
  ends = at_end ∙ ends_at in_cases left

  whole_is : read_from r number (bytes ∷ left_behind in_cases left) ≡ read_from nothing 1 (through_case (lines_of text))
  whole_is =
      ap (read_from r number) (sym (through_line bytes left in_cases (sym test)) ∙ ap through_case (sym taken))
      ∙ so_far.exact

  -- behind a line without a fault it goes on
  line_read : (next : Read) → read_line r number last bytes ≡ Ok next
      → read_from next (number + 1) (left_behind in_cases left) ≡ read_from nothing 1 (through_case (lines_of text))
  line_read next e =
      sym (one_line (fault_of r number (is_last (left_behind in_cases left)) bytes)
      (behind r number (form_of (words_of bytes)))
      (λ q. read_from q (number + 1) (left_behind in_cases left)) next
      (ap (λ b. read_line r number b bytes) (sym ends) ∙ e))
      ∙ whole_is

  pub goes_on : (next : Read) → read_line r number last bytes ≡ Ok next → in_cases ≡ false
      → GoesOn text next (number + 1) left
  goes_on next e other = record {
    exact = ap (λ b. read_from next (number + 1) (left_behind b left)) (sym other) ∙ line_read next e;
    count = omega (arith, so_far.count, ap length taken);
  }

  -- behind the first line of a case it is done
  pub case_reached : (next : Read) → read_line r number last bytes ≡ Ok next → in_cases ≡ true
      → read_from nothing 1 (through_case (lines_of text)) ≡ Ok next
  case_reached next e there =
      sym (line_read next e) ∙ ap (λ b. read_from next (number + 1) (left_behind b left)) there

  fault_stays : (fault : TextFault) → read_line r number last bytes ≡ Err fault
      → read_from nothing 1 (through_case (lines_of text)) ≡ Err fault
  fault_stays fault e =
      sym whole_is
      ∙ one_fault (fault_of r number (is_last (left_behind in_cases left)) bytes)
      (behind r number (form_of (words_of bytes)))
      (λ q. read_from q (number + 1) (left_behind in_cases left)) fault
      (ap (λ b. read_line r number b bytes) (sym ends) ∙ e)

  -- a line with a fault ends it
  pub refused_there : (refusal : TextRefusal) → RefusesAs refusal (read_line r number last bytes)
      → RefusesAs refusal (read_from nothing 1 (through_case (lines_of text)))
  refused_there =
      refuses_so Read Read (read_line r number last bytes) (read_from nothing 1 (through_case (lines_of text)))
      fault_stays

-- behind all lines
pub all_read : (text : List ℕ) (r : Read) (number : ℕ) (lines : List (List ℕ)) → GoesOn text r number lines → lines ≡ []
    → read_from nothing 1 (through_case (lines_of text)) ≡ Ok r
all_read text r number lines so_far none = sym so_far.exact ∙ ap (λ l. read_from r number (through_case l)) none

-- no block goes on there
pub closed_there : (text : List ℕ) (r : Read) → read_from nothing 1 (through_case (lines_of text)) ≡ Ok r
    → has_open_block r.func ≡ false
closed_there text = closed_when_read (through_case (lines_of text))
