-- What is read of lines, one after the other.
use Rattle.std.proofs.Common.{◌≡◌, ℕ, ◌+◌, ◌≤◌, List, ◌∷◌, length, Option, None, Some, Result, Ok, Err, sym, ap, ◌∙◌}
use Rattle.std.proofs.Common.{arith}
use Rattle.ssa_lines.specs.Lines.{lines_of}
use Rattle.ssa_lines.specs.ReadsAs.{RefusesAs}
use Rattle.ssa_lines.specs.Words.{words_of}
use Rattle.ssa_lines.specs.declared.refusal.TextFault.{TextFault}
use Rattle.ssa_lines.specs.declared.refusal.TextRefusal.{TextRefusal}
use Rattle.ssa_lines.proofs.RefusalLemmas.{refuses_so}
use Rattle.case_text.specs.CaseForms.{case_form_of}
use Rattle.case_text.specs.CaseReading.{CasesRead, no_cases, fault_of, behind, then_read, read_line, read_from}
use Rattle.case_text.proofs.LineCounts.{few_lines_of}

-- a line and then the others
one_line : (fault : Option TextFault) (next : CasesRead) (go : CasesRead → Result CasesRead TextFault)
    (read : CasesRead) → then_read fault next Ok ≡ Ok read → then_read fault next go ≡ go read
one_line (Some fault) next go read e = cc
one_line None next go read e = let same : next ≡ read = cc in ap go same

one_fault : (fault : Option TextFault) (next : CasesRead) (go : CasesRead → Result CasesRead TextFault)
    (first : TextFault) → then_read fault next Ok ≡ Err first → then_read fault next go ≡ Err first
one_fault (Some fault) next go first e = e
one_fault None next go first e = cc

-- what is read of the lines left, behind what was read, is what is read of all from the first on
pub record GoesOn (names : List (List ℕ)) (text : List ℕ) (first : ℕ) (r : CasesRead) (number : ℕ)
    (lines : List (List ℕ)) : Type 0 where
  pub exact : read_from names r number lines ≡ read_from names no_cases first (lines_of text)
  pub count : number + length lines ≤ first + (length text + 1)

module _ (names : List (List ℕ)) (text : List ℕ) (first : ℕ) where
  pub begun : (r : CasesRead) (lines : List (List ℕ)) → r ≡ no_cases → lines ≡ lines_of text
      → GoesOn names text first r first lines
  begun r lines nothing all = record {
    exact = λ i. read_from names (nothing i) first (all i);
    count = omega (arith, few_lines_of text, ap length all);
  }

  module _ (r : CasesRead) (number : ℕ) (lines left : List (List ℕ)) (bytes : List ℕ)
      (so_far : GoesOn names text first r number lines) (taken : lines ≡ bytes ∷ left) where
    whole_is : read_from names r number (bytes ∷ left) ≡ read_from names no_cases first (lines_of text)
    whole_is = ap (read_from names r number) (sym taken) ∙ so_far.exact

    -- behind a line without a fault it goes on
    pub goes_on : (next : CasesRead) → read_line names r number bytes ≡ Ok next
        → GoesOn names text first next (number + 1) left
    goes_on next e = record {
      exact =
          sym (one_line (fault_of r number bytes) (behind names r number (case_form_of (words_of bytes)))
          (λ q. read_from names q (number + 1) left) next e)
          ∙ whole_is;
      count = omega (arith, so_far.count, ap length taken);
    }

    fault_stays : (fault : TextFault) → read_line names r number bytes ≡ Err fault
        → read_from names no_cases first (lines_of text) ≡ Err fault
    fault_stays fault e =
        sym whole_is
        ∙ one_fault (fault_of r number bytes) (behind names r number (case_form_of (words_of bytes)))
        (λ q. read_from names q (number + 1) left) fault e

    -- a line with one ends it
    pub refused_there : (refusal : TextRefusal) → RefusesAs refusal (read_line names r number bytes)
        → RefusesAs refusal (read_from names no_cases first (lines_of text))
    refused_there =
        refuses_so CasesRead CasesRead (read_line names r number bytes) (read_from names no_cases first (lines_of text))
        fault_stays
