-- Cases that were read have the facts of cases.
use Rattle.std.proofs.Common.{◌≡◌, ℕ, ◌+◌, List, [], ◌∷◌, Option, None, Some, Result, Ok, Err, refl, subst}
use Rattle.ssa_ir.specs.declared.case.Case.{Case}
use Rattle.ssa_lines.specs.Lines.{lines_of}
use Rattle.ssa_lines.specs.Words.{words_of}
use Rattle.ssa_lines.specs.declared.refusal.TextFault.{TextFault}
use Rattle.case_text.specs.CaseForms.{case_form_of}
use Rattle.case_text.specs.CaseReading.{CasesRead, no_cases, with_case, fault_of, behind, read_from, cases_or_unknown}
use Rattle.case_text.specs.CaseReading.{finished, read_cases}
use Rattle.case_text.proofs.CaseFacts.{CasesFacts}
use Rattle.case_text.proofs.CaseFormLemmas.{case_form_facts}
use Rattle.case_text.proofs.CaseLineLemmas.{ReadKept, read_kept_behind}
use Rattle.case_text.proofs.CasesKept.{facts_kept, none_kept}
use Rattle.case_text.proofs.CaseTests.{form_has_no_fault, line_was_read}

-- behind no lines stands what was read before them
same_read : (r s : CasesRead) → (◌≡◌ {A = Result CasesRead TextFault} (Ok r) (Ok s)) → r ≡ s
same_read r s h = cc

-- all lines keep what was read
kept_to_end : (names : List (List ℕ)) (r s : CasesRead) (line : ℕ) (lines : List (List ℕ)) → ReadKept names r
    → read_from names r line lines ≡ Ok s → ReadKept names s
kept_to_end names r s line [] kept e = subst (ReadKept names) (same_read r s e) kept
kept_to_end names r s line (bytes ∷ lines) kept e =
    let form = case_form_of (words_of bytes) in
    let next = behind names r line form in
    let parts = line_was_read (fault_of r line bytes) next s (λ q. read_from names q (line + 1) lines) e in
    let fault = form_has_no_fault r line bytes parts.0 in
    let here = read_kept_behind names r line form kept fault (case_form_facts (words_of bytes)) in
    kept_to_end names next s (line + 1) lines here parts.1

-- lines that are read, each function found, give cases with these facts
pub facts_of_read : (names : List (List ℕ)) (first : ℕ) (lines : List (List ℕ)) (r : CasesRead)
    → read_from names no_cases first lines ≡ Ok r → r.unknown ≡ None → CasesFacts names (with_case r.cases r.current)
facts_of_read names first lines r e known =
    let kept : ReadKept names r = kept_to_end names no_cases r first lines (λ none. none_kept names) e in
    facts_kept names r.cases r.current (kept known)

all_found : (cases given : List Case) (unknown : Option ℕ) → cases_or_unknown cases unknown ≡ Ok given
    → (unknown ≡ None) × (cases ≡ given)
all_found cases given None e = (refl, cc)
all_found cases given (Some line) e = cc

-- and so does a text that spells cases
pub facts_of_cases : (names : List (List ℕ)) (first : ℕ) (text : List ℕ) (cases : List Case)
    → read_cases names first text ≡ Ok cases → CasesFacts names cases
facts_of_cases names first text cases e = go (read_from names no_cases first (lines_of text)) refl e
  where
    go : (o : Result CasesRead TextFault) → read_from names no_cases first (lines_of text) ≡ o
        → finished o ≡ Ok cases → CasesFacts names cases
    go (Err fault) read e = cc
    go (Ok r) read e =
        let parts = all_found (with_case r.cases r.current) cases r.unknown e in
        subst (CasesFacts names) parts.1 (facts_of_read names first (lines_of text) r read parts.0)
