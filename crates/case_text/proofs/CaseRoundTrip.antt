-- Cases print to a text that reads back as they were.
use Rattle.std.proofs.Common.{◌≡◌, ℕ, ◌+◌, ◌≤◌, ◌<◌, List, [], ◌∷◌, ◌++◌, length, length-append, codes, decimal, Option}
use Rattle.std.proofs.Common.{None, Some, Ok, All, refl, sym, ap, ◌∙◌, arith, append_assoc, append-nil}
use Rattle.std.specs.List.{flat_map}
use Rattle.std.specs.Option.{option_or}
use Rattle.std.proofs.lemmas.List.Elements.{All-head, All-tail}
use Rattle.ssa_ir.specs.declared.limits.TheConstants.{MAX_BOUND, MAX_CASES}
use Rattle.ssa_ir.specs.declared.case.Case.{Case}
use Rattle.ssa_lines.specs.Lines.{lines_of}
use Rattle.ssa_lines.specs.declared.forms.Spelled.TheVariants.{Fits}
use Rattle.ssa_lines.specs.declared.refusal.LimitKind.TheVariants.{Cases, Bound}
use Rattle.case_text.specs.CaseForms.{head_of}
use Rattle.case_text.specs.CaseReading.{CasesRead, cases_read, no_cases, whole_case, with_case, absent_at, begin_case}
use Rattle.case_text.specs.CaseReading.{read_from, cases_or_unknown, finished, read_cases}
use Rattle.case_text.specs.CaseText.{inputs_text, reply_text, name_at, case_head, case_text, cases_text}
use Rattle.case_text.specs.declared.forms.CaseForm.TheVariants.{Head}
use Rattle.case_text.specs.declared.partial.OpenCase.{OpenCase}
use Rattle.case_text.proofs.CaseFacts.{CaseFacts, CasesFacts}
use Rattle.case_text.proofs.CaseInputs.{going, open_case, not_over, not_full, inputs_lead}
use Rattle.case_text.proofs.CaseLineTexts.{two_words_line, two_words_ended, spells_head}
use Rattle.case_text.proofs.CaseParts.{leads_text}
use Rattle.case_text.proofs.CaseReplies.{all_more, whole_case-all_more, replies_lead}
use Rattle.case_text.proofs.CaseSteps.{CasePasses, Leads, leads_nowhere, leads_append}

-- the case of this name that its first line begins
abbrev begun : List ℕ → Case → OpenCase
begun name c = begin_case (Some c.func) (head_of name c.bound)

module _ (names : List (List ℕ)) where
  -- the first line of a case begins it, behind the cases so far
  head_leads : (cases : List Case) (current : Option OpenCase) (c : Case) → CaseFacts names c →
      length (with_case cases current) < MAX_CASES →
      Leads names (case_head (name_at names c.func) c) (cases_read cases current None)
      (going (with_case cases current) (begun (name_at names c.func) c))
  head_leads cases current c h few =
      let name : List ℕ = name_at names c.func in
      let r : CasesRead = cases_read cases current None in
      let pass : CasePasses r (Head (Fits (head_of name c.bound))) = record {
        placed = refl;
        fits = refl;
        once = refl;
        within =
            λ i.
            option_or (not_full MAX_CASES (length (with_case cases current)) Cases few i)
            (not_over MAX_BOUND c.bound Bound h.bound i);
      } in
      leads_text names (case_head name c) (two_words_line (codes "case") name (decimal c.bound))
      (Head (Fits (head_of name c.bound))) r (going (with_case cases current) (begun name c))
      (two_words_ended (codes "case") name (decimal c.bound)) (spells_head name c.bound h.name h.bound) pass
      (λ n i.
      cases_read (with_case cases current) (Some (begin_case (h.found i) (head_of name c.bound)))
      (absent_at n (h.found i)))

  -- a case leads to itself
  case_leads : (cases : List Case) (current : Option OpenCase) (c : Case) → CaseFacts names c →
      length (with_case cases current) < MAX_CASES →
      Leads names (case_text (name_at names c.func) c) (cases_read cases current None)
      (going (with_case cases current) (all_more (open_case c) c.replies))
  case_leads cases current c h few =
      let name : List ℕ = name_at names c.func in
      let r : CasesRead = cases_read cases current None in
      let before : List Case = with_case cases current in
      let end : CasesRead = going before (all_more (open_case c) c.replies) in
      let replies =
      replies_lead names before (open_case c) c.replies h.replies (omega (arith, h.few_replies))
      (omega (arith, h.few_bytes))
      in
      leads_append names (case_head name c) (inputs_text c ++ flat_map reply_text c.replies) r
      (going before (begun name c)) end (head_leads cases current c h few)
      (leads_append names (inputs_text c) (flat_map reply_text c.replies) (going before (begun name c))
      (going before (open_case c)) end (inputs_lead names before name c h) replies)

-- where it is open, it is whole
whole_again : (c : Case) → whole_case (all_more (open_case c) c.replies) ≡ c
whole_again c = whole_case-all_more (open_case c) c.replies

-- these cases were read behind those so far
pub record CasesLead (names : List (List ℕ)) (r : CasesRead) (cases : List Case) : Type 0 where
  pub end : CasesRead
  pub leads : Leads names (cases_text names cases) r end
  pub cases_are : with_case end.cases end.current ≡ with_case r.cases r.current ++ cases
  pub all_found : end.unknown ≡ None

cases_lead : (names : List (List ℕ)) (before : List Case) (current : Option OpenCase) (cases : List Case) →
    All (CaseFacts names) cases → length (with_case before current) + length cases ≤ MAX_CASES →
    CasesLead names (cases_read before current None) cases
cases_lead names before current [] all few = record {
  end = cases_read before current None;
  leads = leads_nowhere names (cases_read before current None);
  cases_are = sym (append-nil (with_case before current));
  all_found = refl;
}
cases_lead names before current (c ∷ cases) all few =
    let r : CasesRead = cases_read before current None in
    let so_far : List Case = with_case before current in
    let opened : OpenCase = all_more (open_case c) c.replies in
    let one : with_case so_far (Some opened) ≡ so_far ++ c ∷ [] = ap (λ x. so_far ++ x ∷ []) (whole_again c) in
    let longer = ap length one ∙ length-append so_far (c ∷ []) in
    let here = case_leads names before current c (All-head (CaseFacts names) c cases all) (omega (arith, few)) in
    let later =
    cases_lead names so_far (Some opened) cases (All-tail (CaseFacts names) c cases all) (omega (arith, few, longer))
    in
    record {
      end = later.end;
      leads =
          leads_append names (case_text (name_at names c.func) c) (cases_text names cases) r (going so_far opened)
          later.end here later.leads;
      cases_are = later.cases_are ∙ ap (λ l. l ++ cases) one ∙ append_assoc so_far (c ∷ []) cases;
      all_found = later.all_found;
    }

-- the text of these cases is read, with lines numbered from `first`, and gives them
pub record CasesReadBack (names : List (List ℕ)) (cases : List Case) (first : ℕ) : Type 0 where
  pub end : CasesRead
  pub were_read : read_from names no_cases first (lines_of (cases_text names cases)) ≡ Ok end
  pub cases_are : with_case end.cases end.current ≡ cases
  pub all_found : end.unknown ≡ None

pub cases_read_back : (names : List (List ℕ)) (cases : List Case) → CasesFacts names cases → (first : ℕ) →
    CasesReadBack names cases first
cases_read_back names cases h first =
    let all = cases_lead names [] None cases h.each (omega (arith, h.few)) in
    let text : List ℕ = cases_text names cases in
    record {
      end = all.end;
      were_read =
          ap (λ t. read_from names no_cases first (lines_of t)) (sym (append-nil text)) ∙ (all.leads.read first []).1;
      cases_are = all.cases_are;
      all_found = all.all_found;
    }

-- cases with these facts read back from their printed text as they were
pub reads_printed : (names : List (List ℕ)) (cases : List Case) → CasesFacts names cases → (first : ℕ) →
    read_cases names first (cases_text names cases) ≡ Ok cases
reads_printed names cases h first =
    let again = cases_read_back names cases h first in
    ap finished again.were_read ∙ (λ i. cases_or_unknown (again.cases_are i) (again.all_found i))
