-- What is answered of a text by what is answered of its two parts.
use Rattle.std.proofs.Common.{◌≡◌, ℕ, List, drop, Result, Ok, Err, sym, ap, subst, ◌∙◌}
use Rattle.std.specs.Option.{option_or}
use Rattle.ssa_ir.specs.declared.func.SsaUnit.{SsaUnit}
use Rattle.ssa_lines.specs.Lines.{lines_of}
use Rattle.ssa_lines.specs.ReadsAs.{ReadsAs, RefusesAs}
use Rattle.ssa_lines.specs.declared.refusal.TextFault.{TextFault}
use Rattle.ssa_lines.specs.declared.refusal.TextRefusal.{TextRefusal}
use Rattle.ssa_lines.proofs.RefusalLemmas.{refuses_so}
use Rattle.case_text.specs.declared.read.CasePart.{CasePart}
use Rattle.case_text.specs.CaseReading.{CasesRead, no_cases, case_part, part_of, read_from as read_cases_from}
use Rattle.ssa_text.specs.CaseSplit.{case_line, case_offset, from_case, through_case}
use Rattle.ssa_text.specs.Reading.{Read, nothing, read_from, unit_or_unknown, unknown_line, with_whole}
use Rattle.ssa_text.specs.UnitReading.{function_names, with_cases, cases_behind, read_unit}
use Rattle.ssa_text.proofs.SplitLemmas.{lines_from_case}

-- the cases of a text, by where they begin
pub cases_there : (text part : List ℕ) (names given : List (List ℕ)) (offset first : ℕ)
    (answer : Result CasePart TextRefusal)
    → offset ≡ case_offset text → first ≡ case_line text → part ≡ drop offset text → given ≡ names
    → ReadsAs answer (case_part (read_cases_from given no_cases first (lines_of part)))
    → ReadsAs answer (case_part (read_cases_from names no_cases (case_line text) (from_case (lines_of text))))
cases_there text part names given offset first answer at line cut same read =
    let lines : lines_of part ≡ from_case (lines_of text) =
    ap lines_of cut ∙ ap (λ k. lines_of (drop k text)) at ∙ lines_from_case text in
    subst (ReadsAs answer) (λ i. case_part (read_cases_from (same i) no_cases (line i) (lines i))) read

module _ (text : List ℕ) where
  abbrev cases_of : Read → Result CasesRead TextFault
  cases_of r = read_cases_from (function_names r) no_cases (case_line text) (from_case (lines_of text))

  -- what refuses the lines in front of the cases refuses the text
  pub unit_refused : (refusal : TextRefusal) → RefusesAs refusal (read_from nothing 1 (through_case (lines_of text)))
      → RefusesAs refusal (read_unit text)
  unit_refused =
      refuses_so Read SsaUnit (read_from nothing 1 (through_case (lines_of text))) (read_unit text)
      (λ fault e. ap (λ o. cases_behind o (case_line text) (from_case (lines_of text))) e)

  module _ (r : Read) (read : read_from nothing 1 (through_case (lines_of text)) ≡ Ok r) where
    with_unit : read_unit text ≡ with_cases r (cases_of r)
    with_unit = ap (λ o. cases_behind o (case_line text) (from_case (lines_of text))) read

    fault_stays : (o : Result CasesRead TextFault) (fault : TextFault) → case_part o ≡ Err fault
        → with_cases r o ≡ Err fault
    fault_stays (Ok c) fault e = cc
    fault_stays (Err other) fault e = let same : other ≡ fault = cc in ap Err same

    -- and so does what refuses the cases
    pub cases_refused : (refusal : TextRefusal) → RefusesAs refusal (case_part (cases_of r))
        → RefusesAs refusal (read_unit text)
    cases_refused =
        refuses_so CasePart SsaUnit (case_part (cases_of r)) (read_unit text)
        (λ fault e. with_unit ∙ fault_stays (cases_of r) fault e)

    abbrev unit_of_part : CasePart → Result SsaUnit TextFault
    unit_of_part part =
        unit_or_unknown (record { sigs = r.sigs; funcs = with_whole r.funcs r.func; cases = part.cases })
        (option_or (unknown_line r) part.unknown)

    part_stays : (o : Result CasesRead TextFault) (part : CasePart) → case_part o ≡ Ok part
        → with_cases r o ≡ unit_of_part part
    part_stays (Ok c) part e = let same : part_of c ≡ part = cc in ap unit_of_part same
    part_stays (Err fault) part e = cc

    -- else the unit is that of both
    pub unit_read : (part : CasePart) (answer : Result SsaUnit TextRefusal) → case_part (cases_of r) ≡ Ok part
        → ReadsAs answer (unit_of_part part) → ReadsAs answer (read_unit text)
    unit_read part answer cases h = subst (ReadsAs answer) (sym (with_unit ∙ part_stays (cases_of r) part cases)) h
