-- What text a unit is read from: the lines of its signatures and functions, and then those of its cases.
use Rattle.std.specs.Prelude.{ℕ, List, map, Result, Ok, Err}
use Rattle.std.specs.Option.{option_or}
use Rattle.ssa_ir.specs.declared.func.SsaUnit.{SsaUnit}
use Rattle.ssa_lines.specs.Lines.{lines_of}
use Rattle.ssa_lines.specs.declared.refusal.TextFault.{TextFault}
use Rattle.case_text.specs.CaseReading.{CasesRead, no_cases, with_case, read_from as read_cases_from}
use Rattle.ssa_text.specs.CaseSplit.{case_line, from_case, through_case}
use Rattle.ssa_text.specs.Reading.{Read, nothing, read_from, unit_or_unknown, unknown_line, with_whole}

-- the names of the functions that were read
abbrev pub function_names : Read → List (List ℕ)
function_names r = map (λ f. f.sig.name) (with_whole r.funcs r.func)

-- the unit of what was read and these cases, where all that is named is there
abbrev pub unit_with : Read → CasesRead → Result SsaUnit TextFault
unit_with r c =
    unit_or_unknown
    (record { sigs = r.sigs; funcs = with_whole r.funcs r.func; cases = with_case c.cases c.current })
    (option_or (unknown_line r) c.unknown)

abbrev pub with_cases : Read → Result CasesRead TextFault → Result SsaUnit TextFault
with_cases r (Ok c) = unit_with r c
with_cases r (Err fault) = Err fault

-- behind what was read stand the lines of cases, numbered from `first`
abbrev pub cases_behind : Result Read TextFault → (first : ℕ) → List (List ℕ) → Result SsaUnit TextFault
cases_behind (Ok r) first lines = with_cases r (read_cases_from (function_names r) no_cases first lines)
cases_behind (Err fault) first lines = Err fault

-- the unit that a text spells, or its first fault. The first line of a case is looked at twice: it must have its place
-- behind the functions, and then begins a case
abbrev pub read_unit : List ℕ → Result SsaUnit TextFault
read_unit text =
    cases_behind (read_from nothing 1 (through_case (lines_of text))) (case_line text) (from_case (lines_of text))
