-- A text that a unit was read from has two parts: the lines of signatures and functions, and those of cases.
use Rattle.std.proofs.Common.{◌≡◌, ℕ, false, List, Option, None, Some, Result, Ok, Err, refl}
use Rattle.std.specs.Option.{option_or}
use Rattle.ssa_ir.specs.declared.case.Case.{Case}
use Rattle.ssa_ir.specs.declared.func.SsaUnit.{SsaUnit}
use Rattle.ssa_lines.specs.Lines.{lines_of}
use Rattle.ssa_lines.specs.declared.refusal.TextFault.{TextFault}
use Rattle.case_text.specs.CaseReading.{CasesRead, no_cases, with_case, read_from as read_cases_from}
use Rattle.ssa_text.specs.CaseSplit.{case_line, from_case, through_case}
use Rattle.ssa_text.specs.Reading.{Read, nothing, has_open_block, unknown_line, read_from, unit_or_unknown}
use Rattle.ssa_text.specs.UnitReading.{function_names, with_cases, cases_behind, read_unit}
use Rattle.ssa_lines.proofs.LimitLemmas.{neither}
use Rattle.ssa_text.proofs.TakenLemmas.{closed_when_read}
use Rattle.ssa_text.proofs.WellFormedRead.{unit_of}

abbrev pub all_cases : CasesRead → List Case
all_cases c = with_case c.cases c.current

-- both parts, in which all is there that they name
pub record UnitParts (text : List ℕ) (u : SsaUnit) : Type 0 where
  pub end : Read
  pub cases : CasesRead
  pub unit_read : read_from nothing 1 (through_case (lines_of text)) ≡ Ok end
  pub cases_read :
      read_cases_from (function_names end) no_cases (case_line text) (from_case (lines_of text)) ≡ Ok cases
  pub closed : has_open_block end.func ≡ false
  pub known : unknown_line end ≡ None
  pub found : cases.unknown ≡ None
  pub unit_is : unit_of end (all_cases cases) ≡ u

all_there : (x u : SsaUnit) (o : Option ℕ) → unit_or_unknown x o ≡ Ok u → (o ≡ None) × (x ≡ u)
all_there x u None h = (refl, cc)
all_there x u (Some line) h = cc

pub unit_parts : (text : List ℕ) (u : SsaUnit) → read_unit text ≡ Ok u → UnitParts text u
unit_parts text u h = by_unit (read_from nothing 1 lines) refl h
  where
    lines : List (List ℕ)
    lines = through_case (lines_of text)

    case_lines : List (List ℕ)
    case_lines = from_case (lines_of text)

    by_cases : (end : Read) → read_from nothing 1 lines ≡ Ok end → (o : Result CasesRead TextFault) →
        read_cases_from (function_names end) no_cases (case_line text) case_lines ≡ o → with_cases end o ≡ Ok u →
        UnitParts text u
    by_cases end read (Err fault) same h = cc
    by_cases end read (Ok c) same h =
        let unit = all_there (unit_of end (all_cases c)) u (option_or (unknown_line end) c.unknown) h in
        let none = neither (unknown_line end) c.unknown unit.0 in
        record {
          end = end;
          cases = c;
          unit_read = read;
          cases_read = same;
          closed = closed_when_read lines end read;
          known = none.0;
          found = none.1;
          unit_is = unit.1;
        }

    by_unit : (o : Result Read TextFault) → read_from nothing 1 lines ≡ o →
        cases_behind o (case_line text) case_lines ≡ Ok u → UnitParts text u
    by_unit (Err fault) same h = cc
    by_unit (Ok end) same h =
        by_cases end same (read_cases_from (function_names end) no_cases (case_line text) case_lines) refl h
