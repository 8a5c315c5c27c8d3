-- What holds of every text that is read.
use Rattle.std.specs.Prelude.{◌≡◌, ℕ, ◌≤◌, ◌^◌, List, length, Ok}
use Rattle.ssa_ir.specs.declared.case.Case.{Case}
use Rattle.ssa_ir.specs.declared.func.SsaUnit.{SsaUnit}
use Rattle.case_text.specs.CaseReading.{read_cases}
use Rattle.case_text.specs.CaseText.{cases_text}
use Rattle.ssa_text.specs.Text.{unit_text}
use Rattle.ssa_text.specs.UnitReading.{read_unit}

-- a unit that was read reads back from its printed text, where that is no longer than a text that is read may be
abbrev pub ReadsBack : Type 0
ReadsBack =
    (text : List ℕ) (u : SsaUnit) → read_unit text ≡ Ok u
    → length (unit_text u) ≤ 2 ^ 30 → read_unit (unit_text u) ≡ Ok u

-- and so do cases among functions of the same names, wherever the numbers of lines begin
abbrev pub CasesReadBack : Type 0
CasesReadBack =
    (names : List (List ℕ)) (first : ℕ) (text : List ℕ) (cases : List Case) → read_cases names first text ≡ Ok cases
    → length (cases_text names cases) ≤ 2 ^ 30
    → (again : ℕ) → read_cases names again (cases_text names cases) ≡ Ok cases
