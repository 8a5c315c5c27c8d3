use Rattle.std.proofs.Common.{◌≡◌, ◌++◌, take}
use Rattle.case_text.specs.CaseText.{cases_text}
use Rattle.ssa_text.specs.Text.{func_names}
use Rattle.ssa_text.proofs.print.print_unit_cases.Given as goal

-- the cases so far are appended
abbrev pub invariant-loop-case : goal.invariant-loop-case
invariant-loop-case l = l.text.items ≡ l.fn.text.items ++ cases_text (func_names l.funcs) (take l.case-index l.cases)
