use Rattle.std.proofs.Common.{◌≡◌, map, take}
use Rattle.case_text.specs.CaseText.{cases_text}
use Rattle.case_text.proofs.print.print_cases.Given as goal

-- the cases so far are appended
abbrev pub invariant-loop-case : goal.invariant-loop-case
invariant-loop-case l = l.text.items ≡ cases_text (map (λ s. s.name) l.funcs) (take l.case-index l.cases)
