use Rattle.std.proofs.Common.{◌≡◌, take}
use Rattle.std.specs.List.{flat_map}
use Rattle.gossa_core.specs.CaseText.{case_text}
use Rattle.gossa_core.proofs.run.show_cases.Given as goal

-- what the cases so far show is there
abbrev pub invariant-loop-case : goal.invariant-loop-case
invariant-loop-case l = l.out.items ≡ flat_map (case_text l.checked) (take l.case-index l.case-items)
