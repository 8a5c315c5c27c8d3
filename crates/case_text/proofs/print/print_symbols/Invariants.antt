use Rattle.std.proofs.Common.{◌≡◌, ◌++◌, take}
use Rattle.std.specs.List.{flat_map}
use Rattle.case_text.specs.CaseText.{symbol_line}
use Rattle.case_text.proofs.print.print_symbols.Given as goal

-- the symbols so far are appended
abbrev pub invariant-loop-name : goal.invariant-loop-name
invariant-loop-name l = l.text.items ≡ l.fn.text.items ++ flat_map symbol_line (take l.name-index l.symbols)
