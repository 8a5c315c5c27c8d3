use Rattle.std.proofs.Common.{◌≡◌, ◌++◌}
use Rattle.std.specs.List.{flat_map}
use Rattle.case_text.specs.CaseText.{words_line, rows_of}
use Rattle.case_text.proofs.print.print_rows.Given as goal

-- the rows so far are appended, and those of the words that are left are still to come
abbrev pub invariant-loop-row : goal.invariant-loop-row
invariant-loop-row l =
    (l.row-iterator.size ≡ 16)
    × (l.text.items ++ flat_map (words_line l.keyword) (rows_of l.row-iterator.rest.now)
    ≡ l.fn.text.items ++ flat_map (words_line l.keyword) (rows_of l.words))
