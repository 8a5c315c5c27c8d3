use Rattle.std.proofs.Common.{◌≡◌, ◌++◌, take}
use Rattle.std.specs.List.{flat_map}
use Rattle.case_text.specs.CaseText.{piece_line}
use Rattle.case_text.proofs.print.print_pieces.Given as goal

-- the pieces so far are appended
abbrev pub invariant-loop-piece : goal.invariant-loop-piece
invariant-loop-piece l = l.text.items ≡ l.fn.text.items ++ flat_map (piece_line l.keyword) (take l.piece-index l.pieces)
