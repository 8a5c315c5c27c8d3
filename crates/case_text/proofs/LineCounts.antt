-- How many lines a text has.
use Rattle.std.proofs.Common.{ℕ, ◌+◌, ◌≤◌, List, [], ◌∷◌, length, arith}
use Rattle.std.specs.List.{slice_split}
use Rattle.std.proofs.lemmas.List.Splits.{length-slice_split}
use Rattle.std.proofs.lemmas.List.Sums.{count_by-le-length}
use Rattle.ssa_lines.specs.Lines.{lines_of, is_newline, without_empty_last}

fewer_parts : (parts : List (List ℕ)) → length (without_empty_last parts) ≤ length parts
fewer_parts [] = omega arith
fewer_parts ([] ∷ []) = omega arith
fewer_parts ((b ∷ part) ∷ []) = omega arith
fewer_parts ([] ∷ other ∷ parts) = omega (arith, fewer_parts (other ∷ parts))
fewer_parts ((b ∷ part) ∷ other ∷ parts) = omega (arith, fewer_parts (other ∷ parts))

-- there are no more lines than bytes, and one
pub few_lines_of : (text : List ℕ) → length (lines_of text) ≤ length text + 1
few_lines_of text =
    omega (
      arith,
      fewer_parts (slice_split is_newline text),
      length-slice_split is_newline text,
      count_by-le-length is_newline text,
    )
