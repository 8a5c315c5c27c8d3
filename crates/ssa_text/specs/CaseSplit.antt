-- Where the cases of a text begin.
use Rattle.std.specs.Prelude.{ℕ, ◌+◌, Bool, false, if◌then◌else◌, List, [], ◌∷◌, codes, length}
use Rattle.std.specs.List.{list_any}
use Rattle.ssa_lines.specs.Lines.{lines_of}
use Rattle.ssa_lines.specs.Words.{is_same, words_of}

abbrev pub begins_with : List ℕ → List (List ℕ) → Bool
begins_with name [] = false
begins_with name (word ∷ words) = is_same word name

-- a line whose first word is `case`
abbrev pub is_case_line : List ℕ → Bool
is_case_line line = begins_with (codes "case") (words_of line)

-- whether a text has such a line
abbrev pub has_case : List ℕ → Bool
has_case text = list_any is_case_line (lines_of text)

-- the lines in front of the first such line; all where there is none
abbrev pub before_case : List (List ℕ) → List (List ℕ)
before_case [] = []
before_case (line ∷ lines) = if is_case_line line then [] else line ∷ before_case lines

-- the lines through the first such line; all where there is none
abbrev pub through_case : List (List ℕ) → List (List ℕ)
through_case [] = []
through_case (line ∷ lines) = if is_case_line line then line ∷ [] else line ∷ through_case lines

-- the lines from the first such line on
abbrev pub from_case : List (List ℕ) → List (List ℕ)
from_case [] = []
from_case (line ∷ lines) = if is_case_line line then line ∷ lines else from_case lines

-- how many bytes lines take, with the LF behind each
abbrev pub bytes_of : List (List ℕ) → ℕ
bytes_of [] = 0
bytes_of (line ∷ lines) = length line + 1 + bytes_of lines

-- the place of the first byte of the first such line, or the text's length
abbrev pub case_offset : List ℕ → ℕ
case_offset text = if has_case text then bytes_of (before_case (lines_of text)) else length text

-- the number of that line, from 1, or the number of lines plus one
abbrev pub case_line : List ℕ → ℕ
case_line text = length (before_case (lines_of text)) + 1
