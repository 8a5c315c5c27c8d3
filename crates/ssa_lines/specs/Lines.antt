-- The lines of a text, and the bytes that they may have.
use Rattle.std.specs.Prelude.{ℕ, ◌==◌, Bool, true, false, ◌&&◌, ◌||◌, nat_le, if◌then◌else◌, List, [], ◌∷◌}
use Rattle.std.specs.List.{slice_split}

abbrev pub is_newline : ℕ → Bool
is_newline b = b == 10

-- all parts but the last where that is empty
abbrev pub without_empty_last : List (List ℕ) → List (List ℕ)
without_empty_last [] = []
without_empty_last ([] ∷ []) = []
without_empty_last ((b ∷ part) ∷ []) = (b ∷ part) ∷ []
without_empty_last (part ∷ other ∷ parts) = part ∷ without_empty_last (other ∷ parts)

-- the lines of a text, each ended by LF, which may be absent behind the last
abbrev pub lines_of : List ℕ → List (List ℕ)
lines_of text = without_empty_last (slice_split is_newline text)

-- a space or a tab
abbrev pub is_space : ℕ → Bool
is_space b = b == 32 || b == 9

-- a byte that may stand by itself: printable ASCII, or a tab
abbrev pub is_plain_byte : ℕ → Bool
is_plain_byte b = (nat_le 32 b && nat_le b 126) || b == 9

-- which byte of an arrow a line goes on with: none, the second, or the third
pub data Within : Type 0 where
  Outside : Within
  Second : Within
  Third : Within

-- the arrows are the bytes E2 86 90 and E2 86 92
abbrev pub allowed_from : Within → List ℕ → Bool
allowed_from Outside [] = true
allowed_from Second [] = false
allowed_from Third [] = false
allowed_from Outside (b ∷ bytes) =
    if b == 226 then allowed_from Second bytes else (is_plain_byte b && allowed_from Outside bytes)
allowed_from Second (b ∷ bytes) = b == 134 && allowed_from Third bytes
allowed_from Third (b ∷ bytes) = (b == 144 || b == 146) && allowed_from Outside bytes

-- a line has allowed bytes alone: printable ASCII, tabs and arrows
abbrev pub is_allowed : List ℕ → Bool
is_allowed line = allowed_from Outside line
