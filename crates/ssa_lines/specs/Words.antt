-- The words of a line.
use Rattle.std.specs.Prelude.{◌≡◌, ℕ, ◌==◌, nat_eq, Bool, true, false, not, ◌&&◌, is_some, if◌then◌else◌, List, [], ◌∷◌}
use Rattle.std.specs.Prelude.{Option, None, Some}
use Rattle.std.specs.Cmp.Lexicographic.{pointwise}
use Rattle.std.specs.Option.{option_map}
use Rattle.std.specs.List.{filter, slice_split}
use Rattle.ssa_lines.specs.Lines.{is_space}

abbrev pub has_bytes : List ℕ → Bool
has_bytes [] = false
has_bytes (b ∷ bytes) = true

abbrev pub is_word_byte : ℕ → Bool
is_word_byte b = not (is_space b)

-- the words of a line, which spaces and tabs part
abbrev pub words_of : List ℕ → List (List ℕ)
words_of line = filter has_bytes (slice_split is_space line)

-- whether two words are the same
abbrev pub is_same : (word other : List ℕ) → Bool
is_same word other = pointwise nat_eq word other

-- a word without its last byte, where that is this one
abbrev pub without_last : ℕ → List ℕ → Option (List ℕ)
without_last last [] = None
without_last last (b ∷ []) = if b == last then Some [] else None
without_last last (b ∷ c ∷ bytes) = option_map (λ front. b ∷ front) (without_last last (c ∷ bytes))

-- a word without its first byte, where that is this one
abbrev pub without_first : ℕ → List ℕ → Option (List ℕ)
without_first first [] = None
without_first first (b ∷ bytes) = if b == first then Some bytes else None

-- whether a word stands in parentheses
abbrev pub is_marked : List ℕ → Bool
is_marked word = is_some (without_first 40 word) && is_some (without_last 41 word)

-- whether the first of these words begins with this byte
abbrev pub opens : ℕ → List (List ℕ) → Bool
opens byte [] = false
opens byte (word ∷ words) = is_some (without_first byte word)

-- of the words left, the next one is taken; where none is left, none
abbrev pub TakesNext : (before after : List (List ℕ)) → Option (List ℕ) → Type 0
TakesNext before after None = (before ≡ []) × (after ≡ [])
TakesNext before after (Some word) = before ≡ word ∷ after
