-- Words of 64 bits, and the values of a width that they stand for.
use Rattle.std.specs.Prelude.{◌≡◌, ℕ, ℤ, pos, negsuc, ◌-ℤ◌, ◌+◌, ◌-◌, ◌%◌, ◌^◌, nat_lt, if◌then◌else◌}

-- the low k bits of a word
abbrev pub low : (k w : ℕ) → ℕ
low k w = w % 2 ^ k

-- the low k bits, read as a signed number
abbrev pub signed_at : (k w : ℕ) → ℤ
signed_at k w = if nat_lt (low k w) (2 ^ (k - 1)) then pos (low k w) else (pos (low k w) -ℤ pos (2 ^ k))

-- the word whose low k bits are those of w, and whose other bits are copies of bit k - 1
abbrev pub sext : (k w : ℕ) → ℕ
sext k w = if nat_lt (low k w) (2 ^ (k - 1)) then low k w else (low k w + (2 ^ 64 - 2 ^ k))

-- the word of a signed number, modulo 2 to the 64
abbrev pub word_of : ℤ → ℕ
word_of (pos n) = low 64 n
word_of (negsuc n) = 2 ^ 64 - 1 - low 64 n

-- a word stands for a value of width k: their low k bits agree
abbrev pub StandsFor : (k w v : ℕ) → Type 0
StandsFor k w v = low k w ≡ low k v
