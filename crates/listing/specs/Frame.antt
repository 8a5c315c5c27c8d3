-- A function's frame.
use Rattle.std.specs.Prelude.{ℕ, zero, suc, ◌+◌, ◌*◌, ◌/◌, Bool, true, false, List}
use Rattle.std.specs.List.{list_any}
use Rattle.listing.specs.declared.line.Line.{Line}
use Rattle.listing.specs.declared.line.Line.TheVariants.{Call}
use Rattle.listing.specs.declared.code.Listing.{Listing}

abbrev pub is_call : Line → Bool
is_call (Call sym map note) = true
is_call _ = false

abbrev pub has_call : List Line → Bool
has_call lines = list_any is_call lines

-- the words of a frame, beside the saved link register
abbrev pub frame_words : Listing → ℕ
frame_words l = l.code.out + l.ptr + l.scalar

-- the bytes of a frame with these words: none where there is no word and no call, else the saved link register and
-- the words, rounded up to a multiple of 16
abbrev pub bytes_for : ℕ → Bool → ℕ
bytes_for zero false = 0
bytes_for zero true = 16
bytes_for (suc n) calls = (8 + 8 * suc n + 15) / 16 * 16

-- the size of a listing's frame, in bytes
abbrev pub frame_size : Listing → ℕ
frame_size l = bytes_for (frame_words l) (has_call l.code.lines)

-- where word i of the frame stands, in bytes from RSP: behind the saved link register and the outgoing words
abbrev pub frame_offset : (out i : ℕ) → ℕ
frame_offset out i = 8 + 8 * (out + i)
