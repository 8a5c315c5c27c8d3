-- The texts of bytes, two hexadecimal digits for each, are words of a line, and are read as those bytes.
use Rattle.std.proofs.Common.{◌≡◌, ℕ, ◌+◌, ◌*◌, ◌/◌, ◌%◌, ◌<◌, ◌≤◌, ◌==◌, Bool, true, false, ◌&&◌, List, [], ◌∷◌}
use Rattle.std.proofs.Common.{length, slice_index, Option, None, Some, All, refl, ap, ◌∙◌, arith}
use Rattle.std.specs.List.{list_all}
use Rattle.std.proofs.lemmas.Bool.{and_from, agree_below_at, eqb-true}
use Rattle.std.proofs.lemmas.List.Elements.{All-head, All-tail}
use Rattle.hex.specs.Hex.{encode_with, lower_digits}
use Rattle.gossa_base.specs.Texts.{hex_bytes_text}
use Rattle.ssa_ir.specs.Names.{is_name_byte}
use Rattle.ssa_lines.specs.Numbers.{digit_in}
use Rattle.ssa_lines.proofs.LineBytes.{IsPlainWord, plain_word_from_name}
use Rattle.case_text.specs.CaseForms.{bytes_in, byte_of, before_byte, some_bytes_in}

-- the digit that counts d
abbrev digit : ℕ → ℕ
digit d = slice_index lower_digits d

-- whether it is read as d
abbrev is_read_as : Option ℕ → ℕ → Bool
is_read_as None d = false
is_read_as (Some v) d = v == d

read_as : (o : Option ℕ) (d : ℕ) → is_read_as o d ≡ true → o ≡ Some d
read_as None d e = cc
read_as (Some v) d e = ap Some (eqb-true v d e)

digit_is_read : (d : ℕ) → d < 16 → digit_in 16 (digit d) ≡ Some d
digit_is_read d small =
    read_as (digit_in 16 (digit d)) d
    (agree_below_at (λ k. is_read_as (digit_in 16 (digit k)) k) (λ k. true) 16 d refl small)

digit_is_name_byte : (d : ℕ) → d < 16 → is_name_byte (digit d) ≡ true
digit_is_name_byte d small = agree_below_at (λ k. is_name_byte (digit k)) (λ k. true) 16 d refl small

abbrev IsByte : ℕ → Type 0
IsByte b = b < 256

pub length-hex_bytes : (bytes : List ℕ) → length (hex_bytes_text bytes) ≡ 2 * length bytes
unfolding encode_with
length-hex_bytes [] = refl
length-hex_bytes (b ∷ bytes) = omega (arith, length-hex_bytes bytes)

name_bytes-hex_bytes : (bytes : List ℕ) → All IsByte bytes → list_all is_name_byte (hex_bytes_text bytes) ≡ true
unfolding encode_with
name_bytes-hex_bytes [] all = refl
name_bytes-hex_bytes (b ∷ bytes) all =
    let small : b < 256 = All-head IsByte b bytes all in
    let digits : List ℕ = encode_with lower_digits bytes in
    and_from (is_name_byte (digit (b / 16))) (is_name_byte (digit (b % 16)) && list_all is_name_byte digits)
    (digit_is_name_byte (b / 16) (omega arith))
    (and_from (is_name_byte (digit (b % 16))) (list_all is_name_byte digits)
    (digit_is_name_byte (b % 16) (omega arith)) (name_bytes-hex_bytes bytes (All-tail IsByte b bytes all)))

bytes_in-hex_bytes : (bytes : List ℕ) → All IsByte bytes → bytes_in (hex_bytes_text bytes) ≡ Some bytes
unfolding encode_with
bytes_in-hex_bytes [] all = refl
bytes_in-hex_bytes (b ∷ bytes) all =
    let small : b < 256 = All-head IsByte b bytes all in
    let high = digit_is_read (b / 16) (omega arith) in
    let low = digit_is_read (b % 16) (omega arith) in
    let later = bytes_in-hex_bytes bytes (All-tail IsByte b bytes all) in
    let whole : b / 16 * 16 + b % 16 ≡ b = omega arith in
    (λ i. before_byte (byte_of (high i) (low i)) (later i))
    ∙ ap (λ n. Some (n ∷ bytes)) whole

-- some digits are bytes where they are read as bytes
some_read : (digits bytes : List ℕ) → 0 < length digits → bytes_in digits ≡ Some bytes →
    some_bytes_in digits ≡ Some bytes
some_read [] bytes some e = absurd (omega arith)
some_read (d ∷ digits) bytes some e = e

-- one byte or more are read as they are
pub some_bytes_in-hex_bytes : (bytes : List ℕ) → 0 < length bytes → All (λ b. b < 256) bytes →
    some_bytes_in (hex_bytes_text bytes) ≡ Some bytes
some_bytes_in-hex_bytes bytes some all =
    some_read (hex_bytes_text bytes) bytes (omega (arith, length-hex_bytes bytes)) (bytes_in-hex_bytes bytes all)

-- and their text is a word of a line
pub hex_bytes_are_word : (most : ℕ) (bytes : List ℕ) → 0 < length bytes → length bytes ≤ most →
    All (λ b. b < 256) bytes → IsPlainWord (2 * most) (hex_bytes_text bytes)
hex_bytes_are_word most bytes some few all =
    plain_word_from_name (2 * most) (hex_bytes_text bytes) (omega (arith, length-hex_bytes bytes))
    (omega (arith, length-hex_bytes bytes)) (name_bytes-hex_bytes bytes all)
