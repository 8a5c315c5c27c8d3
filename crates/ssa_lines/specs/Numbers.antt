-- Numbers in words: integers, and the numbers of values and blocks.
use Rattle.std.specs.Prelude.{ℕ, ◌+◌, ◌-◌, ◌*◌, ◌^◌, ◌==◌, ℤ, pos, neg_ℤ, int_lt, nat_lt, nat_le, nat_eq, Bool, not}
use Rattle.std.specs.Prelude.{◌&&◌, if◌then◌else◌, List, [], ◌∷◌, codes, drop, Option, None, Some}
use Rattle.std.specs.List.{starts_with}
use Rattle.std.specs.Option.{option_map}
use Rattle.gossa_base.specs.Words.{word_of}
use Rattle.ssa_lines.specs.declared.numbers.Integer.{Integer}
use Rattle.ssa_lines.specs.declared.numbers.Integer.TheVariants.{Word, TooLarge as IntegerTooLarge}
use Rattle.ssa_lines.specs.declared.numbers.Number.{Number}
use Rattle.ssa_lines.specs.declared.numbers.Number.TheVariants.{Fits, TooLarge as NumberTooLarge}
use Rattle.ssa_ir.specs.declared.limits.TheConstants.{MAX_NUMBER}

-- what a hexadecimal digit counts, in either case
abbrev pub digit_value : ℕ → Option ℕ
digit_value b =
    if nat_le 48 b && nat_le b 57 then Some (b - 48)
    else if nat_le 97 b && nat_le b 102 then Some (b - 87)
    else if nat_le 65 b && nat_le b 70 then Some (b - 55)
    else None

abbrev pub below : ℕ → Option ℕ → Option ℕ
below base None = None
below base (Some v) = if nat_lt v base then Some v else None

-- what a digit of this base counts
abbrev pub digit_in : (base b : ℕ) → Option ℕ
digit_in base b = below base (digit_value b)

abbrev pub with_digit : (base n : ℕ) → Option ℕ → (ℕ → Option ℕ) → Option ℕ
with_digit base n None go = None
with_digit base n (Some v) go = go (n * base + v)

-- the number of these digits behind those of the number n, the highest first
abbrev pub digits_behind : (base n : ℕ) → List ℕ → Option ℕ
digits_behind base n [] = Some n
digits_behind base n (b ∷ bytes) = with_digit base n (digit_in base b) (λ m. digits_behind base m bytes)

-- the number of one or more digits, leading zeros among them
abbrev pub number_in : ℕ → List ℕ → Option ℕ
number_in base [] = None
number_in base (b ∷ bytes) = digits_behind base 0 (b ∷ bytes)

-- the integer that a word spells: decimal digits, with - before them or not, or hexadecimal ones behind 0x
abbrev pub integer_of : List ℕ → Option ℤ
integer_of word =
    if starts_with nat_eq word (codes "0x") then option_map pos (number_in 16 (drop 2 word))
    else if starts_with nat_eq word (codes "-") then option_map (λ n. neg_ℤ (pos n)) (number_in 10 (drop 1 word))
    else option_map pos (number_in 10 word)

-- an integer that a word of 64 bits stands for, as a signed or an unsigned one: from -2^63 to 2^64 - 1
abbrev pub is_word : ℤ → Bool
is_word z = not (int_lt z (neg_ℤ (pos (2 ^ 63)))) && int_lt z (pos (2 ^ 64))

abbrev pub sized : ℤ → Integer
sized z = if is_word z then Word (word_of z) else IntegerTooLarge

-- the number of a value or a block, behind its letter
abbrev pub number_behind : ℕ → List ℕ → Option ℕ
number_behind letter [] = None
number_behind letter (b ∷ bytes) = if b == letter then number_in 10 bytes else None

-- values and blocks are numbered from 1 to 1,000,000
abbrev pub in_limits : ℕ → Number
in_limits n = if nat_le 1 n && nat_le n MAX_NUMBER then Fits n else NumberTooLarge
