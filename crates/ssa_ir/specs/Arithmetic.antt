-- What the families of ops compute, at a width of k bits, 1 to 64. An answer is below 2 to the k and hangs on nothing
-- but the low k bits of the operands, except that a count of a shift is a whole word, and that a chosen word is
-- answered whole.
use Rattle.std.specs.Prelude.{ℕ, ℤ, pos, negsuc, neg_ℤ, ◌-ℤ◌, ◌+◌, ◌-◌, ◌*◌, ◌/◌, ◌%◌, ◌^◌, ◌==◌, Bool, true, false}
use Rattle.std.specs.Prelude.{if◌then◌else◌, nat_lt, nat_le, int_lt, int_le, int_div, int_rem, bit_and, bit_or, bit_xor}
use Rattle.gossa_base.specs.Words.{low, sext, signed_at, word_of}

-- an integer modulo 2 to the k, for k at most 64
abbrev pub cut : (k : ℕ) → ℤ → ℕ
cut k z = low k (word_of z)

-- ---- sums and products, modulo 2 to the k

abbrev pub sum_at : (k a b : ℕ) → ℕ
sum_at k a b = low k (a + b)

abbrev pub difference_at : (k a b : ℕ) → ℕ
difference_at k a b = cut k (pos a -ℤ pos b)

abbrev pub product_at : (k a b : ℕ) → ℕ
product_at k a b = low k (a * b)

abbrev pub negative_at : (k a : ℕ) → ℕ
negative_at k a = cut k (neg_ℤ (pos a))

-- ---- bit by bit

abbrev pub and_at : (k a b : ℕ) → ℕ
and_at k a b = bit_and (low k a) (low k b)

abbrev pub or_at : (k a b : ℕ) → ℕ
or_at k a b = bit_or (low k a) (low k b)

abbrev pub xor_at : (k a b : ℕ) → ℕ
xor_at k a b = bit_xor (low k a) (low k b)

-- all bits inverted
abbrev pub inverted_at : (k a : ℕ) → ℕ
inverted_at k a = 2 ^ k - 1 - low k a

-- ---- quotients, toward 0, and their remainders. The least number by -1 has a quotient one above the greatest number:
-- cut, it is the least number

-- signed; by 0 it is 0
abbrev pub quotient_at : (k a b : ℕ) → ℕ
quotient_at k a b = if low k b == 0 then 0 else cut k (int_div (signed_at k a) (signed_at k b))

-- by 0 it is 0
abbrev pub unsigned_quotient_at : (k a b : ℕ) → ℕ
unsigned_quotient_at k a b = if low k b == 0 then 0 else (low k a / low k b)

-- signed; by 0 it is the dividend
abbrev pub remainder_at : (k a b : ℕ) → ℕ
remainder_at k a b = if low k b == 0 then low k a else cut k (int_rem (signed_at k a) (signed_at k b))

-- by 0 it is the dividend
abbrev pub unsigned_remainder_at : (k a b : ℕ) → ℕ
unsigned_remainder_at k a b = if low k b == 0 then low k a else (low k a % low k b)

-- ---- shifts, by an unsigned count of 64 bits: by 64 or more all bits are shifted out

abbrev pub shift_left_at : (k a count : ℕ) → ℕ
shift_left_at k a count = if nat_lt count 64 then low k (a * 2 ^ count) else 0

-- zeros come in
abbrev pub shift_right_at : (k a count : ℕ) → ℕ
shift_right_at k a count = if nat_lt count 64 then (low k a / 2 ^ count) else 0

-- a signed number divided by 2 to the count, rounded down
abbrev pub floor_shift : ℤ → (count : ℕ) → ℤ
floor_shift (pos n) count = pos (n / 2 ^ count)
floor_shift (negsuc n) count = negsuc (n / 2 ^ count)

-- 0, or -1 of a negative number: all bits are the sign
abbrev pub sign_of : ℤ → ℤ
sign_of (pos n) = pos 0
sign_of (negsuc n) = negsuc 0

-- copies of the sign come in
abbrev pub signed_shift_right_at : (k a count : ℕ) → ℕ
signed_shift_right_at k a count =
    cut k (if nat_lt count 64 then floor_shift (signed_at k a) count else sign_of (signed_at k a))

-- ---- comparisons: 1 or 0

abbrev pub one_where : Bool → ℕ
one_where true = 1
one_where false = 0

abbrev pub is_equal : (k a b : ℕ) → Bool
is_equal k a b = low k a == low k b

abbrev pub is_less : (k a b : ℕ) → Bool
is_less k a b = int_lt (signed_at k a) (signed_at k b)

abbrev pub is_at_most : (k a b : ℕ) → Bool
is_at_most k a b = int_le (signed_at k a) (signed_at k b)

abbrev pub is_below : (k a b : ℕ) → Bool
is_below k a b = nat_lt (low k a) (low k b)

abbrev pub is_below_or_same : (k a b : ℕ) → Bool
is_below_or_same k a b = nat_le (low k a) (low k b)

-- ---- other widths

-- the signed value of k bits, at a width of n
abbrev pub sign_extended : (k n a : ℕ) → ℕ
sign_extended k n a = low n (sext k a)

-- the word that bit 0 of a bool chooses, whole
abbrev pub chosen : (a b bool : ℕ) → ℕ
chosen a b bool = if bool % 2 == 1 then a else b
