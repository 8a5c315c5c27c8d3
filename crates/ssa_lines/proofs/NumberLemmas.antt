-- Digits, one after the other.
use Rattle.std.proofs.Common.{◌≡◌, ℕ, suc, ◌+◌, ◌*◌, ◌<◌, ◌≤◌, List, [], ◌∷◌, length, drop, get_or, Option, None, Some}
use Rattle.std.proofs.Common.{refl, ap, ◌∙◌, arith}
use Rattle.std.proofs.Math.ListN.{drop_of_length-le}
use Rattle.std.proofs.Math.Seq.{drop-cons}
use Rattle.ssa_lines.specs.Numbers.{digit_in, with_digit, digits_behind, number_in}

-- some digits begin behind 0
pub begun : (base : ℕ) (digits : List ℕ) → 0 < length digits → number_in base digits ≡ digits_behind base 0 digits
begun base [] some = absurd (omega arith)
begun base (b ∷ digits) some = refl

-- the digits from place i on, and what digit i counts
one_digit : (base n : ℕ) (digits : List ℕ) (i b : ℕ) (v : Option ℕ) → i < length digits
    → digit_in base (get_or digits i b) ≡ v
    → digits_behind base n (drop i digits) ≡ with_digit base n v (λ m. digits_behind base m (drop (i + 1) digits))
one_digit base n digits i b v lt e =
    let next : suc i ≡ i + 1 = omega arith in
    ap (digits_behind base n) (drop-cons digits i b lt)
    ∙ ap (λ k. with_digit base n (digit_in base (get_or digits i b)) (λ m. digits_behind base m (drop k digits))) next
    ∙ ap (λ o. with_digit base n o (λ m. digits_behind base m (drop (i + 1) digits))) e

pub more_digits : (base n : ℕ) (digits : List ℕ) (i b v : ℕ) → i < length digits
    → digit_in base (get_or digits i b) ≡ Some v
    → digits_behind base n (drop i digits) ≡ digits_behind base (n * base + v) (drop (i + 1) digits)
more_digits base n digits i b v lt e = one_digit base n digits i b (Some v) lt e

pub no_digit : (base n : ℕ) (digits : List ℕ) (i b : ℕ) → i < length digits → digit_in base (get_or digits i b) ≡ None
    → digits_behind base n (drop i digits) ≡ None
no_digit base n digits i b lt e = one_digit base n digits i b None lt e

pub digits_end : (base n : ℕ) (digits : List ℕ) (i : ℕ) → length digits ≤ i
    → digits_behind base n (drop i digits) ≡ Some n
digits_end base n digits i le = ap (digits_behind base n) (drop_of_length-le digits le)
