-- The word of a signed quotient.
use Rattle.std.proofs.Common.{◌≡◌, ℕ, zero, suc, ◌-◌, ◌^◌, ◌/◌, ◌≤◌, ℤ, pos, negsuc, neg_ℤ, unsigned_abs, int_div, refl}
use Rattle.std.proofs.Common.{subst, sym, ap, ◌∙◌, arith, FitsSigned, w64}
use Rattle.std.specs.Int.{cast_signed, cast_unsigned, int_wrapping_div}
use Rattle.std.proofs.lemmas.Int.{of_z-to_z, to_z-of_z}
use Rattle.std.proofs.Math.Nat.{div-le_self}
use Rattle.gossa_base.specs.Words.{word_of}

abs_negative : (n : ℕ) → unsigned_abs (neg_ℤ (pos n)) ≡ n
abs_negative zero = refl
abs_negative (suc n) = refl

-- a quotient is no farther from 0 than its dividend
pub quotient_within : (a d : ℤ) → unsigned_abs (int_div a d) ≤ unsigned_abs a
quotient_within (pos a) (pos b) = div-le_self a b
quotient_within (pos a) (negsuc b) = subst (λ n. n ≤ a) (sym (abs_negative (a / suc b))) (div-le_self a (suc b))
quotient_within (negsuc a) (pos b) = subst (λ n. n ≤ suc a) (sym (abs_negative (suc a / b))) (div-le_self (suc a) b)
quotient_within (negsuc a) (negsuc b) = div-le_self (suc a) (suc b)

-- what wraps at 64 bits has the word of the number
pub wrapped_word : (z : ℤ) → unsigned_abs z ≤ 2 ^ 63
    → cast_unsigned w64 (cast_signed w64 (cast_unsigned w64 z)) ≡ word_of z
wrapped_word (pos n) within = of_z-to_z w64 n (omega (arith, within)) ∙ omega (arith, within)
wrapped_word (negsuc n) within = of_z-to_z w64 (2 ^ 64 - suc n) (omega (arith, within)) ∙ omega (arith, within)

pub fits_within : (z : ℤ) → FitsSigned w64 z → unsigned_abs z ≤ 2 ^ 63
fits_within (pos n) fits = omega (arith, fits.sfits)
fits_within (negsuc n) fits = omega (arith, fits.sfits)

-- the word of a quotient that was taken with wrapping, of numbers that fit
pub quotient_word : (x y q : ℤ) (word : ℕ) → FitsSigned w64 x → FitsSigned w64 y → FitsSigned w64 q
    → q ≡ int_wrapping_div w64 (cast_signed w64 (cast_unsigned w64 x)) (cast_signed w64 (cast_unsigned w64 y))
    → word ≡ cast_unsigned w64 (cast_signed w64 (cast_unsigned w64 q)) → word ≡ word_of (int_div x y)
quotient_word x y q word fits_x fits_y fits_q quotient unsigned =
    unsigned
    ∙ ap (cast_unsigned w64)
    (to_z-of_z w64 q fits_q ∙ quotient
    ∙ (λ i. int_wrapping_div w64 (to_z-of_z w64 x fits_x i) (to_z-of_z w64 y fits_y i)))
    ∙ wrapped_word (int_div x y) (omega (arith, quotient_within x y, fits_within x fits_x))
