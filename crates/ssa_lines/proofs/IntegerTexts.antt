-- Signed integers in text: their decimals are words, and are read as those integers.
use Rattle.std.proofs.Common.{◌≡◌, ℕ, ◌^◌, ◌<◌, ◌≤◌, nat_lt, nat_eq, Bool, true, false, ◌&&◌, cond, List, [], ◌∷◌, drop}
use Rattle.std.proofs.Common.{codes, decimal, Option, Some, refl, ap, ◌∙◌, arith}
use Rattle.std.specs.Prelude.{ℤ, suc, pos, negsuc, neg_ℤ, ◌-ℤ◌, ◌-◌, FitsSigned}
use Rattle.std.specs.Fmt.{signed_decimal}
use Rattle.std.specs.Int.{w64}
use Rattle.std.specs.List.{starts_with}
use Rattle.std.specs.Option.{option_map}
use Rattle.std.specs.Str.Parse.{AllDigits}
use Rattle.std.proofs.lemmas.Bool.{ne_eqb, lt-ltb, le-ltb}
use Rattle.std.proofs.lemmas.Bool.Decides.{nat_tests}
use Rattle.std.proofs.lemmas.Fmt.{decimal_is_IsNumeral, length-decimal-le}
use Rattle.std.proofs.lemmas.Int.{ints}
use Rattle.std.proofs.lemmas.Str.Parse.{digit_from_value}
use Rattle.gossa_base.specs.Words.{low, signed_at, word_of}
use Rattle.ssa_lines.specs.declared.forms.Bracket.{Bracket}
use Rattle.ssa_lines.specs.declared.forms.Bracket.TheVariants.{Number as BracketNumber, Truth}
use Rattle.ssa_lines.specs.declared.numbers.Integer.TheVariants.{Word, TooLarge}
use Rattle.ssa_lines.specs.Numbers.{integer_of, number_in, is_word, sized}
use Rattle.ssa_lines.specs.ValueForms.{bracket_inside}
use Rattle.ssa_lines.specs.Words.{is_same}
use Rattle.ssa_lines.proofs.LineBytes.{IsPlainWord, plain_word_append, plain_word_from_name}
use Rattle.ssa_lines.proofs.NumberTexts.{number_in-decimal, name_bytes-decimal, some_decimal}
use Rattle.ssa_lines.proofs.WordTexts.{short_word, longer_word}

-- decimal digits are no hexadecimal ones behind 0x
no_hex : (digits : List ℕ) → AllDigits 10 digits → starts_with nat_eq digits (codes "0x") ≡ false
no_hex [] all = refl
no_hex (b ∷ []) all = grind (arith, nat_tests)
no_hex (b ∷ c ∷ digits) all =
    let range = digit_from_value c all.1.0 in
    ap (λ t. nat_eq 48 b && (t && true)) (ne_eqb 120 c (λ e. omega (arith, range.1))) ∙ go (nat_eq 48 b)
  where
    go : (t : Bool) → (t && false) ≡ false
    go true = refl
    go false = refl

-- and have no -
no_minus : (digits : List ℕ) → AllDigits 10 digits → starts_with nat_eq digits (codes "-") ≡ false
no_minus [] all = refl
no_minus (b ∷ digits) all =
    let range = digit_from_value b all.0 in
    ap (λ t. t && true) (ne_eqb 45 b (λ e. omega (arith, range.0)))

-- the signed decimal of an integer is read as that integer
pub signed_read : (z : ℤ) → FitsSigned w64 z → integer_of (signed_decimal z) ≡ Some z
signed_read (pos n) fits =
    let small : n < 2 ^ 64 = omega (arith, fits.sfits) in
    let digits = (decimal_is_IsNumeral n small).0.1 in
    let hex : Option ℤ = option_map pos (number_in 16 (drop 2 (decimal n))) in
    let minus : Option ℤ = option_map (λ m. neg_ℤ (pos m)) (number_in 10 (drop 1 (decimal n))) in
    let plain : Option ℤ = option_map pos (number_in 10 (decimal n)) in
    (λ i. cond (no_hex (decimal n) digits i) hex (cond (no_minus (decimal n) digits i) minus plain))
    ∙ ap (option_map pos) (number_in-decimal n small)
signed_read (negsuc n) fits =
    ap (option_map (λ m. neg_ℤ (pos m))) (number_in-decimal (suc n) (omega (arith, fits.sfits)))

-- it is in the range of words
pub fits_word : (z : ℤ) → FitsSigned w64 z → is_word z ≡ true
fits_word (pos n) fits = grind (arith, ints)
fits_word (negsuc n) fits = grind (arith, ints)

pub sized_word : (z : ℤ) → FitsSigned w64 z → sized z ≡ Word (word_of z)
sized_word z fits = ap (λ t. cond t (Word (word_of z)) TooLarge) (fits_word z fits)

-- the signed number that 64 bits stand for
abbrev by_sign : ℕ → ℤ
by_sign w = cond (nat_lt w (2 ^ 63)) (pos w) (pos w -ℤ pos (2 ^ 64))

-- its word stands for it
pub signed_word : (z : ℤ) → FitsSigned w64 z → signed_at 64 (word_of z) ≡ z
signed_word (pos n) fits =
    let same : low 64 (low 64 n) ≡ n = omega (arith, fits.sfits) in
    let small : nat_lt n (2 ^ 63) ≡ true = lt-ltb n (2 ^ 63) (omega (arith, fits.sfits)) in
    ap by_sign same ∙ ap (λ t. cond t (pos n) (pos n -ℤ pos (2 ^ 64))) small
signed_word (negsuc n) fits =
    let m : ℕ = 2 ^ 64 - 1 - n in
    let same : low 64 (2 ^ 64 - 1 - low 64 n) ≡ m = omega (arith, fits.sfits) in
    let large : nat_lt m (2 ^ 63) ≡ false = le-ltb m (2 ^ 63) (omega (arith, fits.sfits)) in
    ap by_sign same ∙ ap (λ t. cond t (pos m) (pos m -ℤ pos (2 ^ 64))) large ∙ omega (arith, ints, fits.sfits)

-- digits differ from a word that begins with a letter
no_letter : (digits : List ℕ) (c : ℕ) (word : List ℕ) → AllDigits 10 digits → 57 < c →
    is_same digits (c ∷ word) ≡ false
no_letter [] c word all large = refl
no_letter (b ∷ digits) c word all large =
    let range = digit_from_value b all.0 in
    ap (λ t. t && is_same digits word) (ne_eqb b c (λ e. omega (arith, range.1)))

no_signed_letter : (z : ℤ) (c : ℕ) (word : List ℕ) → FitsSigned w64 z → 57 < c →
    is_same (signed_decimal z) (c ∷ word) ≡ false
no_signed_letter (pos n) c word fits large =
    no_letter (decimal n) c word (decimal_is_IsNumeral n (omega (arith, fits.sfits))).0.1 large
no_signed_letter (negsuc n) c word fits large =
    ap (λ t. t && is_same (decimal (suc n)) word) (ne_eqb 45 c (λ e. omega arith))

-- an integer in brackets
pub integer_read : (z : ℤ) → FitsSigned w64 z →
    bracket_inside (signed_decimal z) ≡ Some (BracketNumber (Word (word_of z)))
integer_read z fits =
    let integer : Option Bracket = option_map (λ y. BracketNumber (sized y)) (integer_of (signed_decimal z)) in
    (λ i. cond (no_signed_letter z 116 (codes "rue") fits (omega arith) i) (Some (Truth true))
    (cond (no_signed_letter z 102 (codes "alse") fits (omega arith) i) (Some (Truth false)) integer))
    ∙ ap (option_map (λ y. BracketNumber (sized y))) (signed_read z fits)
    ∙ ap (λ n. Some (BracketNumber n)) (sized_word z fits)

decimal_is_word : (n : ℕ) → n ≤ 2 ^ 63 → IsPlainWord 19 (decimal n)
decimal_is_word n small =
    let below : n < 2 ^ 64 = omega arith in
    let few = length-decimal-le 19 n (omega arith) (omega arith) below in
    plain_word_from_name 19 (decimal n) (some_decimal n below) few (name_bytes-decimal n below)

-- the signed decimal of an integer is a word
pub signed_is_word : (z : ℤ) → FitsSigned w64 z → IsPlainWord 20 (signed_decimal z)
signed_is_word (pos n) fits =
    longer_word 19 20 (decimal n) (omega arith) (decimal_is_word n (omega (arith, fits.sfits)))
signed_is_word (negsuc n) fits =
    plain_word_append 1 19 (codes "-") (decimal (suc n)) (short_word 1 (codes "-") refl)
    (decimal_is_word (suc n) (omega (arith, fits.sfits)))
