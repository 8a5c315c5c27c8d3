-- The texts of words in hexadecimal digits are words of a line, and are read as what they were made of.
use Rattle.std.proofs.Common.{◌≡◌, ◌==◌, ℕ, zero, suc, ◌+◌, ◌*◌, ◌/◌, ◌%◌, ◌^◌, ◌<◌, ◌≤◌, Bool, true, false, cond, List}
use Rattle.std.proofs.Common.{[], ◌∷◌, length, decimal, Some, refl, ap, ◌∙◌, arith}
use Rattle.std.specs.Prelude.{pos}
use Rattle.std.specs.Char.{digit_value as value_in_std}
use Rattle.std.specs.Fmt.{digit_glyph, digits_onto, digits}
use Rattle.std.specs.List.{list_all}
use Rattle.std.specs.Option.{option_map}
use Rattle.std.specs.Str.Parse.{AllDigits, digits_value_after}
use Rattle.std.proofs.Math.Nat.{pow-suc, div-lt_iff_lt-mul}
use Rattle.std.proofs.lemmas.Bool.{and_from, eqb-false}
use Rattle.std.proofs.lemmas.Bool.Decides.{nat_tests}
use Rattle.std.proofs.lemmas.Fmt.{digits_is_IsNumeral}
use Rattle.std.proofs.lemmas.Int.{ints}
use Rattle.gossa_base.specs.Texts.{hex_text}
use Rattle.gossa_base.specs.Words.{low, word_of}
use Rattle.ssa_ir.specs.declared.limits.TheConstants.{MAX_BOUND}
use Rattle.ssa_ir.specs.Names.{is_name_byte}
use Rattle.ssa_lines.specs.Numbers.{digit_in, with_digit, digits_behind, integer_of, is_word, sized}
use Rattle.ssa_lines.specs.declared.numbers.Integer.TheVariants.{Word, TooLarge}
use Rattle.ssa_lines.proofs.NumberLemmas.{begun}
use Rattle.ssa_lines.proofs.NumberTexts.{name_bytes-decimal, some_decimal, short_decimal}
use Rattle.ssa_lines.proofs.IntegerTexts.{signed_read}
use Rattle.case_text.specs.CaseForms.{word_in}
use Rattle.ssa_lines.proofs.LineBytes.{IsPlainWord, plain_word_from_name}

-- a hexadecimal digit counts what it does in std
digit_counts : (b : ℕ) → value_in_std b < 16 → digit_in 16 b ≡ Some (value_in_std b)
digit_counts b small = grind (arith, nat_tests)

-- and is a byte of a name
digit_is_name_byte : (b : ℕ) → value_in_std b < 16 → is_name_byte b ≡ true
digit_is_name_byte b small = grind (arith, nat_tests)

-- the number of digits is their value
digits_read : (n : ℕ) (bytes : List ℕ) → AllDigits 16 bytes →
    digits_behind 16 n bytes ≡ Some (digits_value_after 16 n bytes)
digits_read n [] all = refl
digits_read n (b ∷ bytes) all =
    ap (λ v. with_digit 16 n v (λ m. digits_behind 16 m bytes)) (digit_counts b all.0)
    ∙ digits_read (n * 16 + value_in_std b) bytes all.1

digits_are_name_bytes : (bytes : List ℕ) → AllDigits 16 bytes → list_all is_name_byte bytes ≡ true
digits_are_name_bytes [] all = refl
digits_are_name_bytes (b ∷ bytes) all =
    and_from (is_name_byte b) (list_all is_name_byte bytes) (digit_is_name_byte b all.0)
    (digits_are_name_bytes bytes all.1)

-- the digits that the number of one ends with, by the test of whether it is the last
few_by_test : (test : Bool) (first rest : List ℕ) (most : ℕ) → (test ≡ true → length first ≤ most) →
    (test ≡ false → length rest ≤ most) → length (cond test first rest) ≤ most
few_by_test true first rest most yes_few no_few = yes_few refl
few_by_test false first rest most yes_few no_few = no_few refl

-- a number below 16^(j + 1) has at most j + 1 digits
few_digits : (k j n : ℕ) (behind : List ℕ) → n < 16 ^ suc j →
    length (digits_onto k 16 false n behind) ≤ length behind + suc j
few_digits zero j n behind small = omega arith
few_digits (suc k) zero n behind small =
    let only : n / 16 ≡ 0 = omega arith in
    let longer : List ℕ = digit_glyph false (n % 16) ∷ behind in
    few_by_test (n / 16 == 0) longer (digits_onto k 16 false (n / 16) longer) (length behind + 1) (λ e. omega arith)
    (λ e. absurd (eqb-false (n / 16) 0 e only))
few_digits (suc k) (suc j) n behind small =
    let longer : List ℕ = digit_glyph false (n % 16) ∷ behind in
    let some : 0 < 16 = omega arith in
    let less : n < 16 ^ suc j * 16 = omega (arith, pow-suc 16 (suc j)) in
    let smaller : n / 16 < 16 ^ suc j = (div-lt_iff_lt-mul some).1 less in
    few_by_test (n / 16 == 0) longer (digits_onto k 16 false (n / 16) longer) (length behind + suc (suc j))
    (λ e. omega arith) (λ e. omega (arith, few_digits k j (n / 16) longer smaller))

short_digits : (w : ℕ) → w < 2 ^ 64 → length (digits 16 false w) ≤ 16
unfolding digits
short_digits w small = few_digits 64 15 w [] (omega arith)

-- the text of a word is a word of a line
pub hex_is_word : (w : ℕ) → w < 2 ^ 64 → IsPlainWord 18 (hex_text w)
hex_is_word w small =
    let numeral = digits_is_IsNumeral 16 false (omega arith) (omega arith) w (omega arith) in
    plain_word_from_name 18 (hex_text w) (omega arith) (omega (arith, short_digits w small))
    (digits_are_name_bytes (digits 16 false w) numeral.0.1)

-- it is read as the word
pub integer_of-hex : (w : ℕ) → w < 2 ^ 64 → integer_of (hex_text w) ≡ Some (pos w)
integer_of-hex w small =
    let numeral = digits_is_IsNumeral 16 false (omega arith) (omega arith) w (omega arith) in
    let bytes : List ℕ = digits 16 false w in
    ap (option_map pos) (begun 16 bytes numeral.0.0 ∙ digits_read 0 bytes numeral.0.1 ∙ ap Some numeral.1)

-- a word isn't too large
pub sized-pos : (w : ℕ) → w < 2 ^ 64 → sized (pos w) ≡ Word w
sized-pos w small =
    let fits : is_word (pos w) ≡ true = grind (arith, ints) in
    let same : low 64 w ≡ w = omega arith in
    ap (λ t. cond t (Word (word_of (pos w))) TooLarge) fits ∙ ap Word same

pub word_in-hex : (w : ℕ) → w < 2 ^ 64 → word_in (hex_text w) ≡ Some (Word w)
word_in-hex w small = ap (option_map sized) (integer_of-hex w small) ∙ ap Some (sized-pos w small)

-- so is a decimal
pub word_in-decimal : (n : ℕ) → n ≤ MAX_BOUND → word_in (decimal n) ≡ Some (Word n)
word_in-decimal n small =
    ap (option_map sized) (signed_read (pos n) (record { sfits = omega arith })) ∙ ap Some (sized-pos n (omega arith))

pub decimal_is_word : (n : ℕ) → n ≤ MAX_BOUND → IsPlainWord 7 (decimal n)
decimal_is_word n small =
    let below : n < 2 ^ 64 = omega arith in
    plain_word_from_name 7 (decimal n) (some_decimal n below) (short_decimal n small) (name_bytes-decimal n below)
