-- The texts of numbers read back: digits, the names of values and blocks, and lists of them.
use Rattle.std.proofs.Common.{◌≡◌, ℕ, ◌+◌, ◌-◌, ◌*◌, ◌^◌, ◌<◌, ◌≤◌, false, true, cond, nat_le, List, [], ◌∷◌, length}
use Rattle.std.proofs.Common.{map, codes, decimal, Option, None, Some, option_map, All, refl, sym, ap, subst, ◌∙◌}
use Rattle.std.proofs.Common.{arith}
use Rattle.std.specs.Char.{digit_value as value_in_std}
use Rattle.std.specs.List.{list_all}
use Rattle.std.specs.Str.Parse.{AllDigits, digits_value_after}
use Rattle.std.proofs.lemmas.Bool.{and_from, le-leb}
use Rattle.std.proofs.lemmas.Bool.Decides.{nat_tests}
use Rattle.std.proofs.lemmas.Fmt.{decimal_is_IsNumeral, length-decimal-le}
use Rattle.std.proofs.lemmas.List.Elements.{All-head, All-tail, All-weaker}
use Rattle.std.proofs.lemmas.Str.{digit_value_digit}
use Rattle.std.proofs.lemmas.Str.Parse.{digit_from_value}
use Rattle.gossa_base.specs.declared.ids.ValueId.{ValueId}
use Rattle.gossa_base.specs.declared.ids.BlockId.{BlockId}
use Rattle.gossa_base.specs.Texts.{led, value_text, block_text}
use Rattle.ssa_ir.specs.declared.limits.TheConstants.{MAX_NUMBER}
use Rattle.ssa_ir.specs.Names.{is_name_byte}
use Rattle.ssa_ir.specs.WellFormed.{IsNumber}
use Rattle.ssa_lines.specs.Forms.{blocks_of}
use Rattle.ssa_lines.specs.NumberWords.{vid, bid, number_word, number_or_end, numbers_ahead, before_numbers, fitting}
use Rattle.ssa_lines.specs.NumberWords.{spelled}
use Rattle.ssa_lines.specs.Numbers.{digit_in, with_digit, digits_behind, number_in, in_limits}
use Rattle.ssa_lines.specs.ValueForms.{is_end, all_args}
use Rattle.ssa_lines.specs.Words.{words_of}
use Rattle.ssa_lines.specs.declared.numbers.Number.{Number}
use Rattle.ssa_lines.specs.declared.numbers.Number.TheVariants.{Fits, TooLarge}
use Rattle.ssa_lines.specs.declared.forms.Spelled.TheVariants.{Fits as SpelledFits}
use Rattle.ssa_lines.proofs.NumberLemmas.{begun}
use Rattle.ssa_lines.proofs.FormFacts.{IsValueNumber, IsTextBlock}
use Rattle.ssa_lines.proofs.LineBytes.{AllPlain, IsPlainWord, plain_word_from_name, words_of-led, AllPlain-led}
use Rattle.ssa_lines.proofs.LineBytes.{length-led}

-- a decimal digit counts what it is above 0
digit_counts : (b : ℕ) → 48 ≤ b → b ≤ 57 → digit_in 10 b ≡ Some (b - 48)
digit_counts b low high = grind (arith, nat_tests)

-- the number of digits is their value
digits_read : (n : ℕ) (digits : List ℕ) → AllDigits 10 digits →
    digits_behind 10 n digits ≡ Some (digits_value_after 10 n digits)
digits_read n [] all = refl
digits_read n (b ∷ digits) all =
    let range = digit_from_value b all.0 in
    let value : b - 48 ≡ value_in_std b = omega (arith, digit_value_digit b range) in
    ap (λ v. with_digit 10 n v (λ m. digits_behind 10 m digits)) (digit_counts b range.0 range.1 ∙ ap Some value)
    ∙ digits_read (n * 10 + value_in_std b) digits all.1

pub number_in-decimal : (n : ℕ) → n < 2 ^ 64 → number_in 10 (decimal n) ≡ Some n
number_in-decimal n small =
    let numeral = decimal_is_IsNumeral n small in
    begun 10 (decimal n) numeral.0.0 ∙ digits_read 0 (decimal n) numeral.0.1 ∙ ap Some numeral.1

digit_is_name_byte : (b : ℕ) → (48 ≤ b) × (b ≤ 57) → is_name_byte b ≡ true
digit_is_name_byte b range = let low = range.0 in let high = range.1 in grind (arith, nat_tests)

digits_are_name_bytes : (digits : List ℕ) → AllDigits 10 digits → list_all is_name_byte digits ≡ true
digits_are_name_bytes [] all = refl
digits_are_name_bytes (b ∷ digits) all =
    and_from (is_name_byte b) (list_all is_name_byte digits) (digit_is_name_byte b (digit_from_value b all.0))
    (digits_are_name_bytes digits all.1)

-- the bytes of decimal digits are those of names
pub name_bytes-decimal : (n : ℕ) → n < 2 ^ 64 → list_all is_name_byte (decimal n) ≡ true
name_bytes-decimal n small = digits_are_name_bytes (decimal n) (decimal_is_IsNumeral n small).0.1

pub some_decimal : (n : ℕ) → n < 2 ^ 64 → 0 < length (decimal n)
some_decimal n small = (decimal_is_IsNumeral n small).0.0

-- the number of a value or block has seven digits at most
pub short_decimal : (n : ℕ) → n ≤ MAX_NUMBER → length (decimal n) ≤ 7
short_decimal n small = length-decimal-le 7 n (omega arith) (omega arith) (omega arith)

-- a letter before a number
numbered_word : (letter n : ℕ) → is_name_byte letter ≡ true → IsNumber n → IsPlainWord 8 (letter ∷ decimal n)
numbered_word letter n e h =
    let small : n < 2 ^ 64 = omega (arith, h.greatest) in
    plain_word_from_name 8 (letter ∷ decimal n) (omega arith) (omega (arith, short_decimal n h.greatest))
    (and_from (is_name_byte letter) (list_all is_name_byte (decimal n)) e (name_bytes-decimal n small))

-- the names of values and blocks are words of at most eight bytes
pub value_is_word : (v : ValueId) → IsNumber v.0 → IsPlainWord 8 (value_text v)
value_is_word v h = numbered_word 118 v.0 refl h

pub block_is_word : (n : ℕ) → IsNumber n → IsPlainWord 8 (block_text (bid n))
block_is_word n h = numbered_word 98 n refl h

-- a block that no edge was split for is known by its number
pub block_by_number : (b : BlockId) → b.split ≡ false → bid b.n ≡ b
block_by_number b unsplit = λ i. record { split = sym unsplit i; n = b.n }

pub text_block_is_word : (b : BlockId) → IsTextBlock b → IsPlainWord 8 (block_text b)
text_block_is_word b h =
    subst (λ c. IsPlainWord 8 (block_text c)) (block_by_number b h.unsplit) (block_is_word b.n h.number)

number_in_limits : (n : ℕ) → IsNumber n → in_limits n ≡ Fits n
number_in_limits n h =
    ap (λ t. cond t (Fits n) TooLarge)
    (and_from (nat_le 1 n) (nat_le n MAX_NUMBER) (le-leb 1 n h.least) (le-leb n MAX_NUMBER h.greatest))

read_number : (n : ℕ) → IsNumber n → option_map in_limits (number_in 10 (decimal n)) ≡ Some (Fits n)
read_number n h =
    ap (option_map in_limits) (number_in-decimal n (omega (arith, h.greatest))) ∙ ap Some (number_in_limits n h)

-- the names of values and blocks read back
pub number_word-value : (v : ValueId) → IsNumber v.0 → number_word 118 (value_text v) ≡ Some (Fits v.0)
number_word-value v h = read_number v.0 h

pub number_word-block : (n : ℕ) → IsNumber n → number_word 98 (block_text (bid n)) ≡ Some (Fits n)
number_word-block n h = read_number n h

pub number_word-text_block : (b : BlockId) → IsTextBlock b → number_word 98 (block_text b) ≡ Some (Fits b.n)
number_word-text_block b h =
    subst (λ c. number_word 98 (block_text c) ≡ Some (Fits b.n)) (block_by_number b h.unsplit)
    (number_word-block b.n h.number)

-- lists of values
pub values_are_words : (args : List ValueId) → All IsValueNumber args →
    All (λ v. IsPlainWord 8 (value_text v)) args
values_are_words args = All-weaker IsValueNumber (λ v. IsPlainWord 8 (value_text v)) value_is_word args

pub words_of-values : (args : List ValueId) → All IsValueNumber args →
    words_of (led (codes " ") value_text args) ≡ map value_text args
words_of-values args all = words_of-led value_text 8 args (values_are_words args all)

pub AllPlain-values : (args : List ValueId) → All IsValueNumber args → AllPlain (led (codes " ") value_text args)
AllPlain-values args all = AllPlain-led value_text 8 args (values_are_words args all)

pub length-values : (args : List ValueId) → All IsValueNumber args →
    length (led (codes " ") value_text args) ≤ 9 * length args
length-values args all = length-led value_text 8 args (values_are_words args all)

-- the numbers that values are known by
abbrev pub value_numbers : List ValueId → List Number
value_numbers args = map (λ v. Fits v.0) args

pub numbers_ahead-values : (args : List ValueId) → All IsValueNumber args →
    numbers_ahead 118 (map value_text args) ≡ (value_numbers args, [])
numbers_ahead-values [] all = refl
numbers_ahead-values (v ∷ args) all =
    let words : List (List ℕ) = map value_text args in
    let here = number_word-value v (All-head IsValueNumber v args all) in
    let later = numbers_ahead-values args (All-tail IsValueNumber v args all) in
    (λ i. number_or_end (here i) (value_text v) words (later i))

pub fitting-values : (args : List ValueId) → option_map (map vid) (fitting (value_numbers args)) ≡ Some args
fitting-values [] = refl
fitting-values (v ∷ args) = values_onto v (fitting (value_numbers args)) args (fitting-values args)
  where
    values_onto : (v : ValueId) (numbers : Option (List ℕ)) (args : List ValueId) →
        option_map (map vid) numbers ≡ Some args →
        option_map (map vid) (before_numbers (Some v.0) numbers) ≡ Some (v ∷ args)
    values_onto v None args e = cc
    values_onto v (Some numbers) args e = ap (λ more. option_map (λ l. v ∷ l) more) e

-- all arguments read back, with nothing behind them
pub all_args-values : (args : List ValueId) → All IsValueNumber args →
    all_args (map value_text args) ≡ Some (SpelledFits args)
all_args-values args all =
    ap (λ ahead. cond (is_end ahead.1) (Some (spelled (option_map (map vid) (fitting ahead.0)))) None)
    (numbers_ahead-values args all)
    ∙ ap (λ o. Some (spelled o)) (fitting-values args)

-- lists of blocks
pub blocks_are_words : (blocks : List BlockId) → All IsTextBlock blocks →
    All (λ b. IsPlainWord 8 (block_text b)) blocks
blocks_are_words blocks = All-weaker IsTextBlock (λ b. IsPlainWord 8 (block_text b)) text_block_is_word blocks

pub words_of-blocks : (blocks : List BlockId) → All IsTextBlock blocks →
    words_of (led (codes " ") block_text blocks) ≡ map block_text blocks
words_of-blocks blocks all = words_of-led block_text 8 blocks (blocks_are_words blocks all)

pub AllPlain-blocks : (blocks : List BlockId) → All IsTextBlock blocks → AllPlain (led (codes " ") block_text blocks)
AllPlain-blocks blocks all = AllPlain-led block_text 8 blocks (blocks_are_words blocks all)

pub length-blocks : (blocks : List BlockId) → All IsTextBlock blocks →
    length (led (codes " ") block_text blocks) ≤ 9 * length blocks
length-blocks blocks all = length-led block_text 8 blocks (blocks_are_words blocks all)

-- the numbers that blocks are known by
abbrev pub block_numbers : List BlockId → List Number
block_numbers blocks = map (λ b. Fits b.n) blocks

pub numbers_ahead-blocks : (blocks : List BlockId) → All IsTextBlock blocks →
    numbers_ahead 98 (map block_text blocks) ≡ (block_numbers blocks, [])
numbers_ahead-blocks [] all = refl
numbers_ahead-blocks (b ∷ blocks) all =
    let words : List (List ℕ) = map block_text blocks in
    let here = number_word-text_block b (All-head IsTextBlock b blocks all) in
    let later = numbers_ahead-blocks blocks (All-tail IsTextBlock b blocks all) in
    (λ i. number_or_end (here i) (block_text b) words (later i))

blocks_onto : (b : BlockId) (numbers : Option (List ℕ)) (blocks : List BlockId) → b.split ≡ false →
    option_map (map bid) numbers ≡ Some blocks →
    option_map (map bid) (before_numbers (Some b.n) numbers) ≡ Some (b ∷ blocks)
blocks_onto b None blocks unsplit e = cc
blocks_onto b (Some numbers) blocks unsplit e =
    (λ i. option_map (λ l. block_by_number b unsplit i ∷ l) (e i))

-- all blocks read back
pub blocks_of-blocks : (blocks : List BlockId) → All IsTextBlock blocks →
    blocks_of (block_numbers blocks) ≡ SpelledFits blocks
blocks_of-blocks blocks all = ap spelled (go blocks all)
  where
    go : (blocks : List BlockId) → All IsTextBlock blocks →
        option_map (map bid) (fitting (block_numbers blocks)) ≡ Some blocks
    go [] all = refl
    go (b ∷ blocks) all =
        blocks_onto b (fitting (block_numbers blocks)) blocks (All-head IsTextBlock b blocks all).unsplit
        (go blocks (All-tail IsTextBlock b blocks all))
