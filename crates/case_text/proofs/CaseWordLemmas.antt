-- What is known of the integers and the bytes that words spell.
use Rattle.std.proofs.Common.{◌≡◌, ℕ, ◌<◌, ℤ, pos, negsuc, Bool, true, false, nat_lt, if◌then◌else◌, List, [], ◌∷◌, All}
use Rattle.std.proofs.Common.{Option, None, Some, IfSome, refl, arith, length-take}
use Rattle.std.specs.Option.{option_map}
use Rattle.std.proofs.lemmas.Bool.{ltb-true}
use Rattle.std.proofs.lemmas.List.Elements.{All-nil, All-cons, All-take}
use Rattle.ssa_ir.specs.declared.limits.TheConstants.{MAX_WORDS}
use Rattle.gossa_base.specs.Words.{word_of}
use Rattle.ssa_lines.specs.Numbers.{below, digit_in, digit_value, integer_of, is_word, sized}
use Rattle.ssa_lines.specs.declared.numbers.Integer.{Integer}
use Rattle.ssa_lines.specs.declared.numbers.Integer.TheVariants.{Word, TooLarge as IntegerTooLarge}
use Rattle.ssa_lines.specs.declared.forms.Spelled.{Spelled}
use Rattle.ssa_lines.specs.declared.forms.Spelled.TheVariants.{Fits, TooLarge}
use Rattle.ssa_lines.proofs.NumberFactsLemmas.{IfFits}
use Rattle.case_text.specs.CaseForms.{word_in, with_word, before_word, words_in, first_kept, first_words_in, only_word}
use Rattle.case_text.specs.CaseForms.{byte_of, before_byte, bytes_in, some_bytes_in}
use Rattle.case_text.proofs.CaseFacts.{IsWord}
use Rattle.case_text.proofs.CaseFormFacts.{FewWords, SomeBytes}

-- ---- words

-- an integer that is a word of 64 bits, or marked as too large
abbrev pub IsSmall : Integer → Type 0
IsSmall (Word w) = IsWord w
IsSmall IntegerTooLarge = Unit {0}

word_small : (z : ℤ) → IsWord (word_of z)
word_small (pos n) = omega arith
word_small (negsuc n) = omega arith

sized_small : (z : ℤ) (b : Bool) → IsSmall (if b then Word (word_of z) else IntegerTooLarge)
sized_small z true = word_small z
sized_small z false = tt

integer_small : (o : Option ℤ) → IfSome (option_map sized o) IsSmall
integer_small None = tt
integer_small (Some z) = sized_small z (is_word z)

-- so is the integer of a word
pub word_shown : (word : List ℕ) → IfSome (word_in word) IsSmall
word_shown word = integer_small (integer_of word)

-- what is made of a word that isn't too large
pub made : {X : Type 0} (P : X → Type 0) (n : Integer) (make : ℕ → X) → IsSmall n → ((w : ℕ) → IsWord w → P (make w))
    → IfFits (with_word n make) P
made P (Word w) make small makes = makes w small
made P IntegerTooLarge make small makes = tt

-- words, each of 64 bits, where none is too large
abbrev pub Words : Spelled (List ℕ) → Type 0
Words words = IfFits words (All IsWord)

before_shown : (w : Option Integer) (words : Option (Spelled (List ℕ))) → IfSome w IsSmall → IfSome words Words
    → IfSome (before_word w words) Words
before_shown None words here behind = tt
before_shown (Some w) None here behind = tt
before_shown (Some (Word w)) (Some (Fits words)) here behind = All-cons IsWord w words here behind
before_shown (Some (Word w)) (Some TooLarge) here behind = tt
before_shown (Some IntegerTooLarge) (Some words) here behind = tt

pub words_shown : (words : List (List ℕ)) → IfSome (words_in words) Words
words_shown [] = All-nil IsWord
words_shown (word ∷ words) = before_shown (word_in word) (words_in words) (word_shown word) (words_shown words)

cut_shown : (o : Option (Spelled (List ℕ))) → IfSome o Words
    → IfSome (option_map first_kept o) (λ s. IfFits s FewWords)
cut_shown None h = tt
cut_shown (Some TooLarge) h = tt
cut_shown (Some (Fits words)) h =
    record { each = All-take IsWord MAX_WORDS words h; few = omega (arith, length-take MAX_WORDS words) }

pub first_words_shown : (words : List (List ℕ)) → IfSome (first_words_in words) (λ s. IfFits s FewWords)
first_words_shown words = cut_shown (words_in words) (words_shown words)

alone_shown : (o : Option Integer) → IfSome o IsSmall
    → IfSome (option_map (λ w. with_word w (λ n. n)) o) (λ s. IfFits s IsWord)
alone_shown None h = tt
alone_shown (Some n) h = made IsWord n (λ n. n) h (λ w small. small)

pub only_shown : (words : List (List ℕ)) → IfSome (only_word words) (λ s. IfFits s IsWord)
only_shown [] = tt
only_shown (word ∷ []) = alone_shown (word_in word) (word_shown word)
only_shown (word ∷ other ∷ words) = tt

-- ---- bytes

digit_below : (base : ℕ) (o : Option ℕ) → IfSome (below base o) (λ v. v < base)
digit_below base None = tt
digit_below base (Some v) = go (nat_lt v base) refl
  where
    go : (b : Bool) → nat_lt v base ≡ b → IfSome (if b then Some v else None) (λ v. v < base)
    go true e = ltb-true v base e
    go false e = tt

byte_shown : (high low : Option ℕ) → IfSome high (λ v. v < 16) → IfSome low (λ v. v < 16)
    → IfSome (byte_of high low) (λ b. b < 256)
byte_shown None low h l = tt
byte_shown (Some high) None h l = tt
byte_shown (Some high) (Some low) h l = omega arith

before_byte_shown : (b : Option ℕ) (bytes : Option (List ℕ)) → IfSome b (λ b. b < 256)
    → IfSome bytes (All (λ b. b < 256)) → IfSome (before_byte b bytes) SomeBytes
before_byte_shown None bytes here behind = tt
before_byte_shown (Some b) None here behind = tt
before_byte_shown (Some b) (Some bytes) here behind =
    record { some = omega arith; each = All-cons (λ b. b < 256) b bytes here behind }

each_byte : (o : Option (List ℕ)) → IfSome o SomeBytes → IfSome o (All (λ b. b < 256))
each_byte None h = tt
each_byte (Some bytes) h = h.each

digits_shown : (high low : ℕ) → IfSome (byte_of (digit_in 16 high) (digit_in 16 low)) (λ b. b < 256)
digits_shown high low =
    let first = digit_below 16 (digit_value high) in
    byte_shown (digit_in 16 high) (digit_in 16 low) first (digit_below 16 (digit_value low))

bytes_shown : (digits : List ℕ) → IfSome (bytes_in digits) (All (λ b. b < 256))
bytes_shown [] = All-nil (λ b. b < 256)
bytes_shown (digit ∷ []) = tt
bytes_shown (high ∷ low ∷ digits) =
    let byte = byte_of (digit_in 16 high) (digit_in 16 low) in
    each_byte (bytes_in (high ∷ low ∷ digits))
    (before_byte_shown byte (bytes_in digits) (digits_shown high low) (bytes_shown digits))

-- the bytes of a word are one at least
pub some_bytes_shown : (digits : List ℕ) → IfSome (some_bytes_in digits) SomeBytes
some_bytes_shown [] = tt
some_bytes_shown (digit ∷ []) = tt
some_bytes_shown (high ∷ low ∷ digits) =
    let byte = byte_of (digit_in 16 high) (digit_in 16 low) in
    before_byte_shown byte (bytes_in digits) (digits_shown high low) (bytes_shown digits)
