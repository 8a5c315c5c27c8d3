-- What is known of the numbers and the lists of numbers that words spell.
use Rattle.std.proofs.Common.{◌≡◌, ℕ, suc, Bool, true, false, nat_le, ◌&&◌, List, [], ◌∷◌, length, map, All, Option}
use Rattle.std.proofs.Common.{None, Some, IfSome, if◌then◌else◌, refl, ap, ◌∙◌}
use Rattle.std.specs.Option.{option_map}
use Rattle.std.proofs.lemmas.Bool.{and_parts, leb-true}
use Rattle.std.proofs.lemmas.List.{length-map}
use Rattle.std.proofs.lemmas.List.Elements.{All-nil, All-cons, All-head, All-tail}
use Rattle.gossa_base.specs.declared.ids.BlockId.{BlockId}
use Rattle.ssa_ir.specs.declared.limits.TheConstants.{MAX_NUMBER}
use Rattle.ssa_ir.specs.WellFormed.{IsNumber}
use Rattle.ssa_lines.specs.declared.numbers.Number.{Number}
use Rattle.ssa_lines.specs.declared.numbers.Number.TheVariants.{Fits as NumberFits, TooLarge as NumberTooLarge}
use Rattle.ssa_lines.specs.declared.forms.Spelled.{Spelled}
use Rattle.ssa_lines.specs.declared.forms.Spelled.TheVariants.{Fits, TooLarge}
use Rattle.ssa_lines.specs.Forms.{blocks_of}
use Rattle.ssa_lines.specs.Numbers.{number_behind, in_limits}
use Rattle.ssa_lines.specs.NumberWords.{vid, bid, number_word, number_or_end, numbers_ahead, fit, before_numbers}
use Rattle.ssa_lines.specs.NumberWords.{fitting, spelled}
use Rattle.ssa_lines.proofs.FormFacts.{IsValueNumber, IsTextBlock}

-- a number that is in its range
abbrev pub InRange : Number → Type 0
InRange (NumberFits n) = IsNumber n
InRange NumberTooLarge = Unit {0}

-- what holds of what a line spells, where its numbers are in their range
abbrev pub IfFits : {X : Type 0} → Spelled X → (X → Type 0) → Type 0
IfFits (Fits x) P = P x
IfFits TooLarge P = Unit {0}

in_limits_range : (n : ℕ) (b : Bool) → (nat_le 1 n && nat_le n MAX_NUMBER) ≡ b
    → InRange (if b then NumberFits n else NumberTooLarge)
in_limits_range n true h =
    let parts = and_parts (nat_le 1 n) (nat_le n MAX_NUMBER) h in
    record { least = leb-true 1 n parts.0; greatest = leb-true n MAX_NUMBER parts.1 }
in_limits_range n false h = tt

found_in_range : (o : Option ℕ) → IfSome (option_map in_limits o) InRange
found_in_range None = tt
found_in_range (Some n) = in_limits_range n (nat_le 1 n && nat_le n MAX_NUMBER) refl

-- the number of a word is in its range, or marked as too large
pub word_in_range : (letter : ℕ) (word : List ℕ) → IfSome (number_word letter word) InRange
word_in_range letter word = found_in_range (number_behind letter word)

ahead_in_range : (n : Option Number) (word : List ℕ) (words : List (List ℕ)) (ahead : List Number × List (List ℕ))
    → IfSome n InRange → All InRange ahead.0 → All InRange (number_or_end n word words ahead).0
ahead_in_range None word words ahead h all = All-nil InRange
ahead_in_range (Some n) word words ahead h all = All-cons InRange n ahead.0 h all

-- and so are all the numbers ahead
pub numbers_in_range : (letter : ℕ) (words : List (List ℕ)) → All InRange (numbers_ahead letter words).0
numbers_in_range letter [] = All-nil InRange
numbers_in_range letter (word ∷ words) =
    ahead_in_range (number_word letter word) word words (numbers_ahead letter words) (word_in_range letter word)
    (numbers_in_range letter words)

-- as many numbers as these, which values and blocks may have
record Numbered (numbers : List Number) (ns : List ℕ) : Type 0 where
  long : length ns ≡ length numbers
  each : All IsNumber ns

with_number : (n : Number) (numbers : List Number) (o : Option (List ℕ)) → InRange n → IfSome o (Numbered numbers)
    → IfSome (before_numbers (fit n) o) (Numbered (n ∷ numbers))
with_number NumberTooLarge numbers o here behind = tt
with_number (NumberFits n) numbers None here behind = tt
with_number (NumberFits n) numbers (Some ns) here behind =
    record { long = ap suc behind.long; each = All-cons IsNumber n ns here behind.each }

numbers_fit : (numbers : List Number) → All InRange numbers → IfSome (fitting numbers) (Numbered numbers)
numbers_fit [] h = record { long = refl; each = All-nil IsNumber }
numbers_fit (n ∷ numbers) h =
    with_number n numbers (fitting numbers) (All-head InRange n numbers h)
    (numbers_fit numbers (All-tail InRange n numbers h))

each_block : (ns : List ℕ) → All IsNumber ns → All IsTextBlock (map bid ns)
each_block [] h = All-nil IsTextBlock
each_block (n ∷ ns) h =
    All-cons IsTextBlock (bid n) (map bid ns) (record { number = All-head IsNumber n ns h; unsplit = refl })
    (each_block ns (All-tail IsNumber n ns h))

each_value : (ns : List ℕ) → All IsNumber ns → All IsValueNumber (map vid ns)
each_value [] h = All-nil IsValueNumber
each_value (n ∷ ns) h =
    All-cons IsValueNumber (vid n) (map vid ns) (All-head IsNumber n ns h)
    (each_value ns (All-tail IsNumber n ns h))

-- as many blocks as these numbers, which a text can name
pub record TextBlocks (numbers : List Number) (blocks : List BlockId) : Type 0 where
  pub long : length blocks ≡ length numbers
  pub each : All IsTextBlock blocks

spelled_blocks : (numbers : List Number) (o : Option (List ℕ)) → IfSome o (Numbered numbers)
    → IfFits (spelled (option_map (map bid) o)) (TextBlocks numbers)
spelled_blocks numbers None h = tt
spelled_blocks numbers (Some ns) h =
    record { long = length-map ns bid ∙ h.long; each = each_block ns h.each }

-- the blocks of numbers
pub blocks_fit : (numbers : List Number) → All InRange numbers → IfFits (blocks_of numbers) (TextBlocks numbers)
blocks_fit numbers h = spelled_blocks numbers (fitting numbers) (numbers_fit numbers h)

spelled_values : (numbers : List Number) (o : Option (List ℕ)) → IfSome o (Numbered numbers)
    → IfFits (spelled (option_map (map vid) o)) (All IsValueNumber)
spelled_values numbers None h = tt
spelled_values numbers (Some ns) h = each_value ns h.each

-- the values of numbers
pub values_fit : (numbers : List Number) → All InRange numbers
    → IfFits (spelled (option_map (map vid) (fitting numbers))) (All IsValueNumber)
values_fit numbers h = spelled_values numbers (fitting numbers) (numbers_fit numbers h)
