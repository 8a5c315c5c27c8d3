-- The bytes and the words that a printed line is made of, and what such a line is: allowed, and without a line break.
use Rattle.std.proofs.Common.{◌≡◌, ◌==◌, ℕ, ◌+◌, ◌*◌, ◌<◌, ◌≤◌, true, false, ◌&&◌, cond, List, [], ◌∷◌, ◌++◌, length}
use Rattle.std.proofs.Common.{map, codes, All, refl, sym, ap, ◌∙◌, arith, true≢false, mul-suc}
use Rattle.std.specs.List.{list_all}
use Rattle.std.proofs.lemmas.List.{length-append}
use Rattle.std.proofs.lemmas.Bool.{ne_eqb}
use Rattle.std.proofs.lemmas.Bool.Decides.{nat_tests}
use Rattle.std.proofs.lemmas.List.Elements.{All-head, All-tail, All-nil, All-cons, All-append, All-weaker}
use Rattle.std.proofs.lemmas.List.Sums.{AllPass-from_list_all}
use Rattle.gossa_base.specs.Texts.{led}
use Rattle.ssa_ir.specs.Names.{is_name_byte}
use Rattle.ssa_lines.specs.Lines.{Second, is_space, is_newline, is_plain_byte, allowed_from, is_allowed}
use Rattle.ssa_lines.proofs.LineLemmas.{HasNoNewline}
use Rattle.ssa_lines.specs.Words.{words_of, is_word_byte}
use Rattle.ssa_lines.proofs.WordLemmas.{HasNoSpace, EndsWord, HasNoSpace-from_test, space_in_front, only_word}
use Rattle.ssa_lines.proofs.WordLemmas.{word_and_space, word_in_front}

-- all bytes of a line may stand by themselves
abbrev pub AllPlain : List ℕ → Type 0
AllPlain line = All (λ b. is_plain_byte b ≡ true) line

-- a byte that stands by itself is none that begins an arrow
begins_no_arrow : (b : ℕ) → is_plain_byte b ≡ true → (b == 226) ≡ false
begins_no_arrow b plain = ne_eqb b 226 (λ e. true≢false (sym plain ∙ ap is_plain_byte e))

-- nor a line break
breaks_no_line : (b : ℕ) → is_plain_byte b ≡ true → is_newline b ≡ false
breaks_no_line b plain = ne_eqb b 10 (λ e. true≢false (sym plain ∙ ap is_plain_byte e))

-- such bytes are allowed in front of what is allowed
pub allowed_behind : (line rest : List ℕ) → AllPlain line → is_allowed rest ≡ true → is_allowed (line ++ rest) ≡ true
allowed_behind [] rest plain allowed = allowed
allowed_behind (b ∷ line) rest plain allowed =
    let here : is_plain_byte b ≡ true = All-head (λ c. is_plain_byte c ≡ true) b line plain in
    let later = allowed_behind line rest (All-tail (λ c. is_plain_byte c ≡ true) b line plain) allowed in
    (λ i. cond (begins_no_arrow b here i) (allowed_from Second (line ++ rest)) (here i && is_allowed (line ++ rest)))
    ∙ later

pub allowed_if_plain : (line : List ℕ) → AllPlain line → is_allowed line ≡ true
allowed_if_plain [] plain = refl
allowed_if_plain (b ∷ line) plain =
    let here : is_plain_byte b ≡ true = All-head (λ c. is_plain_byte c ≡ true) b line plain in
    (λ i. cond (begins_no_arrow b here i) (allowed_from Second line) (here i && is_allowed line))
    ∙ allowed_if_plain line (All-tail (λ c. is_plain_byte c ≡ true) b line plain)

pub no_newline_if_plain : (line : List ℕ) → AllPlain line → HasNoNewline line
no_newline_if_plain line = All-weaker (λ b. is_plain_byte b ≡ true) (λ b. is_newline b ≡ false) breaks_no_line line

-- bytes that are known pass the test
pub AllPlain-from_test : (line : List ℕ) → list_all is_plain_byte line ≡ true → AllPlain line
AllPlain-from_test line e = AllPass-from_list_all is_plain_byte line e

pub AllPlain-nil : AllPlain []
AllPlain-nil = All-nil (λ b. is_plain_byte b ≡ true)

pub AllPlain-append : (line rest : List ℕ) → AllPlain line → AllPlain rest → AllPlain (line ++ rest)
AllPlain-append line rest = All-append (λ b. is_plain_byte b ≡ true) line rest

pub name_byte_is_plain : (b : ℕ) → is_name_byte b ≡ true → is_plain_byte b ≡ true
name_byte_is_plain b e = grind (arith, nat_tests)

pub name_byte_is_no_space : (b : ℕ) → is_name_byte b ≡ true → is_space b ≡ false
name_byte_is_no_space b e = grind (arith, nat_tests)

-- the bytes of a name
pub AllPlain-from_name : (name : List ℕ) → list_all is_name_byte name ≡ true → AllPlain name
AllPlain-from_name name e =
    All-weaker (λ b. is_name_byte b ≡ true) (λ b. is_plain_byte b ≡ true) name_byte_is_plain name
    (AllPass-from_list_all is_name_byte name e)

pub HasNoSpace-from_name : (name : List ℕ) → list_all is_name_byte name ≡ true → HasNoSpace name
HasNoSpace-from_name name e =
    All-weaker (λ b. is_name_byte b ≡ true) (λ b. is_space b ≡ false) name_byte_is_no_space name
    (AllPass-from_list_all is_name_byte name e)

-- a word of a printed line: one byte or more, but at most so many, each plain and no space
pub record IsPlainWord (most : ℕ) (word : List ℕ) : Type 0 where
  pub some : 0 < length word
  pub short : length word ≤ most
  pub plain : AllPlain word
  pub unspaced : HasNoSpace word

-- bytes of a name are such a word
pub plain_word_from_name : (most : ℕ) (word : List ℕ) → 0 < length word → length word ≤ most →
    list_all is_name_byte word ≡ true → IsPlainWord most word
plain_word_from_name most word some short e =
    record { some = some; short = short; plain = AllPlain-from_name word e; unspaced = HasNoSpace-from_name word e }

pub plain_word_alone : (most : ℕ) (word : List ℕ) → IsPlainWord most word → words_of word ≡ word ∷ []
plain_word_alone most word h = only_word word h.some h.unspaced

pub plain_word_in_front : (most : ℕ) (word line : List ℕ) → IsPlainWord most word → EndsWord line →
    words_of (word ++ line) ≡ word ∷ words_of line
plain_word_in_front most word line h ends = word_in_front word line h.some h.unspaced ends

-- two parts of a word
pub plain_word_append : (most more : ℕ) (word part : List ℕ) → IsPlainWord most word → IsPlainWord more part →
    IsPlainWord (most + more) (word ++ part)
plain_word_append most more word part h k =
    let long = length-append word part in
    record {
      some = omega (arith, long, h.some);
      short = omega (arith, long, h.short, k.short);
      plain = AllPlain-append word part h.plain k.plain;
      unspaced = All-append (λ b. is_space b ≡ false) word part h.unspaced k.unspaced;
    }

-- words that are known pass the tests
pub plain_word_from_tests : (most : ℕ) (word : List ℕ) → 0 < length word → length word ≤ most →
    list_all is_plain_byte word ≡ true → list_all is_word_byte word ≡ true → IsPlainWord most word
plain_word_from_tests most word some short plain unspaced =
    record {
      some = some;
      short = short;
      plain = AllPlain-from_test word plain;
      unspaced = HasNoSpace-from_test word unspaced;
    }

-- one or more words, a space between each and the next
abbrev pub spaced : List ℕ → List (List ℕ) → List ℕ
spaced word [] = word
spaced word (next ∷ words) = word ++ 32 ∷ spaced next words

pub words_of-spaced : (most : ℕ) (word : List ℕ) (words : List (List ℕ)) → IsPlainWord most word →
    All (IsPlainWord most) words → words_of (spaced word words) ≡ word ∷ words
words_of-spaced most word [] h all = plain_word_alone most word h
words_of-spaced most word (next ∷ words) h all =
    word_and_space word 32 (spaced next words) h.some h.unspaced refl
    ∙ ap (λ later. word ∷ later)
    (words_of-spaced most next words (All-head (IsPlainWord most) next words all)
    (All-tail (IsPlainWord most) next words all))

pub AllPlain-spaced : (most : ℕ) (word : List ℕ) (words : List (List ℕ)) → IsPlainWord most word →
    All (IsPlainWord most) words → AllPlain (spaced word words)
AllPlain-spaced most word [] h all = h.plain
AllPlain-spaced most word (next ∷ words) h all =
    let first = All-head (IsPlainWord most) next words all in
    let later = AllPlain-spaced most next words first (All-tail (IsPlainWord most) next words all) in
    AllPlain-append word (32 ∷ spaced next words) h.plain
    (All-cons (λ b. is_plain_byte b ≡ true) 32 (spaced next words) refl later)

pub length-spaced : (most : ℕ) (word : List ℕ) (words : List (List ℕ)) → IsPlainWord most word →
    All (IsPlainWord most) words → length (spaced word words) ≤ most + (most + 1) * length words
length-spaced most word [] h all = omega (arith, h.short)
length-spaced most word (next ∷ words) h all =
    let first = All-head (IsPlainWord most) next words all in
    let later = length-spaced most next words first (All-tail (IsPlainWord most) next words all) in
    omega (arith, h.short, length-append word (32 ∷ spaced next words), mul-suc (most + 1) (length words), later)

-- the texts of items, a space before each
module _ {T : Type 0} (text : T → List ℕ) where
  -- they end a word in front of them
  pub EndsWord-led : (items : List T) → EndsWord (led (codes " ") text items)
  EndsWord-led [] = tt
  EndsWord-led (item ∷ items) = refl

  -- the words of words, a space before each, are those words
  pub words_of-led : (most : ℕ) (items : List T) → All (λ item. IsPlainWord most (text item)) items →
      words_of (led (codes " ") text items) ≡ map text items
  words_of-led most [] all = refl
  words_of-led most (item ∷ items) all =
      space_in_front 32 (text item ++ led (codes " ") text items) refl
      ∙ plain_word_in_front most (text item) (led (codes " ") text items)
      (All-head (λ x. IsPlainWord most (text x)) item items all) (EndsWord-led items)
      ∙ ap (λ words. text item ∷ words)
      (words_of-led most items (All-tail (λ x. IsPlainWord most (text x)) item items all))

  pub words_of-front_led : (most : ℕ) (word : List ℕ) (items : List T) → IsPlainWord most word →
      All (λ item. IsPlainWord most (text item)) items →
      words_of (word ++ led (codes " ") text items) ≡ word ∷ map text items
  words_of-front_led most word items h all =
      plain_word_in_front most word (led (codes " ") text items) h (EndsWord-led items)
      ∙ ap (λ words. word ∷ words) (words_of-led most items all)

  pub AllPlain-led : (most : ℕ) (items : List T) → All (λ item. IsPlainWord most (text item)) items →
      AllPlain (led (codes " ") text items)
  AllPlain-led most [] all = AllPlain-nil
  AllPlain-led most (item ∷ items) all =
      let first = (All-head (λ x. IsPlainWord most (text x)) item items all).plain in
      AllPlain-append (32 ∷ text item) (led (codes " ") text items)
      (All-cons (λ b. is_plain_byte b ≡ true) 32 (text item) refl first)
      (AllPlain-led most items (All-tail (λ x. IsPlainWord most (text x)) item items all))

  pub length-led : (most : ℕ) (items : List T) → All (λ item. IsPlainWord most (text item)) items →
      length (led (codes " ") text items) ≤ (most + 1) * length items
  length-led most [] all = omega arith
  length-led most (item ∷ items) all =
      let first = (All-head (λ x. IsPlainWord most (text x)) item items all).short in
      let whole = length-append (32 ∷ text item) (led (codes " ") text items) in
      omega (
        arith,
        first,
        whole,
        mul-suc (most + 1) (length items),
        length-led most items (All-tail (λ x. IsPlainWord most (text x)) item items all),
      )
