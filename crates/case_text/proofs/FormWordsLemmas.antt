-- Words of a line, one after the other.
use Rattle.std.proofs.Common.{◌≡◌, ℕ, ◌<◌, min, Bool, true, false, if◌then◌else◌, List, [], ◌∷◌, ◌++◌, length, take}
use Rattle.std.proofs.Common.{Option, None, Some, refl, sym, ap, ◌∙◌, arith, ltb, append-nil}
use Rattle.std.specs.Option.{option_map}
use Rattle.std.proofs.lemmas.Bool.{cond_both, ltb-true, ltb-false}
use Rattle.std.proofs.lemmas.List.{append_assoc, length-append, length-take, take_all, take-append-le}
use Rattle.ssa_ir.specs.declared.limits.TheConstants.{MAX_WORDS}
use Rattle.ssa_lines.specs.declared.numbers.Integer.{Integer}
use Rattle.ssa_lines.specs.declared.numbers.Integer.TheVariants.{Word, TooLarge as IntegerTooLarge}
use Rattle.ssa_lines.specs.declared.forms.Spelled.{Spelled}
use Rattle.ssa_lines.specs.declared.forms.Spelled.TheVariants.{Fits, TooLarge}
use Rattle.case_text.specs.CaseForms.{word_in, before_word, words_in, first_kept, first_words_in}

-- one more word, the last
abbrev pub one_more : List ℕ → ℕ → List ℕ
one_more list w = list ++ w ∷ []

-- the same, where fewer than `MAX_WORDS` are kept
abbrev pub one_more_kept : List ℕ → ℕ → List ℕ
one_more_kept list w = if ltb (length list) MAX_WORDS then list ++ w ∷ [] else list

-- these words, or that one of them was too large
abbrev pub fitting_words : Bool → List ℕ → Spelled (List ℕ)
fitting_words large list = if large then TooLarge else Fits list

abbrev pub word_or_none : (add : List ℕ → ℕ → List ℕ) → Bool → List ℕ → Option Integer
    → (Bool → List ℕ → Option (Spelled (List ℕ))) → Option (Spelled (List ℕ))
word_or_none add large list None go = None
word_or_none add large list (Some IntegerTooLarge) go = go true list
word_or_none add large list (Some (Word w)) go = go large (add list w)

-- the words so far, to which those of the words that are left are added
abbrev pub words_from : (add : List ℕ → ℕ → List ℕ) → Bool → List ℕ → List (List ℕ) → Option (Spelled (List ℕ))
words_from add large list [] = Some (fitting_words large list)
words_from add large list (word ∷ words) =
    word_or_none add large list (word_in word) (λ more_large more. words_from add more_large more words)

-- words, and those behind them
abbrev behind : Bool → List ℕ → Option (Spelled (List ℕ)) → Option (Spelled (List ℕ))
behind large list None = None
behind large list (Some TooLarge) = Some TooLarge
behind large list (Some (Fits more)) = Some (fitting_words large (list ++ more))

by_word : (large : Bool) (list : List ℕ) (n : Option Integer) (rest : Option (Spelled (List ℕ)))
    (go : Bool → List ℕ → Option (Spelled (List ℕ)))
    → ((more_large : Bool) (more : List ℕ) → go more_large more ≡ behind more_large more rest)
    → word_or_none one_more large list n go ≡ behind large list (before_word n rest)
by_word large list None rest go later = refl
by_word large list (Some IntegerTooLarge) None go later = later true list
by_word large list (Some IntegerTooLarge) (Some TooLarge) go later = later true list
by_word large list (Some IntegerTooLarge) (Some (Fits more)) go later = later true list
by_word large list (Some (Word w)) None go later = later large (list ++ w ∷ [])
by_word large list (Some (Word w)) (Some TooLarge) go later = later large (list ++ w ∷ [])
by_word large list (Some (Word w)) (Some (Fits more)) go later =
    later large (list ++ w ∷ []) ∙ ap (λ all. Some (fitting_words large all)) (append_assoc list (w ∷ []) more)

from_is_behind : (large : Bool) (list : List ℕ) (words : List (List ℕ))
    → words_from one_more large list words ≡ behind large list (words_in words)
from_is_behind large list [] = ap (λ all. Some (fitting_words large all)) (sym (append-nil list))
from_is_behind large list (word ∷ words) =
    by_word large list (word_in word) (words_in words) (λ more_large more. words_from one_more more_large more words)
    (λ more_large more. from_is_behind more_large more words)

behind_none : (words : Option (Spelled (List ℕ))) → behind false [] words ≡ words
behind_none None = refl
behind_none (Some TooLarge) = refl
behind_none (Some (Fits words)) = refl

-- from no words on, they are those of all
pub from_first : (words : List (List ℕ)) → words_from one_more false [] words ≡ words_in words
from_first words = from_is_behind false [] words ∙ behind_none (words_in words)

-- of one more word, the first `MAX_WORDS`
kept_taken : (list : List ℕ) (w : ℕ) → one_more_kept (take MAX_WORDS list) w ≡ take MAX_WORDS (list ++ w ∷ [])
kept_taken list w =
    let n : ℕ = length (take MAX_WORDS list) in
    let size : n ≡ min MAX_WORDS (length list) = length-take MAX_WORDS list in
    cond_both (ltb n MAX_WORDS) (take MAX_WORDS list ++ w ∷ []) (take MAX_WORDS list)
    (λ kept. kept ≡ take MAX_WORDS (list ++ w ∷ []))
    (λ short.
    let few : length list < MAX_WORDS = omega (arith, ltb-true n MAX_WORDS short, size) in
    ap (λ front. front ++ w ∷ []) (take_all MAX_WORDS list (omega arith))
    ∙ sym (take_all MAX_WORDS (list ++ w ∷ []) (omega (arith, length-append list (w ∷ [])))))
    (λ long. sym (take-append-le MAX_WORDS list (w ∷ []) (omega (arith, ltb-false n MAX_WORDS long, size))))

taken_end : (large : Bool) (list : List ℕ) → fitting_words large (take MAX_WORDS list)
    ≡ first_kept (fitting_words large list)
taken_end true list = refl
taken_end false list = refl

by_kept_word : (large : Bool) (list : List ℕ) (n : Option Integer) (words : List (List ℕ))
    → ((more_large : Bool) (more : List ℕ) → words_from one_more_kept more_large (take MAX_WORDS more) words
    ≡ option_map first_kept (words_from one_more more_large more words))
    → word_or_none one_more_kept large (take MAX_WORDS list) n (λ l more. words_from one_more_kept l more words)
    ≡ option_map first_kept (word_or_none one_more large list n (λ l more. words_from one_more l more words))
by_kept_word large list None words later = refl
by_kept_word large list (Some IntegerTooLarge) words later = later true list
by_kept_word large list (Some (Word w)) words later =
    ap (λ kept. words_from one_more_kept large kept words) (kept_taken list w) ∙ later large (list ++ w ∷ [])

-- the first `MAX_WORDS` of the words so far and of those left are kept
kept_from : (large : Bool) (list : List ℕ) (words : List (List ℕ))
    → words_from one_more_kept large (take MAX_WORDS list) words
    ≡ option_map first_kept (words_from one_more large list words)
kept_from large list [] = ap Some (taken_end large list)
kept_from large list (word ∷ words) =
    by_kept_word large list (word_in word) words (λ more_large more. kept_from more_large more words)

-- from no words on, those kept are the first `MAX_WORDS` of all
pub kept_from_first : (words : List (List ℕ)) → words_from one_more_kept false [] words ≡ first_words_in words
kept_from_first words = kept_from false [] words ∙ ap (option_map first_kept) (from_first words)
