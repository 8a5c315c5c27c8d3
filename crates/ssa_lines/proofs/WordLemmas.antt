-- The words of a line that is put together, and of a line that is cut.
use Rattle.std.proofs.Common.{◌≡◌, ◌==◌, ℕ, ◌+◌, ◌<◌, ◌≤◌, Bool, true, false, not, cond, List, [], ◌∷◌, ◌++◌, length}
use Rattle.std.proofs.Common.{take, drop, get_or, position, take_while, filter, unwrap_or, option_map, Option, None}
use Rattle.std.proofs.Common.{Some, All, refl, sym, ap, ◌∙◌, subst, arith, append-nil, ltb, ⊎_elim, take-append-drop}
use Rattle.std.proofs.Common.{length-drop, get_or-take}
use Rattle.std.specs.Bool.{⊤}
use Rattle.std.specs.List.{prefix_len, position_or_len, list_all}
use Rattle.std.proofs.lemmas.Bool.{not-true, not-false, cases_lt, cond_both, ltb-false, ne_eqb, eq-eqb}
use Rattle.std.proofs.lemmas.List.{drop_more, drop_all, nil_from_length}
use Rattle.std.proofs.lemmas.List.Elements.{All-head, All-tail, All-weaker, All-from_get_or}
use Rattle.std.proofs.lemmas.List.Folds.{length-prefix_len}
use Rattle.std.proofs.lemmas.List.Splits.{slice_split-cons_yes, slice_split_none, slice_split_at}
use Rattle.std.proofs.lemmas.List.Sums.{AllPass-from_list_all, prefix_len-le-length, prefix_len_passes}
use Rattle.std.proofs.lemmas.List.Sums.{prefix_len_stops}
use Rattle.ssa_lines.specs.Lines.{is_space}
use Rattle.ssa_lines.specs.Words.{words_of, has_bytes, is_word_byte, without_last}

-- none of these bytes is a space or a tab
abbrev pub HasNoSpace : List ℕ → Type 0
HasNoSpace word = All (λ b. is_space b ≡ false) word

-- a word in front of these bytes ends there: they begin with a space or a tab, or there are none
abbrev pub EndsWord : List ℕ → Type 0
EndsWord [] = ⊤
EndsWord (b ∷ bytes) = is_space b ≡ true

no_spaces : (word : List ℕ) → All (λ b. is_word_byte b ≡ true) word → HasNoSpace word
no_spaces word =
    All-weaker (λ b. is_word_byte b ≡ true) (λ b. is_space b ≡ false) (λ b. not-true (is_space b)) word

-- bytes that are known pass the test
pub HasNoSpace-from_test : (word : List ℕ) → list_all is_word_byte word ≡ true → HasNoSpace word
HasNoSpace-from_test word e = no_spaces word (AllPass-from_list_all is_word_byte word e)

-- a line without bytes has no words
pub no_words : words_of [] ≡ []
no_words = refl

-- a space at the front of a line changes no words
pub space_in_front : (s : ℕ) (line : List ℕ) → is_space s ≡ true → words_of (s ∷ line) ≡ words_of line
space_in_front s line e = ap (λ parts. filter has_bytes parts) (slice_split-cons_yes is_space s line e)

-- nor do several
pub spaces_in_front : (spaces line : List ℕ) → All (λ b. is_space b ≡ true) spaces →
    words_of (spaces ++ line) ≡ words_of line
spaces_in_front [] line h = refl
spaces_in_front (s ∷ spaces) line h =
    space_in_front s (spaces ++ line) (All-head (λ b. is_space b ≡ true) s spaces h)
    ∙ spaces_in_front spaces line (All-tail (λ b. is_space b ≡ true) s spaces h)

-- a word with nothing behind it is the only one
pub only_word : (word : List ℕ) → 0 < length word → HasNoSpace word → words_of word ≡ word ∷ []
only_word [] some none = absurd (omega arith)
only_word (b ∷ bytes) some none = ap (λ parts. filter has_bytes parts) (slice_split_none is_space (b ∷ bytes) none)

-- a word with a space behind it comes first
pub word_and_space : (word : List ℕ) (s : ℕ) (line : List ℕ) → 0 < length word → HasNoSpace word → is_space s ≡ true →
    words_of (word ++ s ∷ line) ≡ word ∷ words_of line
word_and_space [] s line some none e = absurd (omega arith)
word_and_space (b ∷ bytes) s line some none e =
    ap (λ parts. filter has_bytes parts) (slice_split_at is_space (b ∷ bytes) s line none e)

-- a word that ends comes first, and then the words behind it
pub word_in_front : (word line : List ℕ) → 0 < length word → HasNoSpace word → EndsWord line →
    words_of (word ++ line) ≡ word ∷ words_of line
word_in_front word [] some none ends = ap words_of (append-nil word) ∙ only_word word some none
word_in_front word (s ∷ line) some none ends =
    word_and_space word s line some none ends ∙ ap (λ words. word ∷ words) (sym (space_in_front s line ends))

-- the place that a search gives, or else the length, is how many elements before it fail
pub place_or_all : (test : ℕ → Bool) (xs : List ℕ) (r : Option ℕ) → r ≡ position test xs →
    unwrap_or r (length xs) ≡ position_or_len test xs
place_or_all test xs r e =
    let n = position_or_len test xs in
    ap (λ o. unwrap_or o (length xs)) e
    ∙ cond_both (ltb n (length xs)) (Some n) None (λ o. unwrap_or o (length xs) ≡ n) (λ _. refl)
    (λ past. omega (arith, ltb-false n (length xs) past, prefix_len-le-length (λ x. not (test x)) xs))

not_not : (b : Bool) → not (not b) ≡ b
not_not true = refl
not_not false = refl

-- what isn't a byte of a word is a space
pub spaces_to_word : (bytes : List ℕ) → position_or_len is_word_byte bytes ≡ prefix_len is_space bytes
spaces_to_word bytes = λ i. prefix_len (λ b. not_not (is_space b) i) bytes

-- what stands behind the spaces and tabs at the front
abbrev pub behind_spaces : List ℕ → List ℕ
behind_spaces line = drop (prefix_len is_space line) line

-- the longest front without spaces, and what stands behind it
abbrev pub front_word : List ℕ → List ℕ
front_word bytes = take_while is_word_byte bytes

abbrev pub behind_word : List ℕ → List ℕ
behind_word bytes = drop (prefix_len is_word_byte bytes) bytes

passing_at : (test : ℕ → Bool) (xs : List ℕ) (i : ℕ) → i < prefix_len test xs →
    test (get_or (take_while test xs) i 0) ≡ true
passing_at test xs i lt = ap test (get_or-take (prefix_len test xs) xs i 0 lt) ∙ prefix_len_passes test xs i 0 lt

-- the longest front that passes a test passes it
passing_front : (test : ℕ → Bool) (xs : List ℕ) → All (λ x. test x ≡ true) (take_while test xs)
passing_front test xs =
    All-from_get_or (λ x. test x ≡ true) (take_while test xs) 0
    (λ i lt. passing_at test xs i (omega (arith, length-prefix_len test xs)))

-- the words are those of what stands behind the spaces
words_behind_spaces : (line : List ℕ) → words_of line ≡ words_of (behind_spaces line)
words_behind_spaces line =
    sym (ap words_of (take-append-drop (prefix_len is_space line) line))
    ∙ spaces_in_front (take_while is_space line) (behind_spaces line) (passing_front is_space line)

word_begins : (b : ℕ) (bytes : List ℕ) → is_space b ≡ false → 0 < prefix_len is_word_byte (b ∷ bytes)
word_begins b bytes e = omega (arith, ap (λ t. cond (not t) (1 + prefix_len is_word_byte bytes) 0) e)

-- a word begins behind the spaces
word_behind_spaces : (line : List ℕ) → 0 < length (behind_spaces line) → 0 < length (front_word (behind_spaces line))
word_behind_spaces line some =
    let n = prefix_len is_space line in
    let lt : n < length line = omega (arith, length-drop n line) in
    let begins = word_begins (get_or line n 0) (drop (n + 1) line) (prefix_len_stops is_space line 0 lt) in
    let begun = subst (λ bytes. 0 < prefix_len is_word_byte bytes) (sym (drop_more line n 0 lt)) begins in
    omega (arith, begun, length-prefix_len is_word_byte (behind_spaces line))

-- where none begins, there are spaces alone
no_word_behind_spaces : (line : List ℕ) → length (front_word (behind_spaces line)) ≡ 0 → behind_spaces line ≡ []
no_word_behind_spaces line none =
    nil_from_length (behind_spaces line)
    (⊎_elim (λ some. absurd (omega (arith, word_behind_spaces line some))) (λ few. omega arith)
    (cases_lt 0 (length (behind_spaces line))))

space_at_end : (bytes : List ℕ) → prefix_len is_word_byte bytes < length bytes →
    is_space (get_or bytes (prefix_len is_word_byte bytes) 0) ≡ true
space_at_end bytes lt =
    not-false (is_space (get_or bytes (prefix_len is_word_byte bytes) 0)) (prefix_len_stops is_word_byte bytes 0 lt)

-- a word ends behind the longest front without spaces
word_ends : (bytes : List ℕ) → EndsWord (behind_word bytes)
word_ends bytes =
    let n = prefix_len is_word_byte bytes in
    ⊎_elim (λ lt. subst EndsWord (sym (drop_more bytes n 0 lt)) (space_at_end bytes lt))
    (λ past. subst EndsWord (sym (drop_all n bytes past)) tt) (cases_lt n (length bytes))

-- the longest front without spaces is the first word
first_word : (bytes : List ℕ) → 0 < length (front_word bytes) →
    words_of bytes ≡ front_word bytes ∷ words_of (behind_word bytes)
first_word bytes some =
    let none = no_spaces (front_word bytes) (passing_front is_word_byte bytes) in
    sym (ap words_of (take-append-drop (prefix_len is_word_byte bytes) bytes))
    ∙ word_in_front (front_word bytes) (behind_word bytes) some none (word_ends bytes)

-- a word that is cut off behind the spaces, and the rest of the line
module _ (line behind word rest : List ℕ) (n : ℕ) (cut : behind ≡ behind_spaces line)
    (long : n ≡ prefix_len is_word_byte behind) (front : word ≡ take n behind) (back : rest ≡ drop n behind) where
  word_is : word ≡ front_word (behind_spaces line)
  word_is = front ∙ ap (λ k. take k behind) long ∙ ap front_word cut

  rest_is : rest ≡ behind_word (behind_spaces line)
  rest_is = back ∙ ap (λ k. drop k behind) long ∙ ap behind_word cut

  -- the words of the line are this word and those of the rest
  pub word_is_taken : 0 < length word → words_of line ≡ word ∷ words_of rest
  word_is_taken some =
      words_behind_spaces line
      ∙ first_word (behind_spaces line) (omega (arith, ap length word_is))
      ∙ sym (λ i. word_is i ∷ words_of (rest_is i))

  -- or there are none
  pub no_word_is_taken : length word ≡ 0 → (words_of line ≡ []) × (words_of rest ≡ [])
  no_word_is_taken none =
      let empty = no_word_behind_spaces line (omega (arith, ap length word_is)) in
      (words_behind_spaces line ∙ ap words_of empty, ap words_of (rest_is ∙ ap behind_word empty))

-- there are no words exactly where there are spaces alone
pub spaces_alone : (line : List ℕ) → (prefix_len is_space line == length line) ≡ (length (words_of line) == 0)
spaces_alone line =
    let n = prefix_len is_space line in
    let some = λ (lt : n < length line).
    words_behind_spaces line
    ∙ first_word (behind_spaces line) (word_behind_spaces line (omega (arith, length-drop n line)))
    in
    let none = λ (past : length line ≤ n). words_behind_spaces line ∙ ap words_of (drop_all n line past) in
    ⊎_elim
    (λ lt. ne_eqb n (length line) (λ e. omega arith)
    ∙ sym (ne_eqb (length (words_of line)) 0 (λ e. omega (arith, ap length (some lt)))))
    (λ past. eq-eqb n (length line) (omega (arith, prefix_len-le-length is_space line))
    ∙ sym (eq-eqb (length (words_of line)) 0 (ap length (none past))))
    (cases_lt n (length line))

map_cond : (c : ℕ) (b : Bool) (bytes : List ℕ) →
    option_map (λ front. c ∷ front) (cond b (Some bytes) None) ≡ cond b (Some (c ∷ bytes)) None
map_cond c true bytes = refl
map_cond c false bytes = refl

-- a word without its last byte
pub without_last_of : (last b : ℕ) (front : List ℕ) →
    without_last last (front ++ b ∷ []) ≡ cond (b == last) (Some front) None
without_last_of last b [] = refl
without_last_of last b (c ∷ []) = map_cond c (b == last) []
without_last_of last b (c ∷ d ∷ front) =
    ap (option_map (λ bytes. c ∷ bytes)) (without_last_of last b (d ∷ front)) ∙ map_cond c (b == last) (d ∷ front)
