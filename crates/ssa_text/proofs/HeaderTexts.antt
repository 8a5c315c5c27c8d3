-- The lines of signatures and of functions' beginnings are read as what they were printed from.
use Rattle.std.proofs.Common.{◌≡◌, ℕ, ◌+◌, ◌*◌, true, false, true≢false, not, ◌&&◌, cond, List, [], ◌∷◌, ◌++◌}
use Rattle.std.proofs.Common.{append_assoc, append-nil, length-append, length, take, drop, codes, Option, Some, refl}
use Rattle.std.proofs.Common.{sym, ap, subst, ◌∙◌, arith}
use Rattle.std.specs.List.{list_all, list_any, position_or_len, before_first, after_first}
use Rattle.std.proofs.lemmas.Bool.{and_parts, or_right, ne_eqb}
use Rattle.std.proofs.lemmas.List.{take_at, drop_at}
use Rattle.std.proofs.lemmas.List.Elements.{All-append}
use Rattle.std.proofs.lemmas.List.Folds.{list_any-append}
use Rattle.ssa_ir.specs.declared.limits.TheConstants.{MAX_LINE_BYTES}
use Rattle.ssa_ir.specs.declared.types.Scalar.{Scalar}
use Rattle.ssa_ir.specs.declared.types.Sig.{Sig}
use Rattle.ssa_ir.specs.Limits.{SigWithinLimits}
use Rattle.ssa_ir.specs.Names.{IsName, is_name_byte}
use Rattle.ssa_ir.specs.Texts.{group_text, results_text, sig_text}
use Rattle.ssa_lines.specs.declared.forms.Form.TheVariants.{Sig as SigForm, Func as FuncForm}
use Rattle.ssa_lines.specs.Forms.{or_bad}
use Rattle.ssa_lines.specs.Headers.{is_name, is_open, group_ahead, nothing_behind, results_of, name_before}
use Rattle.ssa_lines.specs.Headers.{signature_of}
use Rattle.ssa_lines.specs.Lines.{is_space}
use Rattle.ssa_lines.specs.Steps.{◌>>=◌, only_where}
use Rattle.ssa_lines.specs.Words.{words_of}
use Rattle.ssa_lines.proofs.WordLemmas.{HasNoSpace, EndsWord, space_in_front}
use Rattle.ssa_lines.proofs.FormFacts.{Spells}
use Rattle.ssa_text.proofs.TypeTexts.{first_word, more_words, first_is_word, inside_text, last_inside, more_inside}
use Rattle.ssa_text.proofs.TypeTexts.{group_words, group_read}
use Rattle.ssa_lines.proofs.WordTexts.{short_word, IsPlainText, text_of_word, known_text, text_append, name_bytes}
use Rattle.ssa_lines.proofs.WordTexts.{name_is_word, is_name-name, spells_text}

-- the group of results is read as they are
results_read : (types : List Scalar) → results_of (words_of (results_text types)) ≡ Some types
results_read [] = refl
results_read (t ∷ types) =
    let text : List ℕ = inside_text (t ∷ types) in
    let none : HasNoSpace (codes "(") = (short_word 1 (codes "(") refl).unspaced in
    let same = append-nil text in
    ap results_of
    (space_in_front 32 (codes "(" ++ text) refl
    ∙ ap (λ inside. words_of (codes "(" ++ inside)) (sym same)
    ∙ group_words (codes "(") (t ∷ types) [] none tt)
    ∙ ap (λ group. group >>= λ read. nothing_behind read.1 read.0) (group_read (t ∷ types) [])

results_end_word : (types : List Scalar) → EndsWord (results_text types)
results_end_word [] = tt
results_end_word (t ∷ types) = refl

-- a name has no parenthesis
name_byte_is_closed : (b : ℕ) → is_name_byte b ≡ true → is_open b ≡ false
name_byte_is_closed b e = ne_eqb b 40 (λ same. true≢false (sym e ∙ ap is_name_byte same))

-- a parenthesis behind a name is the first one
first_open : (name rest : List ℕ) → list_all is_name_byte name ≡ true →
    position_or_len is_open (name ++ 40 ∷ rest) ≡ length name
first_open [] rest e = refl
first_open (b ∷ name) rest e =
    let both = and_parts (is_name_byte b) (list_all is_name_byte name) e in
    let here = name_byte_is_closed b both.0 in
    ap (λ t. cond (not t) (1 + position_or_len is_open (name ++ 40 ∷ rest)) 0) here
    ∙ ap (λ n. 1 + n) (first_open name rest both.1)
    ∙ omega arith

module _ (name rest : List ℕ) (h : IsName name) where
  open_at : position_or_len is_open (name ++ 40 ∷ rest) ≡ length name
  open_at = first_open name rest (name_bytes name h.form)

  before_open : before_first is_open (name ++ 40 ∷ rest) ≡ name
  before_open = ap (λ n. take n (name ++ 40 ∷ rest)) open_at ∙ take_at name (40 ∷ rest) (length name) refl

  after_open : after_first is_open (name ++ 40 ∷ rest) ≡ rest
  after_open =
      ap (λ n. drop (n + 1) (name ++ 40 ∷ rest)) open_at
      ∙ ap (drop (length name + 1)) (sym (append_assoc name (40 ∷ []) rest))
      ∙ drop_at (name ++ 40 ∷ []) rest (length name + 1) (length-append name (40 ∷ []))

  has_open : list_any is_open (name ++ 40 ∷ rest) ≡ true
  has_open = list_any-append is_open name (40 ∷ rest) ∙ or_right (list_any is_open name) true refl

  name_is_before : name_before (name ++ 40 ∷ rest) ≡ Some name
  name_is_before =
      (λ i. only_where (has_open i && is_name (before_open i)) >>= λ found. Some (before_open i))
      ∙ ap (λ t. only_where t >>= λ found. Some name) (is_name-name name h)

-- a signature of this name and these parameters, with the results behind them
abbrev with_results : List ℕ → List Scalar × List (List ℕ) → Option Sig
with_results name params =
    results_of params.1 >>= λ results. Some (record { name = name; params = params.0; results = results })

-- the words of a signature are read as it is
pub sig_read : (s : Sig) → IsName s.name → signature_of (words_of (sig_text s)) ≡ Some s
sig_read s h =
    let behind : List (List ℕ) = words_of (results_text s.results) in
    let first : List ℕ = first_word s.params in
    let words : List (List ℕ) = more_words s.params ++ behind in
    let front : List ℕ = s.name ++ codes "(" in
    let none : HasNoSpace (codes "(") = (short_word 1 (codes "(") refl).unspaced in
    let opened = All-append (λ b. is_space b ≡ false) s.name (codes "(") (name_is_word s.name h).unspaced none in
    let before = name_is_before s.name first h in
    let after = after_open s.name first h in
    ap (λ text. signature_of (words_of text))
    (sym (append_assoc s.name (codes "(") (inside_text s.params ++ results_text s.results)))
    ∙ ap signature_of (group_words front s.params (results_text s.results) opened (results_end_word s.results))
    ∙ ap (λ word. signature_of (word ∷ words)) (append_assoc s.name (codes "(") first)
    ∙ (λ i. before i >>= λ name. group_ahead (after i ∷ words) >>= with_results name)
    ∙ ap (λ group. group >>= with_results s.name) (group_read s.params behind)
    ∙ ap (λ o. o >>= λ results. Some (record { name = s.name; params = s.params; results = results }))
    (results_read s.results)

-- the text of a group from inside its parenthesis on, nine bytes at most for each type and one
inside_is_text : (types : List Scalar) → IsPlainText (9 * length types + 1) (inside_text types)
inside_is_text [] = known_text 1 (codes ")") refl
inside_is_text (t ∷ []) =
    let word = first_is_word (t ∷ []) in
    subst (IsPlainText 10) (sym (last_inside t)) (record { short = omega (arith, word.short); plain = word.plain })
inside_is_text (t ∷ u ∷ types) =
    let most : ℕ = 9 * length (u ∷ types) + 1 in
    let first : List ℕ = first_word (t ∷ u ∷ types) in
    let inside : List ℕ = inside_text (u ∷ types) in
    let word = text_of_word 8 first (first_is_word (t ∷ u ∷ types)) in
    let behind = text_append 1 most (codes " ") inside (known_text 1 (codes " ") refl) (inside_is_text (u ∷ types)) in
    let all = text_append 8 (1 + most) first (32 ∷ inside) word behind in
    subst (IsPlainText (9 * length (t ∷ u ∷ types) + 1)) (sym (more_inside t u types))
    (record { short = omega (arith, all.short); plain = all.plain })

results_is_text : (types : List Scalar) → IsPlainText (9 * length types + 3) (results_text types)
results_is_text [] = known_text 3 [] refl
results_is_text (t ∷ types) =
    let most : ℕ = 9 * length (t ∷ types) + 1 in
    let inside = inside_is_text (t ∷ types) in
    let all = text_append 2 most (codes " (") (inside_text (t ∷ types)) (known_text 2 (codes " (") refl) inside in
    record { short = omega (arith, all.short); plain = all.plain }

-- a signature within the limits has 1300 bytes at most
sig_is_text : (s : Sig) → IsName s.name → SigWithinLimits s → IsPlainText 1300 (sig_text s)
sig_is_text s h limits =
    let n : ℕ = 9 * length s.params + 1 in
    let m : ℕ = 9 * length s.results + 3 in
    let params : List ℕ = group_text s.params in
    let results : List ℕ = results_text s.results in
    let inside = inside_is_text s.params in
    let group = text_append 1 n (codes "(") (inside_text s.params) (known_text 1 (codes "(") refl) inside in
    let groups = text_append (1 + n) m params results group (results_is_text s.results) in
    let name = text_of_word 100 s.name (name_is_word s.name h) in
    let all = text_append 100 (1 + n + m) s.name (params ++ results) name groups in
    record { short = omega (arith, all.short, limits.params, limits.results); plain = all.plain }

header_is_text : (word : List ℕ) (s : Sig) → IsPlainText 5 word → IsName s.name → SigWithinLimits s →
    IsPlainText MAX_LINE_BYTES (word ++ sig_text s)
header_is_text word s h name limits =
    let all = text_append 5 1300 word (sig_text s) h (sig_is_text s name limits) in
    record { short = omega (arith, all.short); plain = all.plain }

-- the line of a signature
pub spells_sig : (s : Sig) → IsName s.name → SigWithinLimits s → Spells (codes "sig " ++ sig_text s) (SigForm s)
spells_sig s name limits =
    spells_text (codes "sig " ++ sig_text s) (SigForm s) (ap (or_bad SigForm) (sig_read s name))
    (header_is_text (codes "sig ") s (known_text 5 (codes "sig ") refl) name limits)

-- the line of a function's beginning
pub spells_func : (s : Sig) → IsName s.name → SigWithinLimits s → Spells (codes "func " ++ sig_text s) (FuncForm s)
spells_func s name limits =
    spells_text (codes "func " ++ sig_text s) (FuncForm s) (ap (or_bad FuncForm) (sig_read s name))
    (header_is_text (codes "func ") s (known_text 5 (codes "func ") refl) name limits)
