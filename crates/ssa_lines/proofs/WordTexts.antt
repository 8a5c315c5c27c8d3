-- What a printed line is made of: words and texts whose bytes are known, and names.
use Rattle.std.proofs.Common.{◌≡◌, ◌==◌, ℕ, ◌+◌, ◌<◌, ◌≤◌, nat_le, Bool, true, ◌&&◌, ◌||◌, cond, List, [], ◌∷◌, ◌++◌}
use Rattle.std.proofs.Common.{length-append, length, None, Some, refl, ap, ◌∙◌, arith}
use Rattle.std.specs.List.{list_all}
use Rattle.std.proofs.lemmas.Bool.{and_parts, and_from, eq-eqb, le-leb, leb-true}
use Rattle.ssa_ir.specs.declared.limits.TheConstants.{MAX_LINE_BYTES}
use Rattle.ssa_ir.specs.Names.{IsName, has_name_bytes, is_name_start, is_name_byte, is_digit}
use Rattle.ssa_lines.specs.declared.forms.Form.{Form}
use Rattle.ssa_lines.specs.Forms.{form_of}
use Rattle.ssa_lines.specs.Headers.{is_name}
use Rattle.ssa_lines.specs.Lines.{is_plain_byte}
use Rattle.ssa_lines.specs.Steps.{◌>>=◌}
use Rattle.ssa_lines.specs.ValueForms.{between}
use Rattle.ssa_lines.specs.Words.{words_of, has_bytes, is_word_byte, without_first}
use Rattle.ssa_lines.proofs.WordLemmas.{without_last_of}
use Rattle.ssa_lines.proofs.FormFacts.{Spells}
use Rattle.ssa_lines.proofs.LineBytes.{AllPlain, AllPlain-append, AllPlain-from_test, allowed_if_plain}
use Rattle.ssa_lines.proofs.LineBytes.{no_newline_if_plain, IsPlainWord, plain_word_append, plain_word_from_tests}
use Rattle.ssa_lines.proofs.LineBytes.{plain_word_from_name}

-- a word whose bytes are known
abbrev pub is_short_word : ℕ → List ℕ → Bool
is_short_word most word =
    has_bytes word && (nat_le (length word) most && (list_all is_plain_byte word && list_all is_word_byte word))

has_length : (word : List ℕ) → has_bytes word ≡ true → 0 < length word
has_length [] e = cc
has_length (b ∷ word) e = omega arith

pub short_word : (most : ℕ) (word : List ℕ) → is_short_word most word ≡ true → IsPlainWord most word
short_word most word e =
    let bytes : Bool = list_all is_plain_byte word && list_all is_word_byte word in
    let some = and_parts (has_bytes word) (nat_le (length word) most && bytes) e in
    let short = and_parts (nat_le (length word) most) bytes some.1 in
    let both = and_parts (list_all is_plain_byte word) (list_all is_word_byte word) short.1 in
    plain_word_from_tests most word (has_length word some.0) (leb-true (length word) most short.0) both.0 both.1

-- a word of so many bytes has no more than a greater number
pub longer_word : (most more : ℕ) (word : List ℕ) → most ≤ more → IsPlainWord most word → IsPlainWord more word
longer_word most more word le h =
    record { some = h.some; short = omega (arith, h.short); plain = h.plain; unspaced = h.unspaced }

-- a text that may stand in a line, of at most so many bytes
pub record IsPlainText (most : ℕ) (text : List ℕ) : Type 0 where
  pub short : length text ≤ most
  pub plain : AllPlain text

pub text_of_word : (most : ℕ) (word : List ℕ) → IsPlainWord most word → IsPlainText most word
text_of_word most word h = record { short = h.short; plain = h.plain }

pub known_text : (most : ℕ) (text : List ℕ) → (nat_le (length text) most && list_all is_plain_byte text) ≡ true →
    IsPlainText most text
known_text most text e =
    let both = and_parts (nat_le (length text) most) (list_all is_plain_byte text) e in
    record { short = leb-true (length text) most both.0; plain = AllPlain-from_test text both.1 }

pub text_append : (most more : ℕ) (text rest : List ℕ) → IsPlainText most text → IsPlainText more rest →
    IsPlainText (most + more) (text ++ rest)
text_append most more text rest h k = record {
  short = omega (arith, length-append text rest, h.short, k.short);
  plain = AllPlain-append text rest h.plain k.plain;
}

-- what stands between two bytes is read from there
pub between_read : (first last : ℕ) (inside : List ℕ) →
    between first last (first ∷ (inside ++ last ∷ [])) ≡ Some inside
between_read first last inside =
    ap (λ front. front >>= without_first first) (without_last_of last last (first ∷ inside))
    ∙ ap (λ t. cond t (Some (first ∷ inside)) None >>= without_first first) (eq-eqb last last refl)
    ∙ ap (λ t. cond t (Some inside) None) (eq-eqb first first refl)

-- and is a word with them
pub between_is_word : (most first last : ℕ) (inside : List ℕ) → is_short_word 1 (first ∷ []) ≡ true →
    is_short_word 1 (last ∷ []) ≡ true → IsPlainWord most inside →
    IsPlainWord (most + 2) (first ∷ (inside ++ last ∷ []))
between_is_word most first last inside e f h =
    let behind = plain_word_append most 1 inside (last ∷ []) h (short_word 1 (last ∷ []) f) in
    let all = plain_word_append 1 (most + 1) (first ∷ []) (inside ++ last ∷ []) (short_word 1 (first ∷ []) e) behind in
    longer_word (1 + (most + 1)) (most + 2) (first ∷ (inside ++ last ∷ [])) (omega arith) all

-- all bytes of a name are of names
pub name_bytes : (name : List ℕ) → has_name_bytes name ≡ true → list_all is_name_byte name ≡ true
name_bytes [] e = cc
name_bytes (b ∷ name) e =
    let both = and_parts (is_name_start b) (list_all is_name_byte name) e in
    let start : is_name_byte b ≡ true = ap (λ t. t || is_digit b || b == 46 || b == 47 || b == 36) both.0 in
    and_from (is_name_byte b) (list_all is_name_byte name) start both.1

some_name : (name : List ℕ) → has_name_bytes name ≡ true → 0 < length name
some_name [] e = cc
some_name (b ∷ name) e = omega arith

-- a name is a word of at most 100 bytes
pub name_is_word : (name : List ℕ) → IsName name → IsPlainWord 100 name
name_is_word name h = plain_word_from_name 100 name (some_name name h.form) h.few (name_bytes name h.form)

pub is_name-name : (name : List ℕ) → IsName name → is_name name ≡ true
is_name-name name h = and_from (has_name_bytes name) (nat_le (length name) 100) h.form (le-leb (length name) 100 h.few)

-- a line of plain bytes spells the form of its words
pub spells_text : (line : List ℕ) (form : Form) → form_of (words_of line) ≡ form → IsPlainText MAX_LINE_BYTES line →
    Spells line form
spells_text line form e h = record {
  form_is = e;
  allowed = allowed_if_plain line h.plain;
  short = h.short;
  one_line = no_newline_if_plain line h.plain;
}
