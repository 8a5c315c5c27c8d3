-- The printed lines of cases spell what they were printed from.
use Rattle.std.proofs.Common.{◌≡◌, ℕ, ◌+◌, ◌≤◌, true, cond, List, [], ◌∷◌, ◌++◌, length, map, codes, decimal, None}
use Rattle.std.proofs.Common.{Some, option_map, All, refl, sym, ap, ◌∙◌, arith, append_assoc}
use Rattle.std.proofs.Math.Seq.{take_all}
use Rattle.std.proofs.lemmas.List.Elements.{All-head, All-tail, All-weaker, All-from_recursion}
use Rattle.ssa_ir.specs.declared.limits.TheConstants.{MAX_BOUND, MAX_LINE_BYTES, MAX_PIECE_BYTES, MAX_WORDS}
use Rattle.gossa_base.specs.Texts.{hex_text, hex_bytes_text}
use Rattle.ssa_ir.specs.declared.case.Piece.{Piece}
use Rattle.ssa_ir.specs.Names.{IsName}
use Rattle.ssa_ir.specs.Texts.{newline}
use Rattle.ssa_lines.specs.Lines.{is_allowed}
use Rattle.ssa_lines.specs.Steps.{◌>>=◌}
use Rattle.ssa_lines.specs.ValueForms.{checked_name}
use Rattle.ssa_lines.specs.Words.{words_of}
use Rattle.ssa_lines.specs.declared.forms.Spelled.TheVariants.{Fits}
use Rattle.ssa_lines.specs.declared.numbers.Integer.{Integer}
use Rattle.ssa_lines.specs.declared.numbers.Integer.TheVariants.{Word}
use Rattle.ssa_lines.proofs.LineBytes.{allowed_if_plain, no_newline_if_plain, IsPlainWord, words_of-front_led}
use Rattle.ssa_lines.proofs.LineBytes.{AllPlain-led, length-led, words_of-spaced}
use Rattle.ssa_lines.proofs.LineLemmas.{HasNoNewline}
use Rattle.ssa_lines.proofs.WordTexts.{short_word, longer_word, IsPlainText, text_of_word, known_text, text_append}
use Rattle.ssa_lines.proofs.WordTexts.{name_is_word, is_name-name}
use Rattle.case_text.specs.CaseForms.{case_form_of, or_bad_line, word_in, with_word, words_in, before_word, first_kept}
use Rattle.case_text.specs.CaseForms.{only_word, piece, piece_in, some_bytes_in, head_of, head_in, sym_of, sym_in}
use Rattle.case_text.specs.CaseText.{words_text, words_line}
use Rattle.case_text.specs.declared.forms.CaseForm.{CaseForm}
use Rattle.case_text.specs.declared.forms.CaseForm.TheVariants.{Head, Args, Sym, Mem, Junk as JunkForm, Fill}
use Rattle.case_text.specs.declared.forms.CaseForm.TheVariants.{Reply as ReplyForm, Write, ReplyJunk, ReplyFill}
use Rattle.case_text.specs.declared.forms.CaseForm.TheVariants.{Clobber}
use Rattle.case_text.proofs.CaseFacts.{IsWord, PieceFacts}
use Rattle.case_text.proofs.HexTexts.{hex_is_word, decimal_is_word, word_in-hex, word_in-decimal}
use Rattle.case_text.proofs.HexByteTexts.{hex_bytes_are_word, some_bytes_in-hex_bytes}

-- a line that spells a form, and may stand in a text
pub record SpellsCase (line : List ℕ) (form : CaseForm) : Type 0 where
  pub form_is : case_form_of (words_of line) ≡ form
  pub allowed : is_allowed line ≡ true
  pub short : length line ≤ MAX_LINE_BYTES
  pub one_line : HasNoNewline line

-- a line of plain bytes spells the form of its words
spells_plain : (line : List ℕ) (form : CaseForm) → case_form_of (words_of line) ≡ form → IsPlainText MAX_LINE_BYTES line
    →
    SpellsCase line form
spells_plain line form e h = record {
  form_is = e;
  allowed = allowed_if_plain line h.plain;
  short = h.short;
  one_line = no_newline_if_plain line h.plain;
}

-- lines of words

-- words are read from their texts
words_in-hex : (words : List ℕ) → All IsWord words → words_in (map hex_text words) ≡ Some (Fits words)
words_in-hex [] all = refl
words_in-hex (w ∷ words) all =
    let here = word_in-hex w (All-head IsWord w words all) in
    let later = words_in-hex words (All-tail IsWord w words all) in
    (λ i. before_word (here i) (later i))

-- a line of at most `MAX_WORDS` words behind its keyword
spells_words : (keyword words : List ℕ) (form : CaseForm) → IsPlainWord 5 keyword → All IsWord words →
    length words ≤ MAX_WORDS → case_form_of (keyword ∷ map hex_text words) ≡ form →
    SpellsCase (keyword ++ words_text words) form
spells_words keyword words form h all few e =
    let each : All (λ w. IsPlainWord 18 (hex_text w)) words =
    All-weaker IsWord (λ w. IsPlainWord 18 (hex_text w)) hex_is_word words all
    in
    let behind : IsPlainText 2000 (words_text words) = record {
      short = omega (arith, length-led hex_text 18 words each);
      plain = AllPlain-led hex_text 18 words each;
    } in
    let text = text_append 5 2000 keyword (words_text words) (text_of_word 5 keyword h) behind in
    spells_plain (keyword ++ words_text words) form
    (ap case_form_of (words_of-front_led hex_text 18 keyword words (longer_word 5 18 keyword (omega arith) h) each)
    ∙ e)
    (record { short = omega (arith, text.short); plain = text.plain })

-- the first of at most as many words are all
first_words_fit : (words : List ℕ) → length words ≤ MAX_WORDS → first_kept (Fits words) ≡ Fits words
first_words_fit words few = ap (λ kept. Fits kept) (take_all MAX_WORDS words few)

pub spells_args : (words : List ℕ) → All IsWord words → length words ≤ MAX_WORDS →
    SpellsCase (codes "args" ++ words_text words) (Args (Fits words))
spells_args words all few =
    spells_words (codes "args") words (Args (Fits words)) (short_word 5 (codes "args") refl) all few
    (ap (λ o. or_bad_line Args (option_map first_kept o)) (words_in-hex words all)
    ∙ ap Args (first_words_fit words few))

pub spells_reply : (words : List ℕ) → All IsWord words → length words ≤ MAX_WORDS →
    SpellsCase (codes "reply" ++ words_text words) (ReplyForm (Fits words))
spells_reply words all few =
    spells_words (codes "reply") words (ReplyForm (Fits words)) (short_word 5 (codes "reply") refl) all few
    (ap (λ o. or_bad_line ReplyForm (option_map first_kept o)) (words_in-hex words all)
    ∙ ap ReplyForm (first_words_fit words few))

pub spells_junk : (words : List ℕ) → All IsWord words → length words ≤ MAX_WORDS →
    SpellsCase (codes "junk" ++ words_text words) (JunkForm (Fits words))
spells_junk words all few =
    spells_words (codes "junk") words (JunkForm (Fits words)) (short_word 5 (codes "junk") refl) all few
    (ap (or_bad_line JunkForm) (words_in-hex words all))

pub spells_reply_junk : (words : List ℕ) → All IsWord words → length words ≤ MAX_WORDS →
    SpellsCase (codes "rjunk" ++ words_text words) (ReplyJunk (Fits words))
spells_reply_junk words all few =
    spells_words (codes "rjunk") words (ReplyJunk (Fits words)) (short_word 5 (codes "rjunk") refl) all few
    (ap (or_bad_line ReplyJunk) (words_in-hex words all))

-- lines of one word

abbrev pub one_word_line : (keyword word : List ℕ) → List ℕ
one_word_line keyword word = keyword ++ 32 ∷ word

spells_one : (keyword : List ℕ) (w : ℕ) (form : CaseForm) → IsPlainWord 7 keyword → IsWord w →
    case_form_of (keyword ∷ hex_text w ∷ []) ≡ form → SpellsCase (one_word_line keyword (hex_text w)) form
spells_one keyword w form h small e =
    let word : IsPlainWord 18 (hex_text w) = hex_is_word w small in
    let first : IsPlainWord 18 keyword = longer_word 7 18 keyword (omega arith) h in
    let all = All-from_recursion (IsPlainWord 18) (hex_text w ∷ []) (word, tt) in
    let space = known_text 1 (codes " ") refl in
    let behind = text_append 1 18 (codes " ") (hex_text w) space (text_of_word 18 (hex_text w) word) in
    let text = text_append 7 19 keyword (32 ∷ hex_text w) (text_of_word 7 keyword h) behind in
    spells_plain (one_word_line keyword (hex_text w)) form
    (ap case_form_of (words_of-spaced 18 keyword (hex_text w ∷ []) first all) ∙ e)
    (record { short = omega (arith, text.short); plain = text.plain })

-- the word is read
only_word-hex : (w : ℕ) → IsWord w → only_word (hex_text w ∷ []) ≡ Some (Fits w)
only_word-hex w small = ap (option_map (λ v. with_word v (λ n. n))) (word_in-hex w small)

pub spells_fill : (w : ℕ) → IsWord w → SpellsCase (one_word_line (codes "fill") (hex_text w)) (Fill (Fits w))
spells_fill w small =
    spells_one (codes "fill") w (Fill (Fits w)) (short_word 7 (codes "fill") refl) small
    (ap (or_bad_line Fill) (only_word-hex w small))

pub spells_reply_fill : (w : ℕ) → IsWord w →
    SpellsCase (one_word_line (codes "rfill") (hex_text w)) (ReplyFill (Fits w))
spells_reply_fill w small =
    spells_one (codes "rfill") w (ReplyFill (Fits w)) (short_word 7 (codes "rfill") refl) small
    (ap (or_bad_line ReplyFill) (only_word-hex w small))

pub spells_clobber : (w : ℕ) → IsWord w →
    SpellsCase (one_word_line (codes "clobber") (hex_text w)) (Clobber (Fits w))
spells_clobber w small =
    spells_one (codes "clobber") w (Clobber (Fits w)) (short_word 7 (codes "clobber") refl) small
    (ap (or_bad_line Clobber) (only_word-hex w small))

-- lines of two words

abbrev pub two_words_line : (keyword first second : List ℕ) → List ℕ
two_words_line keyword first second = keyword ++ 32 ∷ (first ++ 32 ∷ second)

spells_two : (most more : ℕ) (keyword first second : List ℕ) (form : CaseForm) → IsPlainWord 5 keyword →
    IsPlainWord most first → IsPlainWord more second → most + more ≤ 4000 →
    case_form_of (keyword ∷ first ∷ second ∷ []) ≡ form → SpellsCase (two_words_line keyword first second) form
spells_two most more keyword first second form h k l few e =
    let all =
    All-from_recursion (IsPlainWord 4005) (first ∷ second ∷ []) (
      longer_word most 4005 first (omega arith) k,
      (longer_word more 4005 second (omega arith) l, tt),
    )
    in
    let space = known_text 1 (codes " ") refl in
    let end = text_append 1 more (codes " ") second space (text_of_word more second l) in
    let middle = text_append most (1 + more) first (32 ∷ second) (text_of_word most first k) end in
    let behind = text_append 1 (most + (1 + more)) (codes " ") (first ++ 32 ∷ second) space middle in
    let text =
    text_append 5 (1 + (most + (1 + more))) keyword (32 ∷ (first ++ 32 ∷ second)) (text_of_word 5 keyword h) behind
    in
    spells_plain (two_words_line keyword first second) form
    (ap case_form_of
    (words_of-spaced 4005 keyword (first ∷ second ∷ []) (longer_word 5 4005 keyword (omega arith) h) all) ∙ e)
    (record { short = omega (arith, text.short); plain = text.plain })

-- a name is taken for one
name_is_checked : (name : List ℕ) → IsName name → checked_name name ≡ Some name
name_is_checked name h = ap (λ t. cond t (Some name) None) (is_name-name name h)

head_read : (name : List ℕ) (bound : ℕ) → IsName name → bound ≤ MAX_BOUND →
    head_in (name ∷ decimal bound ∷ []) ≡ Some (Fits (head_of name bound))
head_read name bound h small =
    ap (λ o. o >>= λ n. word_in (decimal bound) >>= λ w. Some (with_word w (head_of n))) (name_is_checked name h)
    ∙ ap (λ o. o >>= λ w. Some (with_word w (head_of name))) (word_in-decimal bound small)

pub spells_head : (name : List ℕ) (bound : ℕ) → IsName name → bound ≤ MAX_BOUND →
    SpellsCase (two_words_line (codes "case") name (decimal bound)) (Head (Fits (head_of name bound)))
spells_head name bound h small =
    spells_two 100 7 (codes "case") name (decimal bound) (Head (Fits (head_of name bound)))
    (short_word 5 (codes "case") refl) (name_is_word name h) (decimal_is_word bound small) (omega arith)
    (ap (or_bad_line Head) (head_read name bound h small))

sym_read : (name : List ℕ) (w : ℕ) → IsName name → IsWord w →
    sym_in (name ∷ hex_text w ∷ []) ≡ Some (Fits (sym_of name w))
sym_read name w h small =
    ap (λ o. o >>= λ n. word_in (hex_text w) >>= λ v. Some (with_word v (sym_of n))) (name_is_checked name h)
    ∙ ap (λ o. o >>= λ v. Some (with_word v (sym_of name))) (word_in-hex w small)

pub spells_sym : (name : List ℕ) (w : ℕ) → IsName name → IsWord w →
    SpellsCase (two_words_line (codes "sym") name (hex_text w)) (Sym (Fits (sym_of name w)))
spells_sym name w h small =
    spells_two 100 18 (codes "sym") name (hex_text w) (Sym (Fits (sym_of name w))) (short_word 5 (codes "sym") refl)
    (name_is_word name h) (hex_is_word w small) (omega arith) (ap (or_bad_line Sym) (sym_read name w h small))

-- the line of a piece of memory behind this keyword
abbrev pub piece_words : (keyword : List ℕ) → Piece → List ℕ
piece_words keyword p = two_words_line keyword (hex_text p.addr) (hex_bytes_text p.bytes)

piece_read : (p : Piece) → PieceFacts p → piece_in (hex_text p.addr ∷ hex_bytes_text p.bytes ∷ []) ≡ Some (Fits p)
piece_read p h =
    let with_bytes =
    λ (w : Integer). some_bytes_in (hex_bytes_text p.bytes) >>= λ bytes. Some (with_word w (piece bytes))
    in
    ap (λ o. o >>= with_bytes) (word_in-hex p.addr h.addr)
    ∙ ap (λ o. o >>= λ bytes. Some (with_word (Word p.addr) (piece bytes)))
    (some_bytes_in-hex_bytes p.bytes h.some h.bytes)

spells_piece : (keyword : List ℕ) (p : Piece) (form : CaseForm) → IsPlainWord 5 keyword → PieceFacts p →
    case_form_of (keyword ∷ hex_text p.addr ∷ hex_bytes_text p.bytes ∷ []) ≡ form →
    SpellsCase (piece_words keyword p) form
spells_piece keyword p form h facts e =
    spells_two 18 2048 keyword (hex_text p.addr) (hex_bytes_text p.bytes) form h (hex_is_word p.addr facts.addr)
    (hex_bytes_are_word MAX_PIECE_BYTES p.bytes facts.some facts.few facts.bytes) (omega arith) e

pub spells_mem : (p : Piece) → PieceFacts p → SpellsCase (piece_words (codes "mem") p) (Mem (Fits p))
spells_mem p h =
    spells_piece (codes "mem") p (Mem (Fits p)) (short_word 5 (codes "mem") refl) h
    (ap (or_bad_line Mem) (piece_read p h))

pub spells_write : (p : Piece) → PieceFacts p → SpellsCase (piece_words (codes "write") p) (Write (Fits p))
spells_write p h =
    spells_piece (codes "write") p (Write (Fits p)) (short_word 5 (codes "write") refl) h
    (ap (or_bad_line Write) (piece_read p h))

-- the printed texts are these lines, each with its LF

abbrev pub ended : List ℕ → List ℕ
ended line = line ++ newline

pub words_line_ended : (keyword words : List ℕ) → words_line keyword words ≡ ended (keyword ++ words_text words)
words_line_ended keyword words = sym (append_assoc keyword (words_text words) newline)

pub one_word_ended : (keyword word : List ℕ) →
    keyword ++ (codes " " ++ (word ++ newline)) ≡ ended (one_word_line keyword word)
one_word_ended keyword word = sym (append_assoc keyword (32 ∷ word) newline)

pub two_words_ended : (keyword first second : List ℕ) →
    keyword ++ (codes " " ++ (first ++ (codes " " ++ (second ++ newline))))
    ≡ ended (two_words_line keyword first second)
two_words_ended keyword first second =
    ap (λ behind. keyword ++ 32 ∷ behind) (sym (append_assoc first (32 ∷ second) newline))
    ∙ sym (append_assoc keyword (32 ∷ (first ++ 32 ∷ second)) newline)
