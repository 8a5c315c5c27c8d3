-- The forms of lines among cases: what the words of one line spell, by themselves.
use Rattle.std.specs.Prelude.{ℕ, ◌+◌, ◌*◌, nat_eq, if◌then◌else◌, List, [], ◌∷◌, codes, take, Option, None, Some}
use Rattle.std.specs.List.{starts_with}
use Rattle.std.specs.Option.{option_map}
use Rattle.ssa_ir.specs.declared.limits.TheConstants.{MAX_WORDS}
use Rattle.ssa_ir.specs.declared.case.Piece.{Piece}
use Rattle.ssa_lines.specs.Numbers.{digit_in, integer_of, sized}
use Rattle.ssa_lines.specs.Steps.{◌>>=◌}
use Rattle.ssa_lines.specs.ValueForms.{checked_name}
use Rattle.ssa_lines.specs.Words.{is_same}
use Rattle.ssa_lines.specs.declared.numbers.Integer.{Integer}
use Rattle.ssa_lines.specs.declared.numbers.Integer.TheVariants.{Word, TooLarge as IntegerTooLarge}
use Rattle.ssa_lines.specs.declared.forms.Spelled.{Spelled}
use Rattle.ssa_lines.specs.declared.forms.Spelled.TheVariants.{Fits, TooLarge}
use Rattle.case_text.specs.declared.forms.CaseHead.{CaseHead}
use Rattle.case_text.specs.declared.forms.SymLine.{SymLine}
use Rattle.case_text.specs.declared.forms.CaseForm.{CaseForm}
use Rattle.case_text.specs.declared.forms.CaseForm.TheVariants.{Blank, Head, Args, Sym, Mem, Junk, Fill, Reply, Write}
use Rattle.case_text.specs.declared.forms.CaseForm.TheVariants.{ReplyJunk, ReplyFill, Clobber, Bad}

-- the integer that a word spells, which may be too large for a word of 64 bits
abbrev pub word_in : List ℕ → Option Integer
word_in word = option_map sized (integer_of word)

-- what is made of a word that isn't too large
abbrev pub with_word : {X : Type 0} → Integer → (ℕ → X) → Spelled X
with_word (Word w) make = Fits (make w)
with_word IntegerTooLarge make = TooLarge

abbrev pub before_word : Option Integer → Option (Spelled (List ℕ)) → Option (Spelled (List ℕ))
before_word None words = None
before_word (Some w) None = None
before_word (Some (Word w)) (Some (Fits words)) = Some (Fits (w ∷ words))
before_word (Some (Word w)) (Some TooLarge) = Some TooLarge
before_word (Some IntegerTooLarge) (Some words) = Some TooLarge

-- integers, none or more
abbrev pub words_in : List (List ℕ) → Option (Spelled (List ℕ))
words_in [] = Some (Fits [])
words_in (word ∷ words) = before_word (word_in word) (words_in words)

-- of words that are kept only so far, the first ones
abbrev pub first_kept : Spelled (List ℕ) → Spelled (List ℕ)
first_kept (Fits words) = Fits (take MAX_WORDS words)
first_kept TooLarge = TooLarge

abbrev pub first_words_in : List (List ℕ) → Option (Spelled (List ℕ))
first_words_in words = option_map first_kept (words_in words)

-- the only word of a line behind its keyword
abbrev pub only_word : List (List ℕ) → Option (Spelled ℕ)
only_word (word ∷ []) = option_map (λ w. with_word w (λ n. n)) (word_in word)
only_word _ = None

abbrev pub byte_of : Option ℕ → Option ℕ → Option ℕ
byte_of (Some high) (Some low) = Some (high * 16 + low)
byte_of _ _ = None

abbrev pub before_byte : Option ℕ → Option (List ℕ) → Option (List ℕ)
before_byte None bytes = None
before_byte (Some b) None = None
before_byte (Some b) (Some bytes) = Some (b ∷ bytes)

-- the bytes of hexadecimal digits, two for each
abbrev pub bytes_in : List ℕ → Option (List ℕ)
bytes_in [] = Some []
bytes_in (digit ∷ []) = None
bytes_in (high ∷ low ∷ digits) = before_byte (byte_of (digit_in 16 high) (digit_in 16 low)) (bytes_in digits)

-- one or more bytes
abbrev pub some_bytes_in : List ℕ → Option (List ℕ)
some_bytes_in [] = None
some_bytes_in (digit ∷ digits) = bytes_in (digit ∷ digits)

abbrev pub piece : List ℕ → ℕ → Piece
piece bytes addr = record { addr = addr; bytes = bytes }

-- bytes behind their address
abbrev pub piece_in : List (List ℕ) → Option (Spelled Piece)
piece_in (address ∷ digits ∷ []) = do
  addr ← word_in address
  bytes ← some_bytes_in digits
  Some (with_word addr (piece bytes))
piece_in _ = None

abbrev pub head_of : List ℕ → ℕ → CaseHead
head_of name bound = record { name = name; bound = bound }

-- a function's name and a bound
abbrev pub head_in : List (List ℕ) → Option (Spelled CaseHead)
head_in (word ∷ bound ∷ []) = do
  name ← checked_name word
  n ← word_in bound
  Some (with_word n (head_of name))
head_in _ = None

abbrev pub sym_of : List ℕ → ℕ → SymLine
sym_of name address = record { name = name; address = address }

-- a symbol and its address
abbrev pub sym_in : List (List ℕ) → Option (Spelled SymLine)
sym_in (word ∷ address ∷ []) = do
  name ← checked_name word
  n ← word_in address
  Some (with_word n (sym_of name))
sym_in _ = None

-- the form that a reader of it gives, or a bad one
abbrev pub or_bad_line : {X : Type 0} → (X → CaseForm) → Option X → CaseForm
or_bad_line form None = Bad
or_bad_line form (Some x) = form x

-- a line of a reply behind its keyword
abbrev pub reply_line : (keyword : List ℕ) → List (List ℕ) → CaseForm
reply_line keyword words =
    if is_same keyword (codes "reply") then or_bad_line Reply (first_words_in words)
    else if is_same keyword (codes "write") then or_bad_line Write (piece_in words)
    else if is_same keyword (codes "rjunk") then or_bad_line ReplyJunk (words_in words)
    else if is_same keyword (codes "rfill") then or_bad_line ReplyFill (only_word words)
    else if is_same keyword (codes "clobber") then or_bad_line Clobber (only_word words)
    else Bad

-- another line of a case behind its keyword
abbrev pub keyword_line : (keyword : List ℕ) → List (List ℕ) → CaseForm
keyword_line keyword words =
    if is_same keyword (codes "case") then or_bad_line Head (head_in words)
    else if is_same keyword (codes "args") then or_bad_line Args (first_words_in words)
    else if is_same keyword (codes "sym") then or_bad_line Sym (sym_in words)
    else if is_same keyword (codes "mem") then or_bad_line Mem (piece_in words)
    else if is_same keyword (codes "junk") then or_bad_line Junk (words_in words)
    else if is_same keyword (codes "fill") then or_bad_line Fill (only_word words)
    else reply_line keyword words

-- the form of a line by its words
abbrev pub case_form_of : List (List ℕ) → CaseForm
case_form_of [] = Blank
case_form_of (word ∷ words) = if starts_with nat_eq word (codes "//") then Blank else keyword_line word words
