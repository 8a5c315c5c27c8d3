-- The canonical text of cases. What has no form in it has the empty text, and the fixed words around it stay.
use Rattle.std.specs.Prelude.{ℕ, zero, suc, ◌==◌, if◌then◌else◌, List, [], ◌∷◌, ◌++◌, codes, decimal, length, take}
use Rattle.std.specs.Prelude.{drop, slice_index_or}
use Rattle.std.specs.List.{flat_map}
use Rattle.gossa_base.specs.Texts.{led, hex_text, hex_bytes_text}
use Rattle.ssa_ir.specs.declared.case.Piece.{Piece}
use Rattle.ssa_ir.specs.declared.case.Junk.{Junk}
use Rattle.ssa_ir.specs.declared.case.Reply.{Reply}
use Rattle.ssa_ir.specs.declared.case.Case.{Case}
use Rattle.ssa_ir.specs.Texts.{newline}

-- words, each behind a space
abbrev pub words_text : List ℕ → List ℕ
words_text words = led (codes " ") hex_text words

-- a line of words behind a keyword
abbrev pub words_line : (keyword words : List ℕ) → List ℕ
words_line keyword words = keyword ++ (words_text words ++ newline)

-- the parameters' words, on a line that is absent where there are none
abbrev pub args_text : List ℕ → List ℕ
args_text [] = []
args_text (w ∷ words) = words_line (codes "args") (w ∷ words)

-- the address of a symbol
abbrev pub symbol_line : List ℕ × ℕ → List ℕ
symbol_line (name, w) = codes "sym " ++ (name ++ (codes " " ++ (hex_text w ++ newline)))

-- bytes from an address upward, behind a keyword
abbrev pub piece_line : List ℕ → Piece → List ℕ
piece_line keyword p = keyword ++ (codes " " ++ (hex_text p.addr ++ (codes " " ++ (hex_bytes_text p.bytes ++ newline))))

-- words in at most n rows of at most 16
abbrev pub rows_within : (n : ℕ) → List ℕ → List (List ℕ)
rows_within zero words = []
rows_within (suc n) [] = []
rows_within (suc n) (w ∷ words) = take 16 (w ∷ words) ∷ rows_within n (drop 16 (w ∷ words))

-- words in rows of 16, of which the last may have fewer
abbrev pub rows_of : List ℕ → List (List ℕ)
rows_of words = rows_within (length words) words

-- a word behind a keyword, on a line that is absent where the word is 0
abbrev pub word_text : List ℕ → ℕ → List ℕ
word_text keyword w = if w == 0 then [] else (keyword ++ (codes " " ++ (hex_text w ++ newline)))

-- a list of junk words behind one keyword, and its fill behind another
abbrev pub junk_text : (keyword fill : List ℕ) → Junk → List ℕ
junk_text keyword fill j = flat_map (words_line keyword) (rows_of j.words) ++ word_text fill j.fill

-- a reply to a call: its result words, what it writes, what it leaves, and the word in the slots that no map names
abbrev pub reply_text : Reply → List ℕ
reply_text r =
    words_line (codes "reply") r.words
    ++ (flat_map (piece_line (codes "write")) r.writes
    ++ (junk_text (codes "rjunk") (codes "rfill") r.junk ++ word_text (codes "clobber") r.clobber))

-- the name of function i of these; one that isn't there has no text
abbrev pub name_at : List (List ℕ) → ℕ → List ℕ
name_at names i = slice_index_or names i []

-- the first line of a case of the function of this name: the name, and the bound
abbrev pub case_head : List ℕ → Case → List ℕ
case_head name c = codes "case " ++ (name ++ (codes " " ++ (decimal c.bound ++ newline)))

-- what a case gives beside replies
abbrev pub inputs_text : Case → List ℕ
inputs_text c =
    args_text c.args ++ (flat_map symbol_line c.syms
    ++ (flat_map (piece_line (codes "mem")) c.mem ++ junk_text (codes "junk") (codes "fill") c.junk))

-- a case of the function of this name
abbrev pub case_text : List ℕ → Case → List ℕ
case_text name c = case_head name c ++ (inputs_text c ++ flat_map reply_text c.replies)

-- the cases of functions with these names
abbrev pub cases_text : List (List ℕ) → List Case → List ℕ
cases_text names cases = flat_map (λ c. case_text (name_at names c.func) c) cases
