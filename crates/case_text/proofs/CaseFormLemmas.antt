-- Each line among cases has the facts of its form.
use Rattle.std.proofs.Common.{◌≡◌, ℕ, Bool, true, false, nat_eq, nat_le, if◌then◌else◌, List, [], ◌∷◌, codes, length}
use Rattle.std.proofs.Common.{Option, None, Some, IfSome, refl}
use Rattle.std.specs.List.{starts_with}
use Rattle.std.proofs.lemmas.Bool.{and_parts, leb-true}
use Rattle.ssa_ir.specs.Names.{IsName, has_name_bytes}
use Rattle.ssa_ir.specs.declared.case.Piece.{Piece}
use Rattle.ssa_lines.specs.Headers.{is_name}
use Rattle.ssa_lines.specs.ValueForms.{checked_name}
use Rattle.ssa_lines.specs.Words.{is_same}
use Rattle.ssa_lines.specs.declared.forms.Spelled.{Spelled}
use Rattle.ssa_lines.proofs.GrammarLemmas.{then_shown}
use Rattle.ssa_lines.proofs.NumberFactsLemmas.{IfFits}
use Rattle.case_text.specs.CaseForms.{word_in, words_in, first_words_in, only_word, some_bytes_in, piece, piece_in}
use Rattle.case_text.specs.CaseForms.{head_of, head_in, sym_of, sym_in, or_bad_line, reply_line, keyword_line}
use Rattle.case_text.specs.CaseForms.{case_form_of}
use Rattle.case_text.specs.declared.forms.CaseHead.{CaseHead}
use Rattle.case_text.specs.declared.forms.SymLine.{SymLine}
use Rattle.case_text.specs.declared.forms.CaseForm.{CaseForm}
use Rattle.case_text.specs.declared.forms.CaseForm.TheVariants.{Blank, Head, Args, Sym, Mem, Junk, Fill, Reply, Write}
use Rattle.case_text.specs.declared.forms.CaseForm.TheVariants.{ReplyJunk, ReplyFill, Clobber, Bad}
use Rattle.case_text.proofs.CaseFacts.{IsWord}
use Rattle.case_text.proofs.CaseFormFacts.{FewWords, PieceForm, HeadForm, SymForm, CaseFormFacts}
use Rattle.case_text.proofs.CaseWordLemmas.{word_shown, made, Words, words_shown, first_words_shown, only_shown}
use Rattle.case_text.proofs.CaseWordLemmas.{some_bytes_shown}

abbrev PieceShown : Spelled Piece → Type 0
PieceShown p = IfFits p PieceForm

piece_shown : (words : List (List ℕ)) → IfSome (piece_in words) PieceShown
piece_shown [] = tt
piece_shown (address ∷ []) = tt
piece_shown (address ∷ digits ∷ other ∷ words) = tt
piece_shown (address ∷ digits ∷ []) =
    then_shown PieceShown (word_in address) _ (word_shown address)
    (λ addr small. then_shown PieceShown (some_bytes_in digits) _ (some_bytes_shown digits)
    (λ bytes given. made PieceForm addr (piece bytes) small (λ w word. record { addr = word; given = given })))

name_tested : (word : List ℕ) (b : Bool) → is_name word ≡ b → IfSome (if b then Some word else None) IsName
name_tested word false h = tt
name_tested word true h =
    let parts = and_parts (has_name_bytes word) (nat_le (length word) 100) h in
    record { form = parts.0; few = leb-true (length word) 100 parts.1 }

name_shown : (word : List ℕ) → IfSome (checked_name word) IsName
name_shown word = name_tested word (is_name word) refl

abbrev HeadShown : Spelled CaseHead → Type 0
HeadShown h = IfFits h HeadForm

head_shown : (words : List (List ℕ)) → IfSome (head_in words) HeadShown
head_shown [] = tt
head_shown (word ∷ []) = tt
head_shown (word ∷ bound ∷ other ∷ words) = tt
head_shown (word ∷ bound ∷ []) =
    then_shown HeadShown (checked_name word) _ (name_shown word)
    (λ name named. then_shown HeadShown (word_in bound) _ (word_shown bound)
    (λ n small. made HeadForm n (head_of name) small (λ w word. named)))

abbrev SymShown : Spelled SymLine → Type 0
SymShown s = IfFits s SymForm

sym_shown : (words : List (List ℕ)) → IfSome (sym_in words) SymShown
sym_shown [] = tt
sym_shown (word ∷ []) = tt
sym_shown (word ∷ address ∷ other ∷ words) = tt
sym_shown (word ∷ address ∷ []) =
    then_shown SymShown (checked_name word) _ (name_shown word)
    (λ name named. then_shown SymShown (word_in address) _ (word_shown address)
    (λ n small. made SymForm n (sym_of name) small (λ w word. record { named = named; word = word })))

-- the form that is chosen has its facts, where those that may be chosen have
or_bad_facts : {X : Type 0} (P : X → Type 0) (form : X → CaseForm) (o : Option X)
    → ((x : X) → P x → CaseFormFacts (form x)) → IfSome o P → CaseFormFacts (or_bad_line form o)
or_bad_facts P form None facts h = tt
or_bad_facts P form (Some x) facts h = facts x h

either_line : (b : Bool) (x y : CaseForm) → CaseFormFacts x → CaseFormFacts y → CaseFormFacts (if b then x else y)
either_line true x y at_true at_false = at_true
either_line false x y at_true at_false = at_false

abbrev FewShown : Spelled (List ℕ) → Type 0
FewShown words = IfFits words FewWords

abbrev WordShown : Spelled ℕ → Type 0
WordShown w = IfFits w IsWord

reply_facts : (keyword : List ℕ) (words : List (List ℕ)) → CaseFormFacts (reply_line keyword words)
reply_facts keyword words =
    either_line (is_same keyword (codes "reply")) (or_bad_line Reply (first_words_in words)) _
    (or_bad_facts FewShown Reply (first_words_in words) (λ w h. h) (first_words_shown words))
    (either_line (is_same keyword (codes "write")) (or_bad_line Write (piece_in words)) _
    (or_bad_facts PieceShown Write (piece_in words) (λ p h. h) (piece_shown words))
    (either_line (is_same keyword (codes "rjunk")) (or_bad_line ReplyJunk (words_in words)) _
    (or_bad_facts Words ReplyJunk (words_in words) (λ w h. h) (words_shown words))
    (either_line (is_same keyword (codes "rfill")) (or_bad_line ReplyFill (only_word words)) _
    (or_bad_facts WordShown ReplyFill (only_word words) (λ w h. h) (only_shown words))
    (either_line (is_same keyword (codes "clobber")) (or_bad_line Clobber (only_word words)) Bad
    (or_bad_facts WordShown Clobber (only_word words) (λ w h. h) (only_shown words)) tt))))

keyword_facts : (keyword : List ℕ) (words : List (List ℕ)) → CaseFormFacts (keyword_line keyword words)
keyword_facts keyword words =
    either_line (is_same keyword (codes "case")) (or_bad_line Head (head_in words)) _
    (or_bad_facts HeadShown Head (head_in words) (λ x h. h) (head_shown words))
    (either_line (is_same keyword (codes "args")) (or_bad_line Args (first_words_in words)) _
    (or_bad_facts FewShown Args (first_words_in words) (λ w h. h) (first_words_shown words))
    (either_line (is_same keyword (codes "sym")) (or_bad_line Sym (sym_in words)) _
    (or_bad_facts SymShown Sym (sym_in words) (λ s h. h) (sym_shown words))
    (either_line (is_same keyword (codes "mem")) (or_bad_line Mem (piece_in words)) _
    (or_bad_facts PieceShown Mem (piece_in words) (λ p h. h) (piece_shown words))
    (either_line (is_same keyword (codes "junk")) (or_bad_line Junk (words_in words)) _
    (or_bad_facts Words Junk (words_in words) (λ w h. h) (words_shown words))
    (either_line (is_same keyword (codes "fill")) (or_bad_line Fill (only_word words)) _
    (or_bad_facts WordShown Fill (only_word words) (λ w h. h) (only_shown words))
    (reply_facts keyword words))))))

-- a line among cases has the facts of its form
pub case_form_facts : (words : List (List ℕ)) → CaseFormFacts (case_form_of words)
case_form_facts [] = tt
case_form_facts (word ∷ words) =
    either_line (starts_with nat_eq word (codes "//")) Blank (keyword_line word words) tt (keyword_facts word words)
