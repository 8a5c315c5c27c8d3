-- The brackets and braces of a value's line are read as what the value has there.
use Rattle.std.proofs.Common.{◌≡◌, ℕ, nat_eq, Bool, true, false, true≢false, ⊎_elim, cond, List, [], ◌∷◌, ◌++◌}
use Rattle.std.proofs.Common.{append-nil, take, drop, codes, Option, None, Some, refl, sym, ap, subst, ◌∙◌, arith}
use Rattle.std.specs.Prelude.{ℤ, pos, FitsSigned, IfSome}
use Rattle.std.specs.Fmt.{signed_decimal}
use Rattle.std.specs.Int.{w64}
use Rattle.std.specs.List.{starts_with, list_all}
use Rattle.std.specs.Option.{option_map}
use Rattle.std.proofs.lemmas.Bool.{false≢true, and_parts, false_from_ne_true}
use Rattle.std.proofs.lemmas.List.{take-append-drop}
use Rattle.std.proofs.lemmas.List.Folds.{list_all-append}
use Rattle.std.proofs.lemmas.Slice.Eq.{bytes_eq-Decides}
use Rattle.gossa_base.specs.Words.{word_of}
use Rattle.ssa_ir.specs.declared.op.Op.{Op}
use Rattle.ssa_ir.specs.declared.op.AuxRule.{AuxRule}
use Rattle.ssa_ir.specs.declared.op.AuxRule.TheVariants.{Nothing, Int, Bool as TrueOrFalse, Sym, Elem, Dropped}
use Rattle.ssa_ir.specs.declared.types.Scalar.{Scalar}
use Rattle.ssa_ir.specs.Names.{IsName, is_name_byte}
use Rattle.ssa_ir.specs.Texts.{scalar_name}
use Rattle.ssa_ir.specs.WellFormed.{HasItsNumber, HasItsSymbol, HasItsElem}
use Rattle.ssa_lines.specs.declared.forms.Aux.{Aux}
use Rattle.ssa_lines.specs.declared.forms.Bracket.{Bracket}
use Rattle.ssa_lines.specs.declared.forms.Bracket.TheVariants.{Number as BracketNumber, Truth}
use Rattle.ssa_lines.specs.declared.numbers.Integer.{Integer}
use Rattle.ssa_lines.specs.declared.numbers.Integer.TheVariants.{Word}
use Rattle.ssa_lines.specs.Steps.{◌>>=◌}
use Rattle.ssa_lines.specs.ValueForms.{bracket_inside, call_name, checked_name, name_inside, Extras, extras_of}
use Rattle.ssa_lines.specs.ValueForms.{extras_by, extras_ahead, then_brace, then_bracket, only_number, word_of_truth}
use Rattle.ssa_lines.specs.ValueForms.{aux_by}
use Rattle.ssa_lines.specs.Words.{words_of, opens}
use Rattle.ssa_lines.proofs.WordLemmas.{EndsWord, space_in_front}
use Rattle.ssa_text.specs.Text.{bool_word, brackets_text, braces_text}
use Rattle.ssa_lines.proofs.IntegerTexts.{integer_read, signed_is_word}
use Rattle.ssa_lines.proofs.LineBytes.{IsPlainWord, plain_word_in_front}
use Rattle.ssa_text.proofs.TypeTexts.{scalar_read, scalar_is_word}
use Rattle.ssa_lines.proofs.WordTexts.{is_short_word, short_word, longer_word, IsPlainText, text_of_word, known_text}
use Rattle.ssa_lines.proofs.WordTexts.{text_append, between_read, between_is_word, name_bytes, name_is_word}
use Rattle.ssa_lines.proofs.WordTexts.{is_name-name}

-- a name does not begin with AuxCall{, since it has no brace
no_call : (name : List ℕ) → list_all is_name_byte name ≡ true → starts_with nat_eq name (codes "AuxCall{") ≡ false
no_call name e = false_from_ne_true (starts_with nat_eq name (codes "AuxCall{")) go
  where
    go : starts_with nat_eq name (codes "AuxCall{") ≡ true → ⊥
    go starts =
        let parts = list_all-append is_name_byte (take 8 name) (drop 8 name) in
        let whole = sym parts ∙ ap (list_all is_name_byte) (take-append-drop 8 name) ∙ e in
        let taken = (and_parts (list_all is_name_byte (take 8 name)) (list_all is_name_byte (drop 8 name)) whole).0 in
        let front : codes "AuxCall{" ≡ take 8 name = (bytes_eq-Decides (codes "AuxCall{") (take 8 name)).0 starts in
        true≢false (sym taken ∙ ap (list_all is_name_byte) (sym front))

-- so a name in braces is read as it stands there
name_read : (name : List ℕ) → IsName name → name_inside name ≡ Some name
name_read name h =
    (λ i. cond (no_call name (name_bytes name h.form) i) (call_name (drop 8 name)) (checked_name name))
    ∙ ap (λ t. cond t (Some name) None) (is_name-name name h)

-- what a value has beside its type and its arguments
abbrev pub aux_of : ℤ → Option (List ℕ) → Option Scalar → Aux
aux_of z name elem = record { number = Word (word_of z); sym = name; elem = elem }

-- a text between type and arguments that is read as what a value of this op has
pub record ReadsAux (op : Op) (rule : AuxRule) (text : List ℕ) (aux : Aux) : Type 0 where
  pub words : List (List ℕ)
  pub extras : Extras
  pub ends : (rest : List ℕ) → EndsWord rest → EndsWord (text ++ rest)
  pub words_are : (rest : List ℕ) → EndsWord rest → words_of (text ++ rest) ≡ words ++ words_of rest
  pub is_text : IsPlainText 103 text
  pub read : (behind : List (List ℕ)) → opens 91 behind ≡ false → opens 123 behind ≡ false →
      extras_ahead (words ++ behind) ≡ Some (extras, behind)
  pub is_aux : aux_by op rule extras ≡ Some aux

-- no text
reads_none : (op : Op) (rule : AuxRule) (aux : Aux) → aux_by op rule (extras_of None None) ≡ Some aux →
    ReadsAux op rule [] aux
reads_none op rule aux e = record {
  words = [];
  extras = extras_of None None;
  ends = λ rest ends. ends;
  words_are = λ rest ends. refl;
  is_text = known_text 103 [] refl;
  read = λ behind no_bracket no_brace. (λ i. extras_by (no_bracket i) (no_brace i) behind);
  is_aux = e;
}

-- one word behind a space
words_of_one : (word text rest : List ℕ) → IsPlainWord 102 word → text ≡ 32 ∷ word → EndsWord rest →
    words_of (text ++ rest) ≡ word ∷ words_of rest
words_of_one word text rest h e ends =
    ap (λ bytes. words_of (bytes ++ rest)) e
    ∙ space_in_front 32 (word ++ rest) refl
    ∙ plain_word_in_front 102 word rest h ends

text_of_one : (word text : List ℕ) → IsPlainWord 102 word → text ≡ 32 ∷ word → IsPlainText 103 text
text_of_one word text h e =
    subst (IsPlainText 103) (sym e)
    (text_append 1 102 (codes " ") word (known_text 1 (codes " ") refl) (text_of_word 102 word h))

ends_of_one : (word text rest : List ℕ) → text ≡ 32 ∷ word → EndsWord (text ++ rest)
ends_of_one word text rest e = subst (λ bytes. EndsWord (bytes ++ rest)) (sym e) refl

-- one word between two bytes
reads_word : (op : Op) (rule : AuxRule) (first last : ℕ) (inside text : List ℕ) (extras : Extras) (aux : Aux) →
    is_short_word 1 (first ∷ []) ≡ true → is_short_word 1 (last ∷ []) ≡ true → IsPlainWord 100 inside →
    text ≡ 32 ∷ first ∷ (inside ++ last ∷ []) →
    ((behind : List (List ℕ)) → opens 91 behind ≡ false → opens 123 behind ≡ false →
    extras_ahead ((first ∷ (inside ++ last ∷ [])) ∷ behind) ≡ Some (extras, behind)) →
    aux_by op rule extras ≡ Some aux → ReadsAux op rule text aux
reads_word op rule first last inside text extras aux e f h same read is_aux =
    let word : List ℕ = first ∷ (inside ++ last ∷ []) in
    let is_word : IsPlainWord 102 word = between_is_word 100 first last inside e f h in
    record {
      words = word ∷ [];
      extras = extras;
      ends = λ rest ends. ends_of_one word text rest same;
      words_are = λ rest ends. words_of_one word text rest is_word same ends;
      is_text = text_of_one word text is_word same;
      read = read;
      is_aux = is_aux;
    }

-- a word in brackets
reads_bracket : (op : Op) (rule : AuxRule) (inside text : List ℕ) (bracket : Bracket) (aux : Aux) →
    IsPlainWord 100 inside → text ≡ codes " [" ++ (inside ++ codes "]") → bracket_inside inside ≡ Some bracket →
    aux_by op rule (extras_of (Some bracket) None) ≡ Some aux → ReadsAux op rule text aux
reads_bracket op rule inside text bracket aux h same e is_aux =
    reads_word op rule 91 93 inside text (extras_of (Some bracket) None) aux refl refl h same
    (λ behind no_bracket no_brace.
    ap (λ read. read >>= bracket_inside >>= λ b. then_brace b (opens 123 behind) behind) (between_read 91 93 inside)
    ∙ ap (λ read. read >>= λ b. then_brace b (opens 123 behind) behind) e
    ∙ ap (λ t. then_brace bracket t behind) no_brace)
    is_aux

-- a word in braces
reads_brace : (op : Op) (rule : AuxRule) (inside text : List ℕ) (aux : Aux) → IsPlainWord 100 inside →
    text ≡ codes " {" ++ (inside ++ codes "}") → aux_by op rule (extras_of None (Some inside)) ≡ Some aux →
    ReadsAux op rule text aux
reads_brace op rule inside text aux h same is_aux =
    reads_word op rule 123 125 inside text (extras_of None (Some inside)) aux refl refl h same
    (λ behind no_bracket no_brace.
    ap (λ read. read >>= λ brace. then_bracket brace (opens 91 behind) behind) (between_read 123 125 inside)
    ∙ ap (λ t. then_bracket inside t behind) no_bracket)
    is_aux

-- what is known of a value, by the rule of its op
pub record HasAux (rule : AuxRule) (z : ℤ) (name : Option (List ℕ)) (scalar : Option Scalar) : Type 0 where
  pub number : HasItsNumber rule z
  pub symbol : HasItsSymbol rule name
  pub elem : HasItsElem rule scalar
  pub is_name : IfSome name IsName
  pub fits : FitsSigned w64 z

-- brackets and braces together
abbrev pub rule_text : AuxRule → ℤ → Option (List ℕ) → Option Scalar → List ℕ
rule_text rule z name scalar = brackets_text rule z ++ braces_text rule name scalar

-- a value of this op is read by this rule
abbrev ReadsBy : Op → AuxRule → ℤ → Option (List ℕ) → Option Scalar → Type 0
ReadsBy op rule z name scalar = ReadsAux op rule (rule_text rule z name scalar) (aux_of z name scalar)

-- a value that has this integer, and neither a name nor a type
only : (z : ℤ) (n : Integer) (name : Option (List ℕ)) (scalar : Option Scalar) → n ≡ Word (word_of z) →
    name ≡ None → scalar ≡ None → Some (only_number n) ≡ Some (aux_of z name scalar)
only z n name scalar e f g = λ i. Some (record { number = e i; sym = sym f i; elem = sym g i })

zero_word : (z : ℤ) → z ≡ pos 0 → Word 0 ≡ Word (word_of z)
zero_word z e = ap (λ y. Word (word_of y)) (sym e)

truth_read : (op : Op) (z n : ℤ) (b : Bool) (name : Option (List ℕ)) (scalar : Option Scalar) →
    HasAux TrueOrFalse z name scalar → z ≡ n → IsPlainWord 100 (bool_word n) →
    bracket_inside (bool_word n) ≡ Some (Truth b) → word_of_truth b ≡ word_of n → ReadsBy op TrueOrFalse z name scalar
truth_read op z n b name scalar h same is_word read is_number =
    let aux = only n (Word (word_of_truth b)) name scalar (ap Word is_number) h.symbol h.elem in
    let text = append-nil (codes " [" ++ (bool_word n ++ codes "]")) in
    subst (λ y. ReadsBy op TrueOrFalse y name scalar) (sym same)
    (reads_bracket op TrueOrFalse (bool_word n) _ (Truth b) (aux_of n name scalar) is_word text read aux)

-- the brackets and braces of a value are read as what it has
pub rule_read : (op : Op) (rule : AuxRule) (z : ℤ) (name : Option (List ℕ)) (scalar : Option Scalar) →
    HasAux rule z name scalar → ReadsAux op rule (rule_text rule z name scalar) (aux_of z name scalar)
rule_read op Nothing z name scalar h =
    let aux = only z (Word 0) name scalar (zero_word z h.number) h.symbol h.elem in
    reads_none op Nothing (aux_of z name scalar) aux
rule_read op Dropped z name scalar h =
    let aux = only z (Word 0) name scalar (zero_word z h.number) h.symbol h.elem in
    reads_none op Dropped (aux_of z name scalar) aux
rule_read op Int z name scalar h =
    let word : List ℕ = signed_decimal z in
    let aux = only z (Word (word_of z)) name scalar refl h.symbol h.elem in
    let text = append-nil (codes " [" ++ (word ++ codes "]")) in
    let is_word = longer_word 20 100 word (omega arith) (signed_is_word z h.fits) in
    reads_bracket op Int word _ (BracketNumber (Word (word_of z))) (aux_of z name scalar) is_word text
    (integer_read z h.fits) aux
rule_read op TrueOrFalse z name scalar h = ⊎_elim
    (λ e. truth_read op z (pos 0) false name scalar h e (short_word 100 (codes "false") refl) refl refl)
    (λ e. truth_read op z (pos 1) true name scalar h e (short_word 100 (codes "true") refl) refl refl)
    h.number
rule_read op Sym z None scalar h = absurd (false≢true h.symbol)
rule_read op Sym z (Some name) scalar h =
    reads_brace op Sym name _ (aux_of z (Some name) scalar) (name_is_word name h.is_name) refl
    (ap (λ o. o >>= λ n. Some (record { number = Word 0; sym = Some n; elem = None })) (name_read name h.is_name)
    ∙ (λ i. Some (record { number = zero_word z h.number i; sym = Some name; elem = sym h.elem i })))
rule_read op Elem z name None h = absurd (false≢true h.elem)
rule_read op Elem z name (Some t) h =
    let is_word = longer_word 7 100 (scalar_name t) (omega arith) (scalar_is_word t) in
    reads_brace op Elem (scalar_name t) _ (aux_of z name (Some t)) is_word refl
    (ap (option_map (λ u. record { number = Word 0; sym = None; elem = Some u })) (scalar_read t)
    ∙ (λ i. Some (record { number = zero_word z h.number i; sym = sym h.symbol i; elem = Some t })))
