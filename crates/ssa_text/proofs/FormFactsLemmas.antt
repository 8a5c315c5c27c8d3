-- Each line with a form has the facts of that form.
use Rattle.std.proofs.Common.{◌≡◌, ℕ, Bool, true, false, ◌&&◌, nat_eq, codes, List, [], ◌∷◌, length, All, Option, None}
use Rattle.std.proofs.Common.{Some, IfSome, if◌then◌else◌, refl}
use Rattle.std.specs.List.{starts_with, list_all}
use Rattle.std.proofs.lemmas.List.Elements.{All-nil, All-cons}
use Rattle.gossa_base.specs.declared.ids.ValueId.{ValueId}
use Rattle.gossa_base.specs.declared.ids.BlockId.{BlockId}
use Rattle.ssa_ir.specs.declared.types.Sig.{Sig}
use Rattle.ssa_ir.specs.declared.func.Kind.{Kind}
use Rattle.ssa_ir.specs.declared.func.Kind.TheVariants.{Plain, If, Ret, Exit}
use Rattle.ssa_ir.specs.Names.{IsName}
use Rattle.ssa_ir.specs.WellFormed.{HasItsSuccessors, HasItsControl}
use Rattle.ssa_lines.specs.declared.numbers.Number.{Number}
use Rattle.ssa_lines.specs.declared.numbers.Number.TheVariants.{Fits as NumberFits, TooLarge as NumberTooLarge}
use Rattle.ssa_lines.specs.declared.forms.Spelled.{Spelled}
use Rattle.ssa_lines.specs.declared.forms.Spelled.TheVariants.{Fits, TooLarge}
use Rattle.ssa_lines.specs.declared.forms.BlockLine.{BlockLine}
use Rattle.ssa_lines.specs.declared.forms.ControlLine.{ControlLine}
use Rattle.ssa_lines.specs.declared.forms.ValueLine.{ValueLine}
use Rattle.ssa_lines.specs.declared.forms.ValueLine.TheVariants.{Known, UnknownOp, TooLarge as ValueTooLarge}
use Rattle.ssa_lines.specs.declared.forms.Form.{Form}
use Rattle.ssa_lines.specs.declared.forms.Form.TheVariants.{Blank, Case, Sig as SigForm, Func as FuncForm}
use Rattle.ssa_lines.specs.declared.forms.Form.TheVariants.{Block as BlockForm, Value as ValueForm}
use Rattle.ssa_lines.specs.declared.forms.Form.TheVariants.{Control as ControlForm}
use Rattle.ssa_lines.specs.Forms.{is_left_arrow, is_right_arrow, some_blocks, preds_of, blocks_of, block_of, block_line}
use Rattle.ssa_lines.specs.Forms.{control_named, control_of, plain_end, if_of, if_end, leaving_end, control_line}
use Rattle.ssa_lines.specs.Forms.{or_bad, block_or_value, control_or_other, form_of}
use Rattle.ssa_lines.specs.Headers.{signature_of}
use Rattle.ssa_lines.specs.NumberWords.{number_word, numbers_ahead}
use Rattle.ssa_lines.specs.Steps.{only_where}
use Rattle.ssa_lines.specs.ValueForms.{value_line}
use Rattle.ssa_lines.specs.Words.{is_same, is_marked, without_last}
use Rattle.ssa_lines.proofs.FormFacts.{IsValueNumber, BlockFacts, ControlFacts, FormFacts}
use Rattle.ssa_text.proofs.HeaderFactsLemmas.{sig_named}
use Rattle.ssa_lines.proofs.NumberFactsLemmas.{InRange, IfFits, word_in_range, numbers_in_range, TextBlocks, blocks_fit}
use Rattle.ssa_lines.proofs.GrammarLemmas.{then_shown, then_any, either_shown}
use Rattle.ssa_text.proofs.ValueFactsLemmas.{LineFacts, value_shown}

-- what is known of the beginning and of the end of a block
abbrev BeginFacts : Spelled BlockLine → Type 0
BeginFacts b = IfFits b BlockFacts

abbrev EndFacts : Spelled ControlLine → Type 0
EndFacts c = IfFits c ControlFacts

some_in_range : (ahead : List Number × List (List ℕ)) → All InRange ahead.0
    → IfSome (some_blocks ahead) (All InRange)
some_in_range ([], words) h = tt
some_in_range (n ∷ numbers, []) h = h
some_in_range (n ∷ numbers, word ∷ words) h = tt

preds_shown : (words : List (List ℕ)) → IfSome (preds_of words) (All InRange)
preds_shown [] = All-nil InRange
preds_shown (word ∷ []) = either_shown (All InRange) (is_same word (codes "-")) (Some []) None (All-nil InRange) tt
preds_shown (word ∷ other ∷ words) =
    let behind = other ∷ words in
    then_any (All InRange) (only_where (is_left_arrow word)) _
    (λ arrow. some_in_range (numbers_ahead 98 behind) (numbers_in_range 98 behind))

begin_facts : (n : Number) (numbers : List Number) (preds : Spelled (List BlockId)) → InRange n
    → IfFits preds (TextBlocks numbers)
    → BeginFacts (block_of n preds)
begin_facts NumberTooLarge numbers preds here named = tt
begin_facts (NumberFits n) numbers TooLarge here named = tt
begin_facts (NumberFits n) numbers (Fits preds) here named = record { number = here; preds = named.each }

block_shown : (words : List (List ℕ)) → IfSome (block_line words) BeginFacts
block_shown [] = tt
block_shown (label ∷ words) =
    then_any BeginFacts (without_last 58 label) _
    (λ front. then_shown BeginFacts (number_word 98 front) _ (word_in_range 98 front)
    (λ number here. then_shown BeginFacts (preds_of words) _ (preds_shown words)
    (λ preds named. begin_facts number preds (blocks_of preds) here (blocks_fit preds named))))

-- a control where the kind has one
record GoodControl (kind : Kind) (control : Option ValueId) : Type 0 where
  there : HasItsControl kind control
  number : IfSome control IsValueNumber

end_facts : (kind : Kind) (numbers : List Number) (control : Spelled (Option ValueId))
    (succs : Spelled (List BlockId))
    → ((n : ℕ) → n ≡ length numbers → HasItsSuccessors kind n) → IfFits control (GoodControl kind)
    → IfFits succs (TextBlocks numbers)
    → EndFacts (control_of kind control succs)
end_facts kind numbers TooLarge succs count controlled named = tt
end_facts kind numbers (Fits control) TooLarge count controlled named = tt
end_facts kind numbers (Fits control) (Fits succs) count controlled named = record {
  successors = count (length succs) named.long;
  has_control = controlled.there;
  control = controlled.number;
  succs = named.each;
}

control_shown : (kind : Kind) (n : Number) → ((v : ValueId) → HasItsControl kind (Some v)) → InRange n
    → IfFits (control_named n) (GoodControl kind)
control_shown kind NumberTooLarge has here = tt
control_shown kind (NumberFits n) has here = record { there = has (record { 0 = n }); number = here }

one_number : (n : Number) → InRange n → All InRange (n ∷ [])
one_number n h = All-cons InRange n [] h (All-nil InRange)

plain_shown : (words : List (List ℕ)) → IfSome (plain_end words) EndFacts
plain_shown [] = tt
plain_shown (arrow ∷ []) = tt
plain_shown (arrow ∷ target ∷ marks) =
    then_any EndFacts (only_where (is_right_arrow arrow && list_all is_marked marks)) _
    (λ form. then_shown EndFacts (number_word 98 target) _ (word_in_range 98 target)
    (λ b here. end_facts Plain (b ∷ []) (Fits None) (blocks_of (b ∷ [])) (λ n one. one)
    (record { there = refl; number = tt })
    (blocks_fit (b ∷ []) (one_number b here))))

two_shown : (control target other : List ℕ) → IfSome (if_of control target other) EndFacts
two_shown control target other =
    then_shown EndFacts (number_word 118 control) _ (word_in_range 118 control)
    (λ v named. then_shown EndFacts (number_word 98 target) _ (word_in_range 98 target)
    (λ b first. then_shown EndFacts (number_word 98 other) _ (word_in_range 98 other)
    (λ c second. end_facts If (b ∷ c ∷ []) (control_named v) (blocks_of (b ∷ c ∷ [])) (λ n two. two)
    (control_shown If v (λ id. refl) named)
    (blocks_fit (b ∷ c ∷ []) (All-cons InRange b (c ∷ []) first (one_number c second))))))

if_shown : (words : List (List ℕ)) → IfSome (if_end words) EndFacts
if_shown [] = tt
if_shown (control ∷ []) = tt
if_shown (control ∷ arrow ∷ []) = tt
if_shown (control ∷ arrow ∷ target ∷ []) = tt
if_shown (control ∷ arrow ∷ target ∷ other ∷ marks) =
    then_any EndFacts (only_where (is_right_arrow arrow && list_all is_marked marks)) _
    (λ form. two_shown control target other)

leaving_shown : (kind : Kind) → ((n : ℕ) → n ≡ 0 → HasItsSuccessors kind n)
    → ((v : ValueId) → HasItsControl kind (Some v))
    → (words : List (List ℕ)) → IfSome (leaving_end kind words) EndFacts
leaving_shown kind count has [] = tt
leaving_shown kind count has (control ∷ marks) =
    then_any EndFacts (only_where (list_all is_marked marks)) _
    (λ form. then_shown EndFacts (number_word 118 control) _ (word_in_range 118 control)
    (λ v named. end_facts kind [] (control_named v) (Fits []) count (control_shown kind v has named)
    (record { long = refl; each = All-nil _ })))

end_shown : (words : List (List ℕ)) → IfSome (control_line words) EndFacts
end_shown [] = tt
end_shown (word ∷ words) =
    either_shown EndFacts (is_same word (codes "Plain")) (plain_end words) _ (plain_shown words)
    (either_shown EndFacts (is_same word (codes "If")) (if_end words) _ (if_shown words)
    (either_shown EndFacts (is_same word (codes "Ret")) (leaving_end Ret words) _
    (leaving_shown Ret (λ n none. none) (λ v. refl) words)
    (either_shown EndFacts (is_same word (codes "Exit")) (leaving_end Exit words) None
    (leaving_shown Exit (λ n none. none) (λ v. refl) words) tt)))

begin_form : (b : Spelled BlockLine) → BeginFacts b → FormFacts (BlockForm b)
begin_form (Fits b) h = h
begin_form TooLarge h = tt

end_form : (c : Spelled ControlLine) → EndFacts c → FormFacts (ControlForm c)
end_form (Fits c) h = h
end_form TooLarge h = tt

value_form : (v : ValueLine) → LineFacts v → FormFacts (ValueForm v)
value_form (Known v) h = h
value_form UnknownOp h = tt
value_form ValueTooLarge h = tt

-- the form that is chosen has its facts, where those that may be chosen have
form_or_bad : {X : Type 0} (P : X → Type 0) (form : X → Form) (o : Option X) → ((x : X) → P x → FormFacts (form x))
    → IfSome o P
    → FormFacts (or_bad form o)
form_or_bad P form None facts h = tt
form_or_bad P form (Some x) facts h = facts x h

either_form : (b : Bool) (x y : Form) → FormFacts x → FormFacts y → FormFacts (if b then x else y)
either_form true x y at_true at_false = at_true
either_form false x y at_true at_false = at_false

block_or_value_facts : (b : Option (Spelled BlockLine)) (words : List (List ℕ)) → IfSome b BeginFacts
    → FormFacts (block_or_value b words)
block_or_value_facts (Some b) words h = begin_form b h
block_or_value_facts None words h =
    form_or_bad LineFacts ValueForm (value_line words) value_form (value_shown words)

control_or_other_facts : (c : Option (Spelled ControlLine)) (words : List (List ℕ)) → IfSome c EndFacts
    → FormFacts (control_or_other c words)
control_or_other_facts (Some c) words h = end_form c h
control_or_other_facts None words h = block_or_value_facts (block_line words) words (block_shown words)

-- a line with a form has the facts of that form
pub form_facts : (words : List (List ℕ)) → FormFacts (form_of words)
form_facts [] = tt
form_facts (word ∷ words) =
    let named = λ (s : Sig). IsName s.name in
    either_form (starts_with nat_eq word (codes "//")) Blank _ tt
    (either_form (is_same word (codes "case")) Case _ tt
    (either_form (is_same word (codes "sig")) (or_bad SigForm (signature_of words)) _
    (form_or_bad named SigForm (signature_of words) (λ s h. h) (sig_named words))
    (either_form (is_same word (codes "func")) (or_bad FuncForm (signature_of words)) _
    (form_or_bad named FuncForm (signature_of words) (λ s h. h) (sig_named words))
    (control_or_other_facts (control_line (word ∷ words)) (word ∷ words) (end_shown (word ∷ words))))))
