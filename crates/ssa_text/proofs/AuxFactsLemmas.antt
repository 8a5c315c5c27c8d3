-- What is known of the number, the symbol and the element type that the line of a value spells, by its op's row.
use Rattle.std.proofs.Common.{◌≡◌, ℕ, suc, ◌-◌, ◌<◌, ◌^◌, inl, inr, pos, negsuc, Bool, true, false, nat_lt, nat_eq}
use Rattle.std.proofs.Common.{cond, List, codes, drop, Option, None, Some, IfSome, if◌then◌else◌, refl, arith}
use Rattle.std.specs.Prelude.{FitsSigned}
use Rattle.std.specs.Int.{w64}
use Rattle.std.specs.List.{starts_with}
use Rattle.std.specs.Option.{option_map}
use Rattle.std.proofs.lemmas.Bool.{ltb-true, ltb-false}
use Rattle.gossa_base.specs.Words.{low, signed_at}
use Rattle.ssa_ir.specs.declared.op.Op.{Op}
use Rattle.ssa_ir.specs.declared.op.AuxRule.{AuxRule}
use Rattle.ssa_ir.specs.declared.op.AuxRule.TheVariants.{Nothing, Int, Bool as TrueOrFalse, Sym, Elem, Dropped}
use Rattle.ssa_ir.specs.declared.types.Scalar.{Scalar}
use Rattle.ssa_ir.specs.Names.{IsName}
use Rattle.ssa_ir.specs.WellFormed.{HasItsNumber, HasItsSymbol, HasItsElem}
use Rattle.ssa_lines.specs.declared.numbers.Integer.{Integer}
use Rattle.ssa_lines.specs.declared.numbers.Integer.TheVariants.{Word, TooLarge as IntegerTooLarge}
use Rattle.ssa_lines.specs.declared.forms.Aux.{Aux}
use Rattle.ssa_lines.specs.declared.forms.Bracket.{Bracket}
use Rattle.ssa_lines.specs.declared.forms.Bracket.TheVariants.{Number as BracketNumber, Truth}
use Rattle.ssa_lines.specs.Headers.{is_name}
use Rattle.ssa_lines.specs.Types.{scalar_of}
use Rattle.ssa_lines.specs.Words.{without_last}
use Rattle.ssa_lines.specs.ValueForms.{Extras, checked_name, call_name, name_inside, dropped, word_of_truth, is_arg}
use Rattle.ssa_lines.specs.ValueForms.{is_static_call, aux_of_number, aux_of_truth, call_number, aux_of_name}
use Rattle.ssa_lines.specs.ValueForms.{aux_of_elem, aux_of_mark, aux_of_none, aux_by}
use Rattle.ssa_text.proofs.HeaderFactsLemmas.{name_tested}
use Rattle.ssa_lines.proofs.GrammarLemmas.{then_shown, then_any, either_shown}

signed_small : (l : ℕ) (half all : Bool) → l < 2 ^ 64 → nat_lt l (2 ^ 63) ≡ half → nat_lt l (2 ^ 64) ≡ all
    → FitsSigned w64 (cond half (pos l) (cond all (negsuc (2 ^ 64 - suc l)) (pos (l - 2 ^ 64))))
signed_small l true all lt in_half in_all = record { sfits = ltb-true l (2 ^ 63) in_half }
signed_small l false true lt in_half in_all =
    let past = ltb-false l (2 ^ 63) in_half in record { sfits = omega arith }
signed_small l false false lt in_half in_all = absurd (omega (arith, ltb-false l (2 ^ 64) in_all))

-- a word, read as a signed number, is in the range of those
pub signed_fits : (w : ℕ) → FitsSigned w64 (signed_at 64 w)
signed_fits w =
    let l = low 64 w in signed_small l (nat_lt l (2 ^ 63)) (nat_lt l (2 ^ 64)) (omega arith) refl refl

-- the number of a value's line is one that its op's row has, where it isn't too large
abbrev pub NumberByRule : AuxRule → Integer → Type 0
NumberByRule rule (Word w) = HasItsNumber rule (signed_at 64 w)
NumberByRule rule IntegerTooLarge = Unit {0}

pub record AuxByRule (rule : AuxRule) (aux : Aux) : Type 0 where
  pub number : NumberByRule rule aux.number
  pub symbol : HasItsSymbol rule aux.sym
  pub elem : HasItsElem rule aux.elem
  pub name : IfSome aux.sym IsName

any_number : (n : Integer) → NumberByRule Int n
any_number (Word w) = tt
any_number IntegerTooLarge = tt

int_aux : (n : Integer) → AuxByRule Int (record { number = n; sym = None; elem = None })
int_aux n = record { number = any_number n; symbol = refl; elem = refl; name = tt }

number_shown : (op : Op) (bracket : Option Bracket) (brace : Option (List ℕ))
    → IfSome (aux_of_number op bracket brace) (AuxByRule Int)
number_shown op None brace = tt
number_shown op (Some (Truth b)) brace = tt
number_shown op (Some (BracketNumber n)) None = int_aux n
number_shown op (Some (BracketNumber n)) (Some brace) =
    either_shown (AuxByRule Int) (is_arg op) _ None (int_aux n) tt

truth_word : (b : Bool) → HasItsNumber TrueOrFalse (signed_at 64 (word_of_truth b))
truth_word true = inr refl
truth_word false = inl refl

truth_shown : (bracket : Option Bracket) (brace : Option (List ℕ))
    → IfSome (aux_of_truth bracket brace) (AuxByRule TrueOrFalse)
truth_shown None brace = tt
truth_shown (Some (BracketNumber n)) brace = tt
truth_shown (Some (Truth b)) (Some brace) = tt
truth_shown (Some (Truth b)) None = record { number = truth_word b; symbol = refl; elem = refl; name = tt }

dropped_number : (n : Integer) → NumberByRule Sym (dropped n)
dropped_number (Word w) = refl
dropped_number IntegerTooLarge = tt

call_number_shown : (op : Op) (bracket : Option Bracket) → IfSome (call_number op bracket) (NumberByRule Sym)
call_number_shown op None = refl
call_number_shown op (Some (Truth b)) = tt
call_number_shown op (Some (BracketNumber n)) =
    either_shown (NumberByRule Sym) (is_static_call op) _ None (dropped_number n) tt

checked_shown : (word : List ℕ) (b : Bool) → is_name word ≡ b → IfSome (if b then Some word else None) IsName
checked_shown word true h = name_tested word h
checked_shown word false h = tt

inside_shown : (inside : List ℕ) → IfSome (name_inside inside) IsName
inside_shown inside =
    let call = drop 8 inside in
    either_shown IsName (starts_with nat_eq inside (codes "AuxCall{")) (call_name call) (checked_name inside)
    (then_any IsName (without_last 125 call) _ (λ word. checked_shown word (is_name word) refl))
    (checked_shown inside (is_name inside) refl)

name_shown : (op : Op) (bracket : Option Bracket) (brace : Option (List ℕ))
    → IfSome (aux_of_name op bracket brace) (AuxByRule Sym)
name_shown op bracket None = tt
name_shown op bracket (Some inside) =
    then_shown (AuxByRule Sym) (call_number op bracket) _ (call_number_shown op bracket)
    (λ number by. then_shown (AuxByRule Sym) (name_inside inside) _ (inside_shown inside)
    (λ name named. record { number = by; symbol = refl; elem = refl; name = named }))

elem_shown : (bracket : Option Bracket) (brace : Option (List ℕ))
    → IfSome (aux_of_elem bracket brace) (AuxByRule Elem)
elem_shown (Some bracket) brace = tt
elem_shown None None = tt
elem_shown None (Some inside) = go (scalar_of inside)
  where
    go : (found : Option Scalar)
        → IfSome (option_map (λ (t : Scalar). record { number = Word 0; sym = None; elem = Some t }) found)
        (AuxByRule Elem)
    go None = tt
    go (Some t) = record { number = refl; symbol = refl; elem = refl; name = tt }

mark_shown : (bracket : Option Bracket) (brace : Option (List ℕ))
    → IfSome (aux_of_mark bracket brace) (AuxByRule Dropped)
mark_shown None None = record { number = refl; symbol = refl; elem = refl; name = tt }
mark_shown None (Some brace) = tt
mark_shown (Some (BracketNumber n)) brace = tt
mark_shown (Some (Truth b)) (Some brace) = tt
mark_shown (Some (Truth b)) None = record { number = refl; symbol = refl; elem = refl; name = tt }

none_shown : (bracket : Option Bracket) (brace : Option (List ℕ))
    → IfSome (aux_of_none bracket brace) (AuxByRule Nothing)
none_shown None None = record { number = refl; symbol = refl; elem = refl; name = tt }
none_shown None (Some brace) = tt
none_shown (Some bracket) brace = tt

-- what a line spells in its brackets and braces fits the row of its op
pub aux_shown : (op : Op) (rule : AuxRule) (e : Extras) → IfSome (aux_by op rule e) (AuxByRule rule)
aux_shown op Int e = number_shown op e.bracket e.brace
aux_shown op TrueOrFalse e = truth_shown e.bracket e.brace
aux_shown op Sym e = name_shown op e.bracket e.brace
aux_shown op Elem e = elem_shown e.bracket e.brace
aux_shown op Dropped e = mark_shown e.bracket e.brace
aux_shown op Nothing e = none_shown e.bracket e.brace
