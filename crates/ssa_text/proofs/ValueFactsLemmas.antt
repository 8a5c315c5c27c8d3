-- What is known of the values that lines spell.
use Rattle.std.proofs.Common.{◌≡◌, ℕ, Bool, true, false, codes, List, [], ◌∷◌, All, Option, None, Some, IfSome}
use Rattle.std.proofs.Common.{if◌then◌else◌, refl}
use Rattle.std.specs.Option.{option_map}
use Rattle.std.specs.List.{slice_split}
use Rattle.gossa_base.specs.declared.ids.ValueId.{ValueId}
use Rattle.ssa_ir.specs.declared.op.Op.{Op}
use Rattle.ssa_ir.specs.declared.types.Scalar.{Scalar}
use Rattle.ssa_ir.specs.declared.types.Ty.{Ty}
use Rattle.ssa_ir.specs.declared.types.Ty.TheVariants.{One, Mem, Tuple, Flags, Void}
use Rattle.ssa_ir.specs.AllOps.{op_of_name}
use Rattle.ssa_ir.specs.Ops.{row_of, is_machine}
use Rattle.ssa_ir.specs.WellFormed.{makes_tuple, CanBeWritten}
use Rattle.ssa_lines.specs.declared.numbers.Integer.{Integer}
use Rattle.ssa_lines.specs.declared.numbers.Integer.TheVariants.{Word, TooLarge as IntegerTooLarge}
use Rattle.ssa_lines.specs.declared.numbers.Number.{Number}
use Rattle.ssa_lines.specs.declared.numbers.Number.TheVariants.{Fits as NumberFits, TooLarge as NumberTooLarge}
use Rattle.ssa_lines.specs.declared.forms.Aux.{Aux}
use Rattle.ssa_lines.specs.declared.forms.Spelled.{Spelled}
use Rattle.ssa_lines.specs.declared.forms.Spelled.TheVariants.{Fits, TooLarge as ArgTooLarge}
use Rattle.ssa_lines.specs.declared.forms.ValueLine.{ValueLine}
use Rattle.ssa_lines.specs.declared.forms.ValueLine.TheVariants.{Known, UnknownOp, TooLarge}
use Rattle.ssa_lines.specs.NumberWords.{number_word, numbers_ahead}
use Rattle.ssa_lines.specs.Types.{is_comma, scalar_of, before_type, tuple_of, type_of_parts, type_of}
use Rattle.ssa_lines.specs.Words.{is_same}
use Rattle.ssa_lines.specs.ValueForms.{Extras, between, behind_mark, past, next_word, extras_ahead, aux_by, value_with}
use Rattle.ssa_lines.specs.ValueForms.{generic, generic_named, tuple_op, is_end, args_ahead, all_args, line_by_op}
use Rattle.ssa_lines.specs.ValueForms.{value_behind, value_line}
use Rattle.ssa_text.proofs.AuxFactsLemmas.{signed_fits, NumberByRule, AuxByRule, aux_shown}
use Rattle.ssa_lines.proofs.FormFacts.{IsValueNumber, ValueFacts}
use Rattle.ssa_lines.proofs.NumberFactsLemmas.{InRange, IfFits, word_in_range, numbers_in_range, values_fit}
use Rattle.ssa_lines.proofs.GrammarLemmas.{then_shown, then_any, either_shown}

-- what is known of a line with the shape of a value's
abbrev pub LineFacts : ValueLine → Type 0
LineFacts (Known v) = ValueFacts v
LineFacts UnknownOp = Unit {0}
LineFacts TooLarge = Unit {0}

-- what is known of a written type, where mem alone is a tuple or not
abbrev WrittenAs : Bool → Ty → Type 0
WrittenAs tuple (One t) = Unit {0}
WrittenAs tuple Mem = tuple ≡ false
WrittenAs tuple (Tuple []) = tuple ≡ true
WrittenAs tuple (Tuple (t ∷ types)) = Unit {0}
WrittenAs tuple Flags = ⊥
WrittenAs tuple Void = ⊥

mem_written : (tuple : Bool) → WrittenAs tuple (if tuple then Tuple [] else Mem)
mem_written true = refl
mem_written false = refl

one_written : (tuple : Bool) (found : Option Scalar) → IfSome (option_map One found) (WrittenAs tuple)
one_written tuple None = tt
one_written tuple (Some t) = tt

tuple_written : (tuple : Bool) (first : Option Scalar) (types : Option (List Scalar))
    → IfSome (option_map Tuple (before_type first types)) (WrittenAs tuple)
tuple_written tuple None types = tt
tuple_written tuple (Some t) None = tt
tuple_written tuple (Some t) (Some types) = tt

parts_written : (tuple : Bool) (parts : List (List ℕ)) → IfSome (type_of_parts tuple parts) (WrittenAs tuple)
parts_written tuple [] = tt
parts_written tuple (part ∷ []) =
    either_shown (WrittenAs tuple) (is_same part (codes "mem")) _ _ (mem_written tuple)
    (one_written tuple (scalar_of part))
parts_written tuple (part ∷ other ∷ parts) = tuple_written tuple (scalar_of part) (tuple_of (other ∷ parts))

can_be_written : (op : Op) (ty : Ty) → WrittenAs (makes_tuple op) ty → CanBeWritten op ty
can_be_written op (One t) h = tt
can_be_written op Mem h = h
can_be_written op (Tuple []) h = h
can_be_written op (Tuple (t ∷ types)) h = tt
can_be_written op Flags h = h
can_be_written op Void h = h

generic_shown : (op : Op) (b : Bool) → is_machine op ≡ b
    → IfSome (if b then None else Some op) (λ o. is_machine o ≡ false)
generic_shown op true h = tt
generic_shown op false h = h

op_is_generic : (found : Option Op) → IfSome (generic found) (λ op. is_machine op ≡ false)
op_is_generic None = tt
op_is_generic (Some op) = generic_shown op (is_machine op) refl

-- a value with these parts, where none is too large
with_facts : (op : Op) (ty : Ty) (aux : Aux) (number : Integer) (id : Number) (args : Spelled (List ValueId))
    → is_machine op ≡ false → CanBeWritten op ty → AuxByRule (row_of op).aux aux
    → NumberByRule (row_of op).aux number → InRange id
    → IfFits args (All IsValueNumber) → LineFacts (value_with op ty aux number id args)
with_facts op ty aux IntegerTooLarge id args generic type by fits named given = tt
with_facts op ty aux (Word w) NumberTooLarge args generic type by fits named given = tt
with_facts op ty aux (Word w) (NumberFits id) ArgTooLarge generic type by fits named given = tt
with_facts op ty aux (Word w) (NumberFits id) (Fits args) generic type by fits named given = record {
  number = named;
  args = given;
  well_formed = record {
    generic = generic;
    type = type;
    number = fits;
    symbol = by.symbol;
    elem = by.elem;
    name = by.name;
  };
  aux = signed_fits w;
}

line_shown : (op : Option Op) (id : Number) (ty : Ty) (extras : Extras) (args : Spelled (List ValueId))
    → IfSome op (λ o. is_machine o ≡ false) → WrittenAs (tuple_op op) ty → InRange id
    → IfFits args (All IsValueNumber)
    → IfSome (line_by_op op id ty extras args) LineFacts
line_shown None id ty extras args generic written named given = tt
line_shown (Some op) id ty extras args generic written named given =
    then_shown LineFacts (aux_by op (row_of op).aux extras) _ (aux_shown op (row_of op).aux extras)
    (λ aux by. with_facts op ty aux aux.number id args generic
    (can_be_written op ty written) by by.number named given)

args_shown : (words : List (List ℕ)) → IfSome (all_args words) (λ args. IfFits args (All IsValueNumber))
args_shown words =
    let ahead = numbers_ahead 118 words in
    either_shown (λ args. IfFits args (All IsValueNumber)) (is_end ahead.1) (Some (args_ahead words)) None
    (values_fit ahead.0 (numbers_in_range 118 words)) tt

behind_shown : (id : Number) (op : Option Op) (words : List (List ℕ)) → InRange id
    → IfSome op (λ o. is_machine o ≡ false)
    → IfSome (value_behind id op words) LineFacts
behind_shown id op words named generic =
    then_any LineFacts (next_word words) _
    (λ written. then_any LineFacts (between 60 62 written.0) _
    (λ inside. then_shown LineFacts (type_of (tuple_op op) inside) _
    (parts_written (tuple_op op) (slice_split is_comma inside))
    (λ ty can. then_any LineFacts (extras_ahead written.1) _
    (λ extras. then_shown LineFacts (all_args extras.1) _ (args_shown extras.1)
    (λ args given. line_shown op id ty extras.0 args generic can named given)))))

-- a value that a line spells is well formed by itself
pub value_shown : (words : List (List ℕ)) → IfSome (value_line words) LineFacts
value_shown words =
    then_any LineFacts (next_word words) _
    (λ first. then_shown LineFacts (number_word 118 first.0) _ (word_in_range 118 first.0)
    (λ id named. then_any LineFacts (past (codes "=") (behind_mark first.1)) _
    (λ rest. then_any LineFacts (next_word rest) _
    (λ name. behind_shown id (generic_named name.0) name.1 named (op_is_generic (op_of_name name.0))))))
