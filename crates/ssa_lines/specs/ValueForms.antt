-- The lines of values: what the words of one spell, by themselves.
use Rattle.std.specs.Prelude.{ℕ, nat_eq, Bool, true, false, ◌&&◌, if◌then◌else◌, List, [], ◌∷◌, ◌++◌, codes, drop}
use Rattle.std.specs.Prelude.{is_some, map, Option, None, Some}
use Rattle.std.specs.List.{starts_with}
use Rattle.std.specs.Option.{option_map}
use Rattle.gossa_base.specs.declared.ids.ValueId.{ValueId}
use Rattle.gossa_base.specs.Words.{signed_at}
use Rattle.ssa_ir.specs.declared.op.Op.{Op}
use Rattle.ssa_ir.specs.declared.op.Op.TheVariants.{StaticLECall, Arg}
use Rattle.ssa_ir.specs.declared.op.AuxRule.{AuxRule}
use Rattle.ssa_ir.specs.declared.op.AuxRule.TheVariants.{Nothing, Int, Bool as TrueOrFalse, Sym, Elem, Dropped}
use Rattle.ssa_ir.specs.declared.types.Ty.{Ty}
use Rattle.ssa_ir.specs.AllOps.{op_of_name}
use Rattle.ssa_ir.specs.Ops.{row_of, is_machine}
use Rattle.ssa_ir.specs.WellFormed.{makes_tuple}
use Rattle.ssa_lines.specs.declared.numbers.Integer.{Integer}
use Rattle.ssa_lines.specs.declared.numbers.Integer.TheVariants.{Word, TooLarge as IntegerTooLarge}
use Rattle.ssa_lines.specs.declared.numbers.Number.{Number}
use Rattle.ssa_lines.specs.declared.numbers.Number.TheVariants.{Fits as NumberFits}
use Rattle.ssa_lines.specs.declared.forms.Aux.{Aux}
use Rattle.ssa_lines.specs.declared.forms.Bracket.{Bracket}
use Rattle.ssa_lines.specs.declared.forms.Bracket.TheVariants.{Number as BracketNumber, Truth}
use Rattle.ssa_lines.specs.declared.forms.Spelled.{Spelled}
use Rattle.ssa_lines.specs.declared.forms.Spelled.TheVariants.{Fits, TooLarge as ArgTooLarge}
use Rattle.ssa_lines.specs.declared.forms.ValueLine.{ValueLine}
use Rattle.ssa_lines.specs.declared.forms.ValueLine.TheVariants.{Known, UnknownOp, TooLarge}
use Rattle.ssa_lines.specs.Headers.{is_name}
use Rattle.ssa_lines.specs.Numbers.{integer_of, sized}
use Rattle.ssa_lines.specs.NumberWords.{number_word, numbers_ahead, fitting, spelled, vid}
use Rattle.ssa_lines.specs.Steps.{◌>>=◌}
use Rattle.ssa_lines.specs.Types.{scalar_of, type_of}
use Rattle.ssa_lines.specs.Words.{is_same, is_marked, opens, without_first, without_last}

-- a word between these two bytes
abbrev pub between : (first last : ℕ) → List ℕ → Option (List ℕ)
between first last word = do
  front ← without_last last word
  without_first first front

-- behind a value's number, one word in parentheses is skipped
abbrev pub behind_mark : List (List ℕ) → List (List ℕ)
behind_mark [] = []
behind_mark (word ∷ words) = if is_marked word then words else (word ∷ words)

-- the words behind this one
abbrev pub past : List ℕ → List (List ℕ) → Option (List (List ℕ))
past expected [] = None
past expected (word ∷ words) = if is_same word expected then Some words else None

abbrev pub next_word : List (List ℕ) → Option (List ℕ × List (List ℕ))
next_word [] = None
next_word (word ∷ words) = Some (word, words)

-- what stands in brackets: true, false or an integer
abbrev pub bracket_inside : List ℕ → Option Bracket
bracket_inside inside =
    if is_same inside (codes "true") then Some (Truth true)
    else if is_same inside (codes "false") then Some (Truth false)
    else option_map (λ z. BracketNumber (sized z)) (integer_of inside)

-- what stands between the type and the arguments: brackets, braces, both in either order, or neither
pub record Extras : Type 0 where
  pub bracket : Option Bracket
  pub brace : Option (List ℕ)

abbrev pub extras_of : Option Bracket → Option (List ℕ) → Extras
extras_of bracket brace = record { bracket = bracket; brace = brace }

abbrev pub bracket_of : List ℕ → Option Bracket
bracket_of word = do
  inside ← between 91 93 word
  bracket_inside inside

abbrev pub brace_of : List ℕ → Option (List ℕ)
brace_of word = between 123 125 word

abbrev pub then_brace : Bracket → Bool → List (List ℕ) → Option (Extras × List (List ℕ))
then_brace bracket false words = Some (extras_of (Some bracket) None, words)
then_brace bracket true words = do
  word ← next_word words
  brace ← brace_of word.0
  Some (extras_of (Some bracket) (Some brace), word.1)

abbrev pub then_bracket : List ℕ → Bool → List (List ℕ) → Option (Extras × List (List ℕ))
then_bracket brace false words = Some (extras_of None (Some brace), words)
then_bracket brace true words = do
  word ← next_word words
  bracket ← bracket_of word.0
  Some (extras_of (Some bracket) (Some brace), word.1)

abbrev pub extras_by : (bracket brace : Bool) → List (List ℕ) → Option (Extras × List (List ℕ))
extras_by true brace words = do
  word ← next_word words
  bracket ← bracket_of word.0
  then_brace bracket (opens 123 word.1) word.1
extras_by false true words = do
  word ← next_word words
  brace ← brace_of word.0
  then_bracket brace (opens 91 word.1) word.1
extras_by false false words = Some (extras_of None None, words)

-- the brackets and braces at the front of words, and the words behind them
abbrev pub extras_ahead : List (List ℕ) → Option (Extras × List (List ℕ))
extras_ahead words = extras_by (opens 91 words) (opens 123 words) words

abbrev pub only_number : Integer → Aux
only_number n = record { number = n; sym = None; elem = None }

abbrev pub checked_name : List ℕ → Option (List ℕ)
checked_name word = if is_name word then Some word else None

abbrev pub call_name : List ℕ → Option (List ℕ)
call_name word = do
  name ← without_last 125 word
  checked_name name

-- the name inside braces, as NAME or AuxCall{NAME}
abbrev pub name_inside : List ℕ → Option (List ℕ)
name_inside inside =
    if starts_with nat_eq inside (codes "AuxCall{") then call_name (drop 8 inside) else checked_name inside

-- an integer that is read and dropped, which counts only where it is too large
abbrev pub dropped : Integer → Integer
dropped (Word w) = Word 0
dropped IntegerTooLarge = IntegerTooLarge

abbrev pub word_of_truth : Bool → ℕ
word_of_truth true = 1
word_of_truth false = 0

abbrev pub is_arg : Op → Bool
is_arg Arg = true
is_arg _ = false

abbrev pub is_static_call : Op → Bool
is_static_call StaticLECall = true
is_static_call _ = false

-- a number in brackets, and no braces but on an Arg, where they are dropped
abbrev pub aux_of_number : Op → Option Bracket → Option (List ℕ) → Option Aux
aux_of_number op (Some (BracketNumber n)) None = Some (only_number n)
aux_of_number op (Some (BracketNumber n)) (Some brace) = if is_arg op then Some (only_number n) else None
aux_of_number op _ brace = None

-- true or false in brackets, and no braces
abbrev pub aux_of_truth : Option Bracket → Option (List ℕ) → Option Aux
aux_of_truth (Some (Truth b)) None = Some (only_number (Word (word_of_truth b)))
aux_of_truth _ _ = None

-- the integer of a call, in brackets or absent, and no brackets on another op
abbrev pub call_number : Op → Option Bracket → Option Integer
call_number op None = Some (Word 0)
call_number op (Some (BracketNumber n)) = if is_static_call op then Some (dropped n) else None
call_number op (Some (Truth b)) = None

-- a name in braces, and no brackets but those of a call
abbrev pub aux_of_name : Op → Option Bracket → Option (List ℕ) → Option Aux
aux_of_name op bracket None = None
aux_of_name op bracket (Some inside) = do
  number ← call_number op bracket
  name ← name_inside inside
  Some (record { number = number; sym = Some name; elem = None })

-- a type in braces, and no brackets
abbrev pub aux_of_elem : Option Bracket → Option (List ℕ) → Option Aux
aux_of_elem None (Some inside) =
    option_map (λ t. record { number = Word 0; sym = None; elem = Some t }) (scalar_of inside)
aux_of_elem _ _ = None

-- true or false in brackets, which is dropped, or neither; no braces
abbrev pub aux_of_mark : Option Bracket → Option (List ℕ) → Option Aux
aux_of_mark None None = Some (only_number (Word 0))
aux_of_mark (Some (Truth b)) None = Some (only_number (Word 0))
aux_of_mark _ _ = None

-- neither brackets nor braces
abbrev pub aux_of_none : Option Bracket → Option (List ℕ) → Option Aux
aux_of_none None None = Some (only_number (Word 0))
aux_of_none _ _ = None

-- what a value of this op has, where its brackets and braces are those of the op's row
abbrev pub aux_by : Op → AuxRule → Extras → Option Aux
aux_by op Int e = aux_of_number op e.bracket e.brace
aux_by op TrueOrFalse e = aux_of_truth e.bracket e.brace
aux_by op Sym e = aux_of_name op e.bracket e.brace
aux_by op Elem e = aux_of_elem e.bracket e.brace
aux_by op Dropped e = aux_of_mark e.bracket e.brace
aux_by op Nothing e = aux_of_none e.bracket e.brace

abbrev pub value_with : Op → Ty → Aux → Integer → Number → Spelled (List ValueId) → ValueLine
value_with op ty aux (Word w) (NumberFits id) (Fits args) =
    Known (record { id = vid id; op = op; ty = ty; aux = signed_at 64 w; sym = aux.sym; elem = aux.elem; args = args })
value_with op ty aux _ _ _ = TooLarge

-- the value of these parts, or one of them is too large
abbrev pub value_of : Number → Op → Ty → Aux → Spelled (List ValueId) → ValueLine
value_of id op ty aux args = value_with op ty aux aux.number id args

abbrev pub generic : Option Op → Option Op
generic None = None
generic (Some op) = if is_machine op then None else Some op

-- the generic op of a name
abbrev pub generic_named : List ℕ → Option Op
generic_named name = generic (op_of_name name)

-- whether <mem> is a tuple on a value with this op; on one whose op is unknown it is a memory
abbrev pub tuple_op : Option Op → Bool
tuple_op None = false
tuple_op (Some op) = makes_tuple op

abbrev pub last_word : List ℕ → List (List ℕ) → List ℕ
last_word word [] = word
last_word word (next ∷ words) = last_word next words

-- behind the arguments nothing stands, or what begins and ends with a parenthesis, which is skipped
abbrev pub is_end : List (List ℕ) → Bool
is_end [] = true
is_end (word ∷ words) = is_some (without_first 40 word) && is_some (without_last 41 (last_word word words))

-- the values that the first words name
abbrev pub args_ahead : List (List ℕ) → Spelled (List ValueId)
args_ahead words = spelled (option_map (map vid) (fitting (numbers_ahead 118 words).0))

-- the arguments, behind which nothing stands but what is skipped
abbrev pub all_args : List (List ℕ) → Option (Spelled (List ValueId))
all_args words = if is_end (numbers_ahead 118 words).1 then Some (args_ahead words) else None

-- one more argument, the last
abbrev pub with_arg : Spelled (List ValueId) → Number → Spelled (List ValueId)
with_arg (Fits args) (NumberFits n) = Fits (args ++ vid n ∷ [])
with_arg _ _ = ArgTooLarge

abbrev pub line_by_op : Option Op → Number → Ty → Extras → Spelled (List ValueId) → Option ValueLine
line_by_op None id ty extras args = Some UnknownOp
line_by_op (Some op) id ty extras args = do
  aux ← aux_by op (row_of op).aux extras
  Some (value_of id op ty aux args)

-- a value behind its number and its op: type, brackets and braces, arguments
abbrev pub value_behind : Number → Option Op → List (List ℕ) → Option ValueLine
value_behind id op words = do
  written ← next_word words
  inside ← between 60 62 written.0
  ty ← type_of (tuple_op op) inside
  extras ← extras_ahead written.1
  args ← all_args extras.1
  line_by_op op id ty extras.0 args

-- the line of a value
abbrev pub value_line : List (List ℕ) → Option ValueLine
value_line words = do
  first ← next_word words
  id ← number_word 118 first.0
  rest ← past (codes "=") (behind_mark first.1)
  name ← next_word rest
  value_behind id (generic_named name.0) name.1
