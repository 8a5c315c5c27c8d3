-- The forms of lines: what the words of one line spell, by themselves.
use Rattle.std.specs.Prelude.{ℕ, nat_eq, Bool, ◌&&◌, ◌||◌, if◌then◌else◌, List, [], ◌∷◌, codes, map, Option, None, Some}
use Rattle.std.specs.List.{starts_with, list_all}
use Rattle.std.specs.Option.{option_map}
use Rattle.gossa_base.specs.declared.ids.ValueId.{ValueId}
use Rattle.gossa_base.specs.declared.ids.BlockId.{BlockId}
use Rattle.ssa_ir.specs.declared.func.Kind.{Kind}
use Rattle.ssa_ir.specs.declared.func.Kind.TheVariants.{Plain, If, Ret, Exit}
use Rattle.ssa_lines.specs.declared.numbers.Number.{Number}
use Rattle.ssa_lines.specs.declared.numbers.Number.TheVariants.{Fits as NumberFits, TooLarge as NumberTooLarge}
use Rattle.ssa_lines.specs.declared.forms.Spelled.{Spelled}
use Rattle.ssa_lines.specs.declared.forms.Spelled.TheVariants.{Fits, TooLarge}
use Rattle.ssa_lines.specs.declared.forms.BlockLine.{BlockLine}
use Rattle.ssa_lines.specs.declared.forms.ControlLine.{ControlLine}
use Rattle.ssa_lines.specs.declared.forms.Form.{Form}
use Rattle.ssa_lines.specs.declared.forms.Form.TheVariants.{Blank, Case, Sig as SigForm, Func as FuncForm}
use Rattle.ssa_lines.specs.declared.forms.Form.TheVariants.{Block as BlockForm, Value as ValueForm}
use Rattle.ssa_lines.specs.declared.forms.Form.TheVariants.{Control as ControlForm, Bad}
use Rattle.ssa_lines.specs.Headers.{signature_of}
use Rattle.ssa_lines.specs.Steps.{◌>>=◌, only_where}
use Rattle.ssa_lines.specs.Words.{is_same, is_marked, without_last}
use Rattle.ssa_lines.specs.ValueForms.{value_line}
use Rattle.ssa_lines.specs.NumberWords.{number_word, numbers_ahead, fitting, spelled, bid, vid}

-- the arrow of predecessors, in either spelling
abbrev pub is_left_arrow : List ℕ → Bool
is_left_arrow word = is_same word (codes "<-") || is_same word (226 ∷ 134 ∷ 144 ∷ [])

-- the arrow of successors
abbrev pub is_right_arrow : List ℕ → Bool
is_right_arrow word = is_same word (codes "->") || is_same word (226 ∷ 134 ∷ 146 ∷ [])

-- one or more blocks, and nothing behind them
abbrev pub some_blocks : List Number × List (List ℕ) → Option (List Number)
some_blocks ([], words) = None
some_blocks (n ∷ numbers, []) = Some (n ∷ numbers)
some_blocks (n ∷ numbers, word ∷ words) = None

-- the predecessors: none, none behind a dash, or those behind an arrow
abbrev pub preds_of : List (List ℕ) → Option (List Number)
preds_of [] = Some []
preds_of (word ∷ []) = if is_same word (codes "-") then Some [] else None
preds_of (word ∷ other ∷ words) = do
  arrow ← only_where (is_left_arrow word)
  some_blocks (numbers_ahead 98 (other ∷ words))

-- the blocks of these numbers
abbrev pub blocks_of : List Number → Spelled (List BlockId)
blocks_of numbers = spelled (option_map (map bid) (fitting numbers))

abbrev pub block_of : Number → Spelled (List BlockId) → Spelled BlockLine
block_of (NumberFits n) (Fits preds) = Fits (record { n = n; preds = preds })
block_of _ _ = TooLarge

-- the beginning of a block
abbrev pub block_line : List (List ℕ) → Option (Spelled BlockLine)
block_line [] = None
block_line (label ∷ words) = do
  front ← without_last 58 label
  number ← number_word 98 front
  preds ← preds_of words
  Some (block_of number (blocks_of preds))

-- a control of this number
abbrev pub control_named : Number → Spelled (Option ValueId)
control_named (NumberFits n) = Fits (Some (vid n))
control_named NumberTooLarge = TooLarge

-- a control line of this kind with this control and these successors
abbrev pub control_of : Kind → Spelled (Option ValueId) → Spelled (List BlockId) → Spelled ControlLine
control_of kind (Fits control) (Fits succs) = Fits (record { kind = kind; control = control; succs = succs })
control_of kind _ _ = TooLarge

-- a plain end, behind its first word
abbrev pub plain_end : List (List ℕ) → Option (Spelled ControlLine)
plain_end (arrow ∷ target ∷ marks) = do
  form ← only_where (is_right_arrow arrow && list_all is_marked marks)
  b ← number_word 98 target
  Some (control_of Plain (Fits None) (blocks_of (b ∷ [])))
plain_end _ = None

-- an end that decides between two blocks, with this control and these successors
abbrev pub if_of : (control target other : List ℕ) → Option (Spelled ControlLine)
if_of control target other = do
  v ← number_word 118 control
  b ← number_word 98 target
  c ← number_word 98 other
  Some (control_of If (control_named v) (blocks_of (b ∷ c ∷ [])))

-- an end that decides between two blocks, behind its first word
abbrev pub if_end : List (List ℕ) → Option (Spelled ControlLine)
if_end (control ∷ arrow ∷ target ∷ other ∷ marks) = do
  form ← only_where (is_right_arrow arrow && list_all is_marked marks)
  if_of control target other
if_end _ = None

-- an end that leaves the function, behind its first word
abbrev pub leaving_end : Kind → List (List ℕ) → Option (Spelled ControlLine)
leaving_end kind (control ∷ marks) = do
  form ← only_where (list_all is_marked marks)
  v ← number_word 118 control
  Some (control_of kind (control_named v) (Fits []))
leaving_end kind [] = None

-- the end of a block
abbrev pub control_line : List (List ℕ) → Option (Spelled ControlLine)
control_line [] = None
control_line (word ∷ words) =
    if is_same word (codes "Plain") then plain_end words
    else if is_same word (codes "If") then if_end words
    else if is_same word (codes "Ret") then leaving_end Ret words
    else if is_same word (codes "Exit") then leaving_end Exit words
    else None

-- the form that a reader of it gives, or a bad one
abbrev pub or_bad : {X : Type 0} → (X → Form) → Option X → Form
or_bad form None = Bad
or_bad form (Some x) = form x

abbrev pub block_or_value : Option (Spelled BlockLine) → List (List ℕ) → Form
block_or_value (Some b) words = BlockForm b
block_or_value None words = or_bad ValueForm (value_line words)

abbrev pub control_or_other : Option (Spelled ControlLine) → List (List ℕ) → Form
control_or_other (Some c) words = ControlForm c
control_or_other None words = block_or_value (block_line words) words

-- the form of a line by its words
abbrev pub form_of : List (List ℕ) → Form
form_of [] = Blank
form_of (word ∷ words) =
    if starts_with nat_eq word (codes "//") then Blank
    else if is_same word (codes "case") then Case
    else if is_same word (codes "sig") then or_bad SigForm (signature_of words)
    else if is_same word (codes "func") then or_bad FuncForm (signature_of words)
    else control_or_other (control_line (word ∷ words)) (word ∷ words)
