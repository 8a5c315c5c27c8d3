-- What the lines of a unit in front of its cases are read as: one by one, with what was read before them.
use Rattle.std.specs.Prelude.{ℕ, ◌+◌, ◌==◌, nat_lt, nat_eq, Bool, true, false, not, ◌&&◌, ◌||◌, if◌then◌else◌, List, []}
use Rattle.std.specs.Prelude.{◌∷◌, ◌++◌, length, map, is_none, is_some, find, Option, None, Some, Result, Ok, Err}
use Rattle.std.specs.Cmp.Lexicographic.{pointwise}
use Rattle.std.specs.List.{flat_map, list_any}
use Rattle.std.specs.Option.{option_map, option_or}
use Rattle.gossa_base.specs.declared.ids.ValueId.{ValueId}
use Rattle.gossa_base.specs.declared.ids.BlockId.{BlockId}
use Rattle.ssa_ir.specs.declared.limits.TheConstants.{MAX_ARGS, MAX_BLOCKS, MAX_FUNCTIONS, MAX_LINE_BYTES, MAX_PARAMS}
use Rattle.ssa_ir.specs.declared.limits.TheConstants.{MAX_RESULTS, MAX_SIGS, MAX_VALUES}
use Rattle.ssa_ir.specs.declared.types.Sig.{Sig}
use Rattle.ssa_ir.specs.declared.types.Ty.{Ty}
use Rattle.ssa_ir.specs.declared.func.Value.{Value}
use Rattle.ssa_ir.specs.declared.func.Block.{Block}
use Rattle.ssa_ir.specs.declared.func.Func.{Func}
use Rattle.ssa_ir.specs.declared.func.SsaUnit.{SsaUnit}
use Rattle.ssa_ir.specs.Limits.{tuple_words}
use Rattle.ssa_ir.specs.Lookups.{is_numbered}
use Rattle.ssa_lines.specs.Forms.{form_of}
pub use Rattle.ssa_lines.specs.Limits.{over, full, limit_of}
use Rattle.ssa_lines.specs.Lines.{is_allowed}
use Rattle.ssa_lines.specs.Words.{words_of}
use Rattle.ssa_lines.specs.declared.forms.Spelled.TheVariants.{Fits, TooLarge as NotSpelled}
use Rattle.ssa_lines.specs.declared.forms.BlockLine.{BlockLine}
use Rattle.ssa_lines.specs.declared.forms.ControlLine.{ControlLine}
use Rattle.ssa_lines.specs.declared.forms.ValueLine.TheVariants.{Known, UnknownOp as NoSuchOp}
use Rattle.ssa_lines.specs.declared.forms.ValueLine.TheVariants.{TooLarge as ValueTooLarge}
use Rattle.ssa_lines.specs.declared.forms.Form.{Form}
use Rattle.ssa_lines.specs.declared.forms.Form.TheVariants.{Blank, Case, Sig as SigForm, Func as FuncForm}
use Rattle.ssa_lines.specs.declared.forms.Form.TheVariants.{Block as BlockForm, Value as ValueForm}
use Rattle.ssa_lines.specs.declared.forms.Form.TheVariants.{Control as ControlForm, Bad}
use Rattle.ssa_text.specs.declared.partial.OpenBlock.{OpenBlock}
use Rattle.ssa_text.specs.declared.partial.OpenFunc.{OpenFunc}
use Rattle.ssa_text.specs.declared.partial.Named.{Named}
use Rattle.ssa_text.specs.declared.partial.Named.TheVariants.{OfValue, OfBlock}
use Rattle.ssa_text.specs.declared.partial.Mention.{Mention}
use Rattle.ssa_lines.specs.declared.refusal.LimitKind.{LimitKind}
use Rattle.ssa_lines.specs.declared.refusal.LimitKind.TheVariants.{LineBytes, Functions, Sigs, Values, Blocks, Params}
use Rattle.ssa_lines.specs.declared.refusal.LimitKind.TheVariants.{Results, Args}
use Rattle.ssa_lines.specs.declared.refusal.TextFault.{TextFault}
use Rattle.ssa_lines.specs.declared.refusal.TextFault.TheVariants.{BadByte, BadLine, UnknownOp, NumberTooLarge}
use Rattle.ssa_lines.specs.declared.refusal.TextFault.TheVariants.{Duplicate, UnknownRef, Limit}

-- what was read: signatures, whole functions, one that goes on, what its lines name, and the first line of a whole
-- function that names what its function doesn't have
pub record Read : Type 0 where
  pub sigs : List Sig
  pub funcs : List Func
  pub func : Option OpenFunc
  pub mentions : List Mention
  pub unknown : Option ℕ

abbrev pub read_of : List Sig → List Func → Option OpenFunc → List Mention → Option ℕ → Read
read_of sigs funcs func mentions unknown =
    record { sigs = sigs; funcs = funcs; func = func; mentions = mentions; unknown = unknown }

abbrev pub nothing : Read
nothing = read_of [] [] None [] None

abbrev pub has_open_block : Option OpenFunc → Bool
has_open_block None = false
has_open_block (Some f) = is_some f.block

-- a line of this form may stand here: signatures, then functions, then cases; a function's blocks, each with its values
-- and its end
abbrev pub in_place : Read → Form → Bool
in_place r Blank = true
in_place r (SigForm sig) = is_none r.func
in_place r (FuncForm sig) = not (has_open_block r.func)
in_place r (BlockForm b) = is_some r.func && not (has_open_block r.func)
in_place r (ValueForm v) = has_open_block r.func
in_place r (ControlForm c) = has_open_block r.func
in_place r Case = not (has_open_block r.func)
in_place r Bad = false

-- a block goes on behind a line of this form
abbrev pub leaves_open : Read → Form → Bool
leaves_open r (BlockForm b) = true
leaves_open r (ControlForm c) = false
leaves_open r _ = has_open_block r.func

abbrev pub is_unknown : Form → Bool
is_unknown (ValueForm NoSuchOp) = true
is_unknown _ = false

-- a number of the line is too large
abbrev pub is_too_large : Form → Bool
is_too_large (BlockForm NotSpelled) = true
is_too_large (ControlForm NotSpelled) = true
is_too_large (ValueForm ValueTooLarge) = true
is_too_large _ = false

-- the names of signatures and functions so far
abbrev pub open_name : Option OpenFunc → List (List ℕ)
open_name None = []
open_name (Some f) = f.sig.name ∷ []

abbrev pub names_given : Read → List (List ℕ)
names_given r = map (λ s. s.name) r.sigs ++ (map (λ f. f.sig.name) r.funcs ++ open_name r.func)

-- the blocks and the values of the function that goes on, so far
abbrev pub open_block_id : Option OpenBlock → List BlockId
open_block_id None = []
open_block_id (Some b) = b.id ∷ []

abbrev pub block_ids : Option OpenFunc → List BlockId
block_ids None = []
block_ids (Some f) = map (λ b. b.id) f.blocks ++ open_block_id f.block

abbrev pub open_values : Option OpenBlock → List Value
open_values None = []
open_values (Some b) = b.values

abbrev pub values_so_far : Option OpenFunc → List Value
values_so_far None = []
values_so_far (Some f) = flat_map (λ b. b.values) f.blocks ++ open_values f.block

-- the line gives a name or a number that is given already
abbrev pub is_twice : Read → Form → Bool
is_twice r (SigForm sig) = list_any (λ n. pointwise nat_eq n sig.name) (names_given r)
is_twice r (FuncForm sig) = list_any (λ n. pointwise nat_eq n sig.name) (names_given r)
is_twice r (BlockForm (Fits b)) = list_any (λ id. id.n == b.n) (block_ids r.func)
is_twice r (ValueForm (Known v)) = list_any (λ u. u.id.0 == v.id.0) (values_so_far r.func)
is_twice r _ = false

-- how many functions there are, with the one that goes on
abbrev pub func_count : Read → ℕ
func_count r = length r.funcs + (if is_some r.func then 1 else 0)

-- the first limit that a signature passes by itself
abbrev pub sig_limit : Sig → Option LimitKind
sig_limit s = option_or (over MAX_PARAMS (length s.params) Params) (over MAX_RESULTS (length s.results) Results)

abbrev pub tuple_length : Ty → ℕ
tuple_length ty = length (tuple_words ty)

-- the first limit that a value passes by itself
abbrev pub value_limit : Value → Option LimitKind
value_limit v = option_or (over MAX_RESULTS (tuple_length v.ty) Results) (over MAX_ARGS (length v.args) Args)

-- the first limit that a line of this form passes, in the order of the table
abbrev pub limit_passed : Read → Form → Option LimitKind
limit_passed r (SigForm s) = option_or (full MAX_SIGS (length r.sigs) Sigs) (sig_limit s)
limit_passed r (FuncForm s) = option_or (full MAX_FUNCTIONS (func_count r) Functions) (sig_limit s)
limit_passed r (BlockForm (Fits b)) =
    option_or (full MAX_BLOCKS (length (block_ids r.func)) Blocks) (over MAX_ARGS (length b.preds) Args)
limit_passed r (ValueForm (Known v)) =
    option_or (full MAX_VALUES (length (values_so_far r.func)) Values) (value_limit v)
limit_passed r _ = None

-- what is wrong with a line of this form, the first of all that is
abbrev pub fault_of_form : Read → (line : ℕ) → (last : Bool) → Form → Option TextFault
fault_of_form r line last form =
    if not (in_place r form) || (last && leaves_open r form) then Some (BadLine line)
    else if is_unknown form then Some (UnknownOp line)
    else if is_too_large form then Some (NumberTooLarge line)
    else if is_twice r form then Some (Duplicate line)
    else limit_of line (limit_passed r form)

-- what is wrong with a line
abbrev pub fault_of : Read → (line : ℕ) → (last : Bool) → List ℕ → Option TextFault
fault_of r line last bytes =
    if nat_lt MAX_LINE_BYTES (length bytes) then Some (Limit LineBytes line)
    else if not (is_allowed bytes) then Some (BadByte line)
    else fault_of_form r line last (form_of (words_of bytes))

-- a function that ends where another begins, or the text does
abbrev pub whole : OpenFunc → Func
whole f = record { sig = f.sig; blocks = f.blocks }

abbrev pub with_whole : List Func → Option OpenFunc → List Func
with_whole funcs None = funcs
with_whole funcs (Some f) = funcs ++ whole f ∷ []

abbrev pub mention : (line : ℕ) → Named → Mention
mention line named = record { line = line; named = named }

abbrev pub mentioned : Read → (line : ℕ) → List Named → List Mention
mentioned r line named = r.mentions ++ map (mention line) named

-- whether the function that goes on has what a line of it names
abbrev pub has_named : Option OpenFunc → Named → Bool
has_named None named = false
has_named (Some f) (OfValue id) = list_any (is_numbered id) (flat_map (λ b. b.values) f.blocks)
has_named (Some f) (OfBlock id) = list_any (λ b. b.id.n == id.n) f.blocks

-- the first line of the function that goes on, which ends here, that names what it doesn't have
abbrev pub unknown_in : Option OpenFunc → List Mention → Option ℕ
unknown_in func mentions = option_map (λ m. m.line) (find (λ m. not (has_named func m.named)) mentions)

abbrev pub unknown_line : Read → Option ℕ
unknown_line r = option_or r.unknown (unknown_in r.func r.mentions)

abbrev pub begin_block : BlockLine → OpenFunc → OpenFunc
begin_block b f =
    record f { block = Some (record { id = record { split = false; n = b.n }; preds = b.preds; values = [] }) }

abbrev pub add_value : Value → Option OpenBlock → Option OpenBlock
add_value v None = None
add_value v (Some b) = Some (record b { values = b.values ++ v ∷ [] })

abbrev pub value_behind : Value → OpenFunc → OpenFunc
value_behind v f = record f { block = add_value v f.block }

abbrev pub whole_block : ControlLine → OpenBlock → Block
whole_block c b =
    record { id = b.id; preds = b.preds; values = b.values; kind = c.kind; control = c.control; succs = c.succs }

abbrev pub end_open : ControlLine → OpenFunc → Option OpenBlock → OpenFunc
end_open c f None = record f { block = None }
end_open c f (Some b) = record f { blocks = f.blocks ++ whole_block c b ∷ []; block = None }

abbrev pub end_block : ControlLine → OpenFunc → OpenFunc
end_block c f = end_open c f f.block

abbrev pub change : (OpenFunc → OpenFunc) → Option OpenFunc → Option OpenFunc
change by None = None
change by (Some f) = Some (by f)

abbrev pub control_mention : Option ValueId → List Named
control_mention None = []
control_mention (Some id) = OfValue id ∷ []

-- what is read behind a line of this form that has no fault
abbrev pub behind : Read → (line : ℕ) → Form → Read
behind r line (SigForm s) = record r { sigs = r.sigs ++ s ∷ [] }
behind r line (FuncForm s) =
    read_of r.sigs (with_whole r.funcs r.func) (Some (record { sig = s; blocks = []; block = None })) []
    (unknown_line r)
behind r line (BlockForm (Fits b)) =
    record r { func = change (begin_block b) r.func; mentions = mentioned r line (map OfBlock b.preds) }
behind r line (ValueForm (Known v)) =
    record r {
      func = change (value_behind v) r.func;
      mentions = mentioned r line (map OfValue v.args);
    }
behind r line (ControlForm (Fits c)) =
    record r {
      func = change (end_block c) r.func;
      mentions = mentioned r line (control_mention c.control ++ map OfBlock c.succs);
    }
behind r line _ = r

abbrev pub then_read : Option TextFault → Read → (Read → Result Read TextFault) → Result Read TextFault
then_read (Some fault) r go = Err fault
then_read None r go = go r

-- the form of a line without a fault, or its fault
abbrev pub form_or_fault : Option TextFault → Form → Result Form TextFault
form_or_fault (Some fault) form = Err fault
form_or_fault None form = Ok form

abbrev pub checked_form : Read → (line : ℕ) → (last : Bool) → List ℕ → Result Form TextFault
checked_form r line last bytes = form_or_fault (fault_of r line last bytes) (form_of (words_of bytes))

-- one line behind what was read: what is read with it, or its fault
abbrev pub read_line : Read → (line : ℕ) → (last : Bool) → List ℕ → Result Read TextFault
read_line r line last bytes = then_read (fault_of r line last bytes) (behind r line (form_of (words_of bytes))) Ok

abbrev pub is_last : List (List ℕ) → Bool
is_last [] = true
is_last (line ∷ lines) = false

-- the lines from this number on, behind what was read: all of them, or the first fault
abbrev pub read_from : Read → (line : ℕ) → List (List ℕ) → Result Read TextFault
read_from r line [] = Ok r
read_from r line (bytes ∷ lines) =
    then_read (fault_of r line (is_last lines) bytes) (behind r line (form_of (words_of bytes)))
    (λ next. read_from next (line + 1) lines)

-- the unit that was read, where all that is named is there
abbrev pub unit_or_unknown : SsaUnit → Option ℕ → Result SsaUnit TextFault
unit_or_unknown u None = Ok u
unit_or_unknown u (Some line) = Err (UnknownRef line)
