-- What is known of a line that passes no limit: of its own parts, and of what was read before it.
use Rattle.std.proofs.Common.{◌≡◌, ◌<◌, ◌≤◌, length, None}
use Rattle.ssa_ir.specs.declared.limits.TheConstants.{MAX_ARGS, MAX_BLOCKS, MAX_FUNCTIONS, MAX_PARAMS, MAX_RESULTS}
use Rattle.ssa_ir.specs.declared.limits.TheConstants.{MAX_SIGS, MAX_VALUES}
use Rattle.ssa_ir.specs.declared.types.Sig.{Sig}
use Rattle.ssa_ir.specs.declared.func.Value.{Value}
use Rattle.ssa_ir.specs.Limits.{SigWithinLimits, ValueWithinLimits}
use Rattle.ssa_lines.specs.declared.forms.Spelled.TheVariants.{Fits, TooLarge as NotSpelled}
use Rattle.ssa_lines.specs.declared.forms.ValueLine.TheVariants.{Known, UnknownOp as NoSuchOp}
use Rattle.ssa_lines.specs.declared.forms.ValueLine.TheVariants.{TooLarge as ValueTooLarge}
use Rattle.ssa_lines.specs.declared.forms.Form.{Form}
use Rattle.ssa_lines.specs.declared.forms.Form.TheVariants.{Blank, Case, Sig as SigForm, Func as FuncForm}
use Rattle.ssa_lines.specs.declared.forms.Form.TheVariants.{Block as BlockForm, Value as ValueForm}
use Rattle.ssa_lines.specs.declared.forms.Form.TheVariants.{Control as ControlForm, Bad}
use Rattle.ssa_lines.specs.declared.refusal.LimitKind.TheVariants.{Functions, Sigs, Values, Blocks, Params, Results}
use Rattle.ssa_lines.specs.declared.refusal.LimitKind.TheVariants.{Args}
use Rattle.ssa_lines.proofs.LimitLemmas.{not_over, not_full, neither}
use Rattle.ssa_text.specs.Reading.{Read, block_ids, values_so_far, over, full, func_count, sig_limit, tuple_length}
use Rattle.ssa_text.specs.Reading.{value_limit, limit_passed}

-- the limits of a form's own parts
abbrev pub FormLimits : Form → Type 0
FormLimits Blank = Unit {0}
FormLimits Case = Unit {0}
FormLimits (SigForm s) = SigWithinLimits s
FormLimits (FuncForm s) = SigWithinLimits s
FormLimits (BlockForm (Fits b)) = length b.preds ≤ MAX_ARGS
FormLimits (BlockForm NotSpelled) = Unit {0}
FormLimits (ValueForm (Known v)) = ValueWithinLimits v
FormLimits (ValueForm NoSuchOp) = Unit {0}
FormLimits (ValueForm ValueTooLarge) = Unit {0}
FormLimits (ControlForm (Fits c)) = Unit {0}
FormLimits (ControlForm NotSpelled) = Unit {0}
FormLimits Bad = Unit {0}

-- what was read may have one more of what a line of this form gives
abbrev pub HasRoom : Read → Form → Type 0
HasRoom r Blank = Unit {0}
HasRoom r Case = Unit {0}
HasRoom r (SigForm s) = length r.sigs < MAX_SIGS
HasRoom r (FuncForm s) = func_count r < MAX_FUNCTIONS
HasRoom r (BlockForm (Fits b)) = length (block_ids r.func) < MAX_BLOCKS
HasRoom r (BlockForm NotSpelled) = Unit {0}
HasRoom r (ValueForm (Known v)) = length (values_so_far r.func) < MAX_VALUES
HasRoom r (ValueForm NoSuchOp) = Unit {0}
HasRoom r (ValueForm ValueTooLarge) = Unit {0}
HasRoom r (ControlForm (Fits c)) = Unit {0}
HasRoom r (ControlForm NotSpelled) = Unit {0}
HasRoom r Bad = Unit {0}

sig_limits : (s : Sig) → sig_limit s ≡ None → SigWithinLimits s
sig_limits s h =
    let both =
    neither (over MAX_PARAMS (length s.params) Params) (over MAX_RESULTS (length s.results) Results) h in record {
      params = not_over MAX_PARAMS (length s.params) Params both.0;
      results = not_over MAX_RESULTS (length s.results) Results both.1;
    }

value_limits : (v : Value) → value_limit v ≡ None → ValueWithinLimits v
value_limits v h =
    let both = neither (over MAX_RESULTS (tuple_length v.ty) Results) (over MAX_ARGS (length v.args) Args) h in record {
      args = not_over MAX_ARGS (length v.args) Args both.1;
      results = not_over MAX_RESULTS (tuple_length v.ty) Results both.0;
    }

-- a line that passes no limit keeps those of its own parts
pub form_limits : (r : Read) (form : Form) → limit_passed r form ≡ None → FormLimits form
form_limits r Blank h = tt
form_limits r Case h = tt
form_limits r (SigForm s) h = sig_limits s (neither (full MAX_SIGS (length r.sigs) Sigs) (sig_limit s) h).1
form_limits r (FuncForm s) h = sig_limits s (neither (full MAX_FUNCTIONS (func_count r) Functions) (sig_limit s) h).1
form_limits r (BlockForm (Fits b)) h =
    let preds = length b.preds in
    not_over MAX_ARGS preds Args
    (neither (full MAX_BLOCKS (length (block_ids r.func)) Blocks) (over MAX_ARGS preds Args) h).1
form_limits r (BlockForm NotSpelled) h = tt
form_limits r (ValueForm (Known v)) h =
    value_limits v (neither (full MAX_VALUES (length (values_so_far r.func)) Values) (value_limit v) h).1
form_limits r (ValueForm NoSuchOp) h = tt
form_limits r (ValueForm ValueTooLarge) h = tt
form_limits r (ControlForm (Fits c)) h = tt
form_limits r (ControlForm NotSpelled) h = tt
form_limits r Bad h = tt

-- and those of all that was read
pub room_for_form : (r : Read) (form : Form) → limit_passed r form ≡ None → HasRoom r form
room_for_form r Blank h = tt
room_for_form r Case h = tt
room_for_form r (SigForm s) h =
    let sigs = length r.sigs in not_full MAX_SIGS sigs Sigs (neither (full MAX_SIGS sigs Sigs) (sig_limit s) h).0
room_for_form r (FuncForm s) h =
    let funcs =
    func_count r in not_full MAX_FUNCTIONS funcs Functions
    (neither (full MAX_FUNCTIONS funcs Functions) (sig_limit s) h).0
room_for_form r (BlockForm (Fits b)) h =
    let blocks = length (block_ids r.func) in
    not_full MAX_BLOCKS blocks Blocks
    (neither (full MAX_BLOCKS blocks Blocks) (over MAX_ARGS (length b.preds) Args) h).0
room_for_form r (BlockForm NotSpelled) h = tt
room_for_form r (ValueForm (Known v)) h =
    let values = length (values_so_far r.func) in
    not_full MAX_VALUES values Values (neither (full MAX_VALUES values Values) (value_limit v) h).0
room_for_form r (ValueForm NoSuchOp) h = tt
room_for_form r (ValueForm ValueTooLarge) h = tt
room_for_form r (ControlForm (Fits c)) h = tt
room_for_form r (ControlForm NotSpelled) h = tt
room_for_form r Bad h = tt
