-- What is known of a line that has a form, and of a line that spells a form.
use Rattle.std.specs.Prelude.{◌≡◌, ℕ, ◌≤◌, false, true, List, length, IfSome, FitsSigned}
use Rattle.std.specs.Int.{w64}
use Rattle.std.specs.List.{All}
use Rattle.gossa_base.specs.declared.ids.ValueId.{ValueId}
use Rattle.gossa_base.specs.declared.ids.BlockId.{BlockId}
use Rattle.ssa_ir.specs.declared.limits.TheConstants.{MAX_LINE_BYTES}
use Rattle.ssa_ir.specs.declared.func.Value.{Value}
use Rattle.ssa_ir.specs.Names.{IsName}
use Rattle.ssa_ir.specs.WellFormed.{IsNumber, WellFormedValue, HasItsSuccessors, HasItsControl}
use Rattle.ssa_lines.specs.Forms.{form_of}
use Rattle.ssa_lines.specs.Lines.{is_allowed}
use Rattle.ssa_lines.specs.Words.{words_of}
use Rattle.ssa_lines.specs.declared.forms.Spelled.TheVariants.{Fits, TooLarge as NotSpelled}
use Rattle.ssa_lines.specs.declared.forms.BlockLine.{BlockLine}
use Rattle.ssa_lines.specs.declared.forms.ControlLine.{ControlLine}
use Rattle.ssa_lines.specs.declared.forms.ValueLine.TheVariants.{Known, UnknownOp as NoSuchOp}
use Rattle.ssa_lines.specs.declared.forms.ValueLine.TheVariants.{TooLarge as ValueTooLarge}
use Rattle.ssa_lines.specs.declared.forms.Form.{Form}
use Rattle.ssa_lines.specs.declared.forms.Form.TheVariants.{Blank, Case, Sig as SigForm, Func as FuncForm}
use Rattle.ssa_lines.specs.declared.forms.Form.TheVariants.{Block as BlockForm, Value as ValueForm}
use Rattle.ssa_lines.specs.declared.forms.Form.TheVariants.{Control as ControlForm, Bad}
use Rattle.ssa_lines.proofs.LineLemmas.{HasNoNewline}

-- a number that a text can give to a value
abbrev pub IsValueNumber : ValueId → Type 0
IsValueNumber id = IsNumber id.0

-- a block that a text can name
pub record IsTextBlock (id : BlockId) : Type 0 where
  pub number : IsNumber id.n
  pub unsplit : id.split ≡ false

pub record BlockFacts (b : BlockLine) : Type 0 where
  pub number : IsNumber b.n
  pub preds : All IsTextBlock b.preds

pub record ValueFacts (v : Value) : Type 0 where
  pub number : IsNumber v.id.0
  pub args : All IsValueNumber v.args
  pub well_formed : WellFormedValue v
  pub aux : FitsSigned w64 v.aux

pub record ControlFacts (c : ControlLine) : Type 0 where
  pub successors : HasItsSuccessors c.kind (length c.succs)
  pub has_control : HasItsControl c.kind c.control
  pub control : IfSome c.control IsValueNumber
  pub succs : All IsTextBlock c.succs

-- what is known of a form that a line has
abbrev pub FormFacts : Form → Type 0
FormFacts Blank = Unit {0}
FormFacts Case = Unit {0}
FormFacts (SigForm s) = IsName s.name
FormFacts (FuncForm s) = IsName s.name
FormFacts (BlockForm (Fits b)) = BlockFacts b
FormFacts (BlockForm NotSpelled) = Unit {0}
FormFacts (ValueForm (Known v)) = ValueFacts v
FormFacts (ValueForm NoSuchOp) = Unit {0}
FormFacts (ValueForm ValueTooLarge) = Unit {0}
FormFacts (ControlForm (Fits c)) = ControlFacts c
FormFacts (ControlForm NotSpelled) = Unit {0}
FormFacts Bad = Unit {0}

-- a line that spells exactly this form, and may stand in a text
pub record Spells (line : List ℕ) (form : Form) : Type 0 where
  pub form_is : form_of (words_of line) ≡ form
  pub allowed : is_allowed line ≡ true
  pub short : length line ≤ MAX_LINE_BYTES
  pub one_line : HasNoNewline line
