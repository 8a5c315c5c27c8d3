-- The canonical line of a form, and that it spells that form.
use Rattle.std.proofs.Common.{◌≡◌, ℕ, Bool, true, false, List, [], ◌++◌, codes, sym, true≢false}
use Rattle.gossa_base.specs.Texts.{led, value_text, block_text}
use Rattle.ssa_ir.specs.OpNames.{op_name}
use Rattle.ssa_ir.specs.Texts.{sig_text}
use Rattle.ssa_lines.specs.NumberWords.{bid}
use Rattle.ssa_lines.specs.declared.forms.Spelled.TheVariants.{Fits, TooLarge as NotSpelled}
use Rattle.ssa_lines.specs.declared.forms.ValueLine.TheVariants.{Known, UnknownOp as NoSuchOp}
use Rattle.ssa_lines.specs.declared.forms.ValueLine.TheVariants.{TooLarge as ValueTooLarge}
use Rattle.ssa_lines.specs.declared.forms.Form.{Form}
use Rattle.ssa_lines.specs.declared.forms.Form.TheVariants.{Blank, Case, Sig as SigForm, Func as FuncForm}
use Rattle.ssa_lines.specs.declared.forms.Form.TheVariants.{Block as BlockForm, Value as ValueForm}
use Rattle.ssa_lines.specs.declared.forms.Form.TheVariants.{Control as ControlForm, Bad}
use Rattle.ssa_text.specs.Text.{preds_text, end_text, type_text, aux_text}
use Rattle.ssa_text.specs.Reading.{Read}
use Rattle.ssa_text.proofs.BlockTexts.{spells_block, spells_control}
use Rattle.ssa_lines.proofs.FormFacts.{FormFacts, Spells}
use Rattle.ssa_text.proofs.FormTests.{Passes}
use Rattle.ssa_text.proofs.HeaderTexts.{spells_sig, spells_func}
use Rattle.ssa_text.proofs.LimitFacts.{form_limits}
use Rattle.ssa_text.proofs.ValueTexts.{spells_value}

-- the lines of a unit's signatures and functions leave out such a line: a blank one, and the first one of a case
abbrev pub is_left_out : Form → Bool
is_left_out Blank = true
is_left_out Case = true
is_left_out _ = false

-- the line of a form, without its LF; one that no text is read from has none
abbrev pub line_of : Form → List ℕ
line_of (SigForm s) = codes "sig " ++ sig_text s
line_of (FuncForm s) = codes "func " ++ sig_text s
line_of (BlockForm (Fits b)) = block_text (bid b.n) ++ (codes ":" ++ preds_text b.preds)
line_of (ValueForm (Known v)) =
    value_text v.id
    ++ (codes " = " ++ (op_name v.op ++ (type_text v.ty ++ (aux_text v ++ led (codes " ") value_text v.args))))
line_of (ControlForm (Fits c)) = end_text c.kind c.control c.succs
line_of _ = []

-- the line of a form that may stand behind what was read spells that form
pub spells_form : (r : Read) (form : Form) → Passes r form → FormFacts form → is_left_out form ≡ false →
    Spells (line_of form) form
spells_form r Blank h facts full = absurd (true≢false full)
spells_form r Case h facts full = absurd (true≢false full)
spells_form r Bad h facts full = absurd (true≢false (sym h.in_its_place))
spells_form r (SigForm s) h facts full = spells_sig s facts (form_limits r (SigForm s) h.is_within)
spells_form r (FuncForm s) h facts full = spells_func s facts (form_limits r (FuncForm s) h.is_within)
spells_form r (BlockForm NotSpelled) h facts full = absurd (true≢false h.is_small)
spells_form r (BlockForm (Fits b)) h facts full =
    spells_block b facts (form_limits r (BlockForm (Fits b)) h.is_within)
spells_form r (ValueForm NoSuchOp) h facts full = absurd (true≢false h.is_known)
spells_form r (ValueForm ValueTooLarge) h facts full = absurd (true≢false h.is_small)
spells_form r (ValueForm (Known v)) h facts full =
    spells_value v facts (form_limits r (ValueForm (Known v)) h.is_within)
spells_form r (ControlForm NotSpelled) h facts full = absurd (true≢false h.is_small)
spells_form r (ControlForm (Fits c)) h facts full = spells_control c facts
