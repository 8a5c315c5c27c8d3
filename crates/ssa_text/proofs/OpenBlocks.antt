-- Whether a block goes on behind a line.
use Rattle.std.proofs.Common.{◌≡◌, ℕ, true, false, not, ◌&&◌, List, [], ◌∷◌, is_some, Option, None, Some, Result, Ok}
use Rattle.std.proofs.Common.{refl, sym, ap, ◌∙◌, true≢false}
use Rattle.std.proofs.lemmas.Bool.{not-true}
use Rattle.ssa_lines.specs.declared.forms.Spelled.TheVariants.{Fits, TooLarge as NotSpelled}
use Rattle.ssa_lines.specs.declared.forms.ValueLine.TheVariants.{Known, UnknownOp as NoSuchOp}
use Rattle.ssa_lines.specs.declared.forms.ValueLine.TheVariants.{TooLarge as ValueTooLarge}
use Rattle.ssa_lines.specs.declared.forms.Form.{Form}
use Rattle.ssa_lines.specs.declared.forms.Form.TheVariants.{Blank, Case, Sig as SigForm, Func as FuncForm}
use Rattle.ssa_lines.specs.declared.forms.Form.TheVariants.{Block as BlockForm, Value as ValueForm}
use Rattle.ssa_lines.specs.declared.forms.Form.TheVariants.{Control as ControlForm, Bad}
use Rattle.ssa_text.specs.declared.partial.OpenBlock.{OpenBlock}
use Rattle.ssa_text.specs.declared.partial.OpenFunc.{OpenFunc}
use Rattle.ssa_lines.specs.declared.refusal.TextFault.{TextFault}
use Rattle.ssa_text.specs.Reading.{Read, has_open_block, leaves_open, change, begin_block, add_value, value_behind}
use Rattle.ssa_text.specs.Reading.{end_open, end_block, behind, then_read, is_last, read_from}
use Rattle.ssa_text.proofs.FormTests.{Passes}

-- a line that was read has no fault, and the lines behind it were read
pub line_was_read : (fault : Option TextFault) (r end : Read) (go : Read → Result Read TextFault) →
    then_read fault r go ≡ Ok end → (fault ≡ None) × (go r ≡ Ok end)
line_was_read None r end go h = (refl, h)
line_was_read (Some fault) r end go h = cc

-- behind no lines stands what was read before them
pub same_read : (r s : Read) → (◌≡◌ {A = Result Read TextFault} (Ok r) (Ok s)) → r ≡ s
same_read r s h = cc

-- a change that begins a block
begun_is_open : (func : Option OpenFunc) (by : OpenFunc → OpenFunc) →
    ((f : OpenFunc) → is_some (by f).block ≡ true) → (is_some func && not (has_open_block func)) ≡ true →
    true ≡ has_open_block (change by func)
begun_is_open None by begins placed = absurd (true≢false (sym placed))
begun_is_open (Some f) by begins placed = sym (begins f)

-- one that keeps the block, or none
stays_open : (func : Option OpenFunc) (by : OpenFunc → OpenFunc) →
    ((f : OpenFunc) → is_some (by f).block ≡ is_some f.block) → has_open_block func ≡ has_open_block (change by func)
stays_open None by keeps = refl
stays_open (Some f) by keeps = sym (keeps f)

-- one that ends the block
ends_closed : (func : Option OpenFunc) (by : OpenFunc → OpenFunc) →
    ((f : OpenFunc) → is_some (by f).block ≡ false) → false ≡ has_open_block (change by func)
ends_closed None by ends = refl
ends_closed (Some f) by ends = sym (ends f)

-- whether a block goes on behind a form that was in its place
pub left_open : (r : Read) (line : ℕ) (form : Form) → Passes r form →
    leaves_open r form ≡ has_open_block (behind r line form).func
left_open r line Blank h = refl
left_open r line Case h = refl
left_open r line Bad h = refl
left_open r line (SigForm s) h = refl
left_open r line (FuncForm s) h = not-true (has_open_block r.func) h.in_its_place
left_open r line (BlockForm NotSpelled) h = absurd (true≢false h.is_small)
left_open r line (BlockForm (Fits b)) h = begun_is_open r.func (begin_block b) (λ f. refl) h.in_its_place
left_open r line (ValueForm NoSuchOp) h = refl
left_open r line (ValueForm ValueTooLarge) h = refl
left_open r line (ValueForm (Known v)) h = stays_open r.func (value_behind v) (λ f. go f.block)
  where
    go : (b : Option OpenBlock) → is_some (add_value v b) ≡ is_some b
    go None = refl
    go (Some b) = refl
left_open r line (ControlForm NotSpelled) h = absurd (true≢false h.is_small)
left_open r line (ControlForm (Fits c)) h = ends_closed r.func (end_block c) (λ f. go f f.block)
  where
    go : (f : OpenFunc) (b : Option OpenBlock) → is_some (end_open c f b).block ≡ false
    go f None = refl
    go f (Some b) = refl

-- the last of these lines leaves no block open
pub last_is_closed : (s last : Read) (line : ℕ) (lines : List (List ℕ)) → read_from s line lines ≡ Ok last →
    has_open_block last.func ≡ false → (is_last lines && has_open_block s.func) ≡ false
last_is_closed s last line (bytes ∷ lines) h closed = refl
last_is_closed s last line [] h closed = ap (λ (x : Read). has_open_block x.func) (same_read s last h) ∙ closed
