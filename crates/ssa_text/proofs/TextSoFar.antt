-- The text of what was read so far, and that each line adds the one of its form.
use Rattle.std.proofs.Common.{◌≡◌, ℕ, true, false, not, ◌&&◌, List, [], ◌∷◌, ◌++◌, codes, is_none, is_some, Option}
use Rattle.std.proofs.Common.{None, Some, refl, sym, ap, ◌∙◌, true≢false}
use Rattle.std.specs.List.{flat_map}
use Rattle.std.proofs.lemmas.Bool.{not-true}
use Rattle.std.proofs.lemmas.Grind.{flat_map-append}
use Rattle.std.proofs.lemmas.List.{append_assoc, append-nil}
use Rattle.gossa_base.specs.declared.ids.BlockId.{BlockId}
use Rattle.gossa_base.specs.Texts.{led, value_text, block_text}
use Rattle.ssa_ir.specs.declared.types.Sig.{Sig}
use Rattle.ssa_ir.specs.declared.func.Value.{Value}
use Rattle.ssa_ir.specs.declared.func.Func.{Func}
use Rattle.ssa_ir.specs.OpNames.{op_name}
use Rattle.ssa_ir.specs.Texts.{newline, sig_text, sig_line}
use Rattle.ssa_lines.specs.NumberWords.{bid}
use Rattle.ssa_lines.specs.declared.forms.Spelled.TheVariants.{Fits, TooLarge as NotSpelled}
use Rattle.ssa_lines.specs.declared.forms.BlockLine.{BlockLine}
use Rattle.ssa_lines.specs.declared.forms.ControlLine.{ControlLine}
use Rattle.ssa_lines.specs.declared.forms.ValueLine.TheVariants.{Known, UnknownOp as NoSuchOp}
use Rattle.ssa_lines.specs.declared.forms.ValueLine.TheVariants.{TooLarge as ValueTooLarge}
use Rattle.ssa_lines.specs.declared.forms.Form.{Form}
use Rattle.ssa_lines.specs.declared.forms.Form.TheVariants.{Blank, Case, Sig as SigForm, Func as FuncForm}
use Rattle.ssa_lines.specs.declared.forms.Form.TheVariants.{Block as BlockForm, Value as ValueForm}
use Rattle.ssa_lines.specs.declared.forms.Form.TheVariants.{Control as ControlForm, Bad}
use Rattle.ssa_text.specs.declared.partial.OpenBlock.{OpenBlock}
use Rattle.ssa_text.specs.declared.partial.OpenFunc.{OpenFunc}
use Rattle.ssa_text.specs.Reading.{Read, has_open_block, whole, with_whole, change, begin_block, add_value}
use Rattle.ssa_text.specs.Reading.{value_behind, whole_block, end_open, end_block, behind}
use Rattle.ssa_text.specs.Text.{type_text, aux_text, value_line, preds_text, end_text, block_lines, func_text}
use Rattle.ssa_text.proofs.FormTests.{Passes}
use Rattle.ssa_text.proofs.FormTexts.{is_left_out, line_of}
use Rattle.ssa_text.proofs.TakeLemmas.{still_none}

-- a line with its LF
abbrev pub ended : List ℕ → List ℕ
ended line = line ++ newline

-- the first line of a function, and that of a block
abbrev func_head : Sig → List ℕ
func_head s = codes "func " ++ (sig_text s ++ newline)

abbrev head_text : BlockId → List BlockId → List ℕ
head_text id preds = block_text id ++ (codes ":" ++ (preds_text preds ++ newline))

-- a block that goes on: its first line, and those of its values
abbrev pub open_block_text : Option OpenBlock → List ℕ
open_block_text None = []
open_block_text (Some b) = head_text b.id b.preds ++ flat_map value_line b.values

-- a function that goes on, with this block behind its whole ones
abbrev text_with : OpenFunc → Option OpenBlock → List ℕ
text_with f b = func_head f.sig ++ (flat_map block_lines f.blocks ++ open_block_text b)

abbrev pub open_text : Option OpenFunc → List ℕ
open_text None = []
open_text (Some f) = text_with f f.block

abbrev text_of_parts : List Sig → List Func → Option OpenFunc → List ℕ
text_of_parts sigs funcs func = flat_map sig_line sigs ++ (flat_map func_text funcs ++ open_text func)

-- all that was read
abbrev pub text_so_far : Read → List ℕ
text_so_far r = text_of_parts r.sigs r.funcs r.func

-- the last of three parts grows
third_grows : (a b c more : List ℕ) → a ++ (b ++ (c ++ more)) ≡ (a ++ (b ++ c)) ++ more
third_grows a b c more = ap (λ l. a ++ l) (sym (append_assoc b c more)) ∙ sym (append_assoc a (b ++ c) more)

-- a signature, before all functions
signed : (sigs : List Sig) (s : Sig) →
    text_of_parts (sigs ++ s ∷ []) [] None ≡ text_of_parts sigs [] None ++ ended (codes "sig " ++ sig_text s)
signed sigs s =
    let before : List ℕ = flat_map sig_line sigs in
    append-nil (flat_map sig_line (sigs ++ s ∷ []))
    ∙ flat_map-append sig_line sigs (s ∷ [])
    ∙ ap (λ l. before ++ l) (append-nil (sig_line s))
    ∙ ap (λ l. l ++ sig_line s) (sym (append-nil before))

sig_adds : (sigs : List Sig) (funcs : List Func) (func : Option OpenFunc) (s : Sig) → is_none func ≡ true →
    (is_none func ≡ true → funcs ≡ []) →
    text_of_parts (sigs ++ s ∷ []) funcs func ≡ text_of_parts sigs funcs func ++ ended (codes "sig " ++ sig_text s)
sig_adds sigs funcs (Some f) s none first = absurd (true≢false (sym none))
sig_adds sigs funcs None s none first =
    let empty : funcs ≡ [] = first refl in
    ap (λ fs. text_of_parts (sigs ++ s ∷ []) fs None) empty
    ∙ signed sigs s
    ∙ ap (λ fs. text_of_parts sigs fs None ++ ended (codes "sig " ++ sig_text s)) (sym empty)

-- the text of a whole function is what it was while it went on
whole_text : (f : OpenFunc) (b : Option OpenBlock) → is_some b ≡ false →
    func_text (whole f) ≡ text_with f b
whole_text f (Some b) closed = absurd (true≢false closed)
whole_text f None closed =
    ap (λ l. codes "func " ++ l) (sym (append_assoc (sig_text f.sig) newline (flat_map block_lines f.blocks)))
    ∙ ap (λ l. func_head f.sig ++ l) (sym (append-nil (flat_map block_lines f.blocks)))

whole_texts : (funcs : List Func) (func : Option OpenFunc) → has_open_block func ≡ false →
    flat_map func_text (with_whole funcs func) ≡ flat_map func_text funcs ++ open_text func
whole_texts funcs None closed = sym (append-nil (flat_map func_text funcs))
whole_texts funcs (Some f) closed =
    flat_map-append func_text funcs (whole f ∷ [])
    ∙ ap (λ l. flat_map func_text funcs ++ l) (append-nil (func_text (whole f)) ∙ whole_text f f.block closed)

-- what was read is the text of its signatures and its functions where no block goes on
pub text_of_whole : (sigs : List Sig) (funcs : List Func) (func : Option OpenFunc) → has_open_block func ≡ false →
    text_of_parts sigs funcs func ≡ flat_map sig_line sigs ++ flat_map func_text (with_whole funcs func)
text_of_whole sigs funcs func closed = ap (λ l. flat_map sig_line sigs ++ l) (sym (whole_texts funcs func closed))

-- the beginning of a function
func_adds : (sigs : List Sig) (funcs : List Func) (func : Option OpenFunc) (s : Sig) → has_open_block func ≡ false →
    text_of_parts sigs (with_whole funcs func) (Some (record { sig = s; blocks = []; block = None }))
    ≡ text_of_parts sigs funcs func ++ ended (codes "func " ++ sig_text s)
func_adds sigs funcs func s closed =
    ap (λ l. flat_map sig_line sigs ++ (flat_map func_text (with_whole funcs func) ++ l)) (append-nil (func_head s))
    ∙ ap (λ l. flat_map sig_line sigs ++ (l ++ func_head s)) (whole_texts funcs func closed)
    ∙ sym (append_assoc (flat_map sig_line sigs) (flat_map func_text funcs ++ open_text func) (func_head s))

-- a line of the function that goes on
open_adds : (sigs : List Sig) (funcs : List Func) (func more : Option OpenFunc) (line : List ℕ) →
    open_text more ≡ open_text func ++ line → text_of_parts sigs funcs more ≡ text_of_parts sigs funcs func ++ line
open_adds sigs funcs func more line e =
    ap (λ l. flat_map sig_line sigs ++ (flat_map func_text funcs ++ l)) e
    ∙ third_grows (flat_map sig_line sigs) (flat_map func_text funcs) (open_text func) line

-- the beginning of a block
begun_text : (line : BlockLine) (f : OpenFunc) (b : Option OpenBlock) → is_some b ≡ false →
    open_text (Some (begin_block line f)) ≡ text_with f b ++ ended (line_of (BlockForm (Fits line)))
begun_text line f (Some b) closed = absurd (true≢false closed)
begun_text line f None closed =
    let blocks : List ℕ = flat_map block_lines f.blocks in
    let label : List ℕ = block_text (bid line.n) in
    let preds : List ℕ = codes ":" ++ preds_text line.preds in
    ap (λ l. func_head f.sig ++ (blocks ++ l))
    (append-nil (head_text (bid line.n) line.preds) ∙ sym (append_assoc label preds newline))
    ∙ third_grows (func_head f.sig) blocks [] (ended (label ++ preds))

block_adds : (line : BlockLine) (func : Option OpenFunc) → (is_some func && not (has_open_block func)) ≡ true →
    open_text (change (begin_block line) func) ≡ open_text func ++ ended (line_of (BlockForm (Fits line)))
block_adds line None placed = absurd (true≢false (sym placed))
block_adds line (Some f) placed = begun_text line f f.block (not-true (is_some f.block) placed)

-- a value
value_text_ends : (v : Value) → value_line v ≡ ended (line_of (ValueForm (Known v)))
value_text_ends v =
    let args : List ℕ = led (codes " ") value_text v.args in
    let behind_op : List ℕ = type_text v.ty ++ (aux_text v ++ args) in
    let front = λ (l : List ℕ). value_text v.id ++ (codes " = " ++ l) in
    ap (λ l. front (op_name v.op ++ l)) (third_grows (type_text v.ty) (aux_text v) args newline)
    ∙ ap front (sym (append_assoc (op_name v.op) behind_op newline))
    ∙ sym (append_assoc (value_text v.id) (codes " = " ++ (op_name v.op ++ behind_op)) newline)

added_text : (v : Value) (f : OpenFunc) (b : Option OpenBlock) → is_some b ≡ true →
    text_with f (add_value v b) ≡ text_with f b ++ ended (line_of (ValueForm (Known v)))
added_text v f None some = absurd (true≢false (sym some))
added_text v f (Some b) some =
    let head : List ℕ = head_text b.id b.preds in
    let line : List ℕ = ended (line_of (ValueForm (Known v))) in
    ap (λ l. func_head f.sig ++ (flat_map block_lines f.blocks ++ (head ++ l)))
    (flat_map-append value_line b.values (v ∷ [])
    ∙ ap (λ l. flat_map value_line b.values ++ l) (append-nil (value_line v) ∙ value_text_ends v))
    ∙ ap (λ l. func_head f.sig ++ (flat_map block_lines f.blocks ++ l))
    (sym (append_assoc head (flat_map value_line b.values) line))
    ∙ third_grows (func_head f.sig) (flat_map block_lines f.blocks) (open_block_text (Some b)) line

value_adds : (v : Value) (func : Option OpenFunc) → has_open_block func ≡ true →
    open_text (change (value_behind v) func) ≡ open_text func ++ ended (line_of (ValueForm (Known v)))
value_adds v None some = absurd (true≢false (sym some))
value_adds v (Some f) some = added_text v f f.block some

-- the end of a block
ended_text : (line : ControlLine) (f : OpenFunc) (b : Option OpenBlock) → is_some b ≡ true →
    open_text (Some (end_open line f b)) ≡ text_with f b ++ ended (line_of (ControlForm (Fits line)))
ended_text line f None some = absurd (true≢false (sym some))
ended_text line f (Some b) some =
    let blocks : List ℕ = flat_map block_lines f.blocks in
    let head : List ℕ = head_text b.id b.preds in
    let values : List ℕ = flat_map value_line b.values in
    let last : List ℕ = ended (end_text line.kind line.control line.succs) in
    ap (λ l. func_head f.sig ++ l)
    (append-nil (flat_map block_lines (f.blocks ++ whole_block line b ∷ []))
    ∙ flat_map-append block_lines f.blocks (whole_block line b ∷ [])
    ∙ ap (λ l. blocks ++ l) (append-nil (head ++ (values ++ last)) ∙ sym (append_assoc head values last)))
    ∙ third_grows (func_head f.sig) blocks (head ++ values) last

control_adds : (line : ControlLine) (func : Option OpenFunc) → has_open_block func ≡ true →
    open_text (change (end_block line) func) ≡ open_text func ++ ended (line_of (ControlForm (Fits line)))
control_adds line None some = absurd (true≢false (sym some))
control_adds line (Some f) some = ended_text line f f.block some

-- where no function goes on, none was read
abbrev pub SigsFirst : Read → Type 0
SigsFirst r = is_none r.func ≡ true → r.funcs ≡ []

pub sigs_stay_first : (r : Read) (line : ℕ) (form : Form) → SigsFirst r → SigsFirst (behind r line form)
sigs_stay_first r line Blank first = first
sigs_stay_first r line Case first = first
sigs_stay_first r line Bad first = first
sigs_stay_first r line (SigForm s) first = first
sigs_stay_first r line (FuncForm s) first = λ none. absurd (true≢false (sym none))
sigs_stay_first r line (BlockForm NotSpelled) first = first
sigs_stay_first r line (BlockForm (Fits b)) first = still_none (begin_block b) r.func r.funcs first
sigs_stay_first r line (ValueForm NoSuchOp) first = first
sigs_stay_first r line (ValueForm ValueTooLarge) first = first
sigs_stay_first r line (ValueForm (Known v)) first = still_none (value_behind v) r.func r.funcs first
sigs_stay_first r line (ControlForm NotSpelled) first = first
sigs_stay_first r line (ControlForm (Fits c)) first = still_none (end_block c) r.func r.funcs first

-- a line adds the one of its form
pub text_behind : (r : Read) (line : ℕ) (form : Form) → SigsFirst r → Passes r form → is_left_out form ≡ false →
    text_so_far (behind r line form) ≡ text_so_far r ++ ended (line_of form)
text_behind r line Blank first h full = absurd (true≢false full)
text_behind r line Case first h full = absurd (true≢false full)
text_behind r line Bad first h full = absurd (true≢false (sym h.in_its_place))
text_behind r line (SigForm s) first h full = sig_adds r.sigs r.funcs r.func s h.in_its_place first
text_behind r line (FuncForm s) first h full =
    func_adds r.sigs r.funcs r.func s (not-true (has_open_block r.func) h.in_its_place)
text_behind r line (BlockForm NotSpelled) first h full = absurd (true≢false h.is_small)
text_behind r line (BlockForm (Fits b)) first h full =
    open_adds r.sigs r.funcs r.func (change (begin_block b) r.func) (ended (line_of (BlockForm (Fits b))))
    (block_adds b r.func h.in_its_place)
text_behind r line (ValueForm NoSuchOp) first h full = absurd (true≢false h.is_known)
text_behind r line (ValueForm ValueTooLarge) first h full = absurd (true≢false h.is_small)
text_behind r line (ValueForm (Known v)) first h full =
    open_adds r.sigs r.funcs r.func (change (value_behind v) r.func) (ended (line_of (ValueForm (Known v))))
    (value_adds v r.func h.in_its_place)
text_behind r line (ControlForm NotSpelled) first h full = absurd (true≢false h.is_small)
text_behind r line (ControlForm (Fits c)) first h full =
    open_adds r.sigs r.funcs r.func (change (end_block c) r.func) (ended (line_of (ControlForm (Fits c))))
    (control_adds c r.func h.in_its_place)
