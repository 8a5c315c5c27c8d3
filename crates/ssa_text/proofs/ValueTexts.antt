-- The line of a value is read as that value.
use Rattle.std.proofs.Common.{◌≡◌, ℕ, ◌+◌, ◌*◌, ◌==◌, Bool, is_some, decimal, true, false, cond, List, [], ◌∷◌, ◌++◌}
use Rattle.std.proofs.Common.{map, codes, find, Option, None, Some, refl, sym, ap, ◌∙◌, arith}
use Rattle.std.specs.List.{list_all}
use Rattle.std.specs.Option.{option_map}
use Rattle.std.specs.Str.{bytes_eq}
use Rattle.std.proofs.lemmas.Bool.{and_parts}
use Rattle.gossa_base.specs.declared.ids.ValueId.{ValueId}
use Rattle.gossa_base.specs.Texts.{led, value_text}
use Rattle.ssa_ir.specs.declared.limits.TheConstants.{MAX_ARGS}
use Rattle.ssa_ir.specs.declared.op.Op.{Op}
use Rattle.ssa_ir.specs.declared.func.Value.{Value}
use Rattle.ssa_ir.specs.declared.types.Ty.{Ty}
use Rattle.ssa_ir.specs.AllOps.{all_ops}
use Rattle.ssa_ir.specs.Limits.{ValueWithinLimits}
use Rattle.ssa_ir.specs.OpNames.{op_name}
use Rattle.ssa_ir.specs.Ops.{row_of, is_machine}
use Rattle.ssa_ir.specs.WellFormed.{makes_tuple}
use Rattle.ssa_ir.proofs.OwnNames.{own_name}
use Rattle.ssa_lines.specs.declared.forms.Form.TheVariants.{Value as ValueForm}
use Rattle.ssa_lines.specs.declared.forms.Spelled.TheVariants.{Fits}
use Rattle.ssa_lines.specs.declared.forms.ValueLine.{ValueLine}
use Rattle.ssa_lines.specs.declared.forms.ValueLine.TheVariants.{Known}
use Rattle.ssa_lines.specs.declared.numbers.Number.{Number}
use Rattle.ssa_lines.specs.declared.numbers.Number.TheVariants.{Fits as NumberFits}
use Rattle.ssa_lines.specs.declared.forms.Aux.{Aux}
use Rattle.ssa_lines.specs.declared.forms.BlockLine.{BlockLine}
use Rattle.ssa_lines.specs.declared.forms.Spelled.{Spelled}
use Rattle.ssa_lines.specs.Forms.{form_of, preds_of, block_of, blocks_of, block_line, block_or_value, or_bad}
use Rattle.ssa_lines.specs.NumberWords.{number_word}
use Rattle.ssa_lines.specs.Steps.{◌>>=◌}
use Rattle.ssa_lines.specs.Types.{type_of}
use Rattle.ssa_lines.specs.ValueForms.{Extras, generic, generic_named, extras_ahead, all_args, value_of, line_by_op}
use Rattle.ssa_lines.specs.ValueForms.{value_behind, value_line}
use Rattle.ssa_lines.specs.Words.{words_of, opens, without_last}
use Rattle.ssa_lines.proofs.WordLemmas.{space_in_front}
use Rattle.ssa_text.specs.Text.{type_name, type_text, aux_text}
use Rattle.ssa_lines.proofs.FormFacts.{Spells, ValueFacts}
use Rattle.ssa_lines.proofs.LineBytes.{IsPlainWord, plain_word_in_front, EndsWord-led}
use Rattle.ssa_lines.proofs.NumberTexts.{value_is_word, number_word-value, words_of-values, AllPlain-values}
use Rattle.ssa_lines.proofs.NumberTexts.{length-values, all_args-values}
use Rattle.ssa_text.proofs.AuxTexts.{ReadsAux, HasAux, aux_of, rule_read}
use Rattle.ssa_lines.proofs.IntegerTexts.{signed_word}
use Rattle.ssa_text.proofs.TypeTexts.{type_read, bracketed_type_is_word}
use Rattle.ssa_lines.proofs.WordTexts.{is_short_word, short_word, IsPlainText, text_of_word, known_text, text_append}
use Rattle.ssa_lines.proofs.WordTexts.{between_read, spells_text}

passes_by_test : (test good : Op → Bool) (a : Op) (ops : List Op) (op : Op) → find test (a ∷ ops) ≡ Some op →
    good a ≡ true → (find test ops ≡ Some op → good op ≡ true) → (b : Bool) → test a ≡ b → good op ≡ true
passes_by_test test good a ops op e here later true t =
    let found : Some a ≡ Some op = ap (λ b. cond b (Some a) (find test ops)) (sym t) ∙ e in
    let same : a ≡ op = cc in
    ap good (sym same) ∙ here
passes_by_test test good a ops op e here later false t =
    later (ap (λ b. cond b (Some a) (find test ops)) (sym t) ∙ e)

-- what all of a list pass, one that is found in it passes
found_passes : (test good : Op → Bool) (ops : List Op) (op : Op) → find test ops ≡ Some op →
    list_all good ops ≡ true → good op ≡ true
found_passes test good [] op e all = cc
found_passes test good (a ∷ ops) op e all =
    let both = and_parts (good a) (list_all good ops) all in
    passes_by_test test good a ops op e both.0 (λ found. found_passes test good ops op found both.1) (test a) refl

-- the name of an op is a word of at most 15 bytes
pub op_is_word : (op : Op) → IsPlainWord 15 (op_name op)
op_is_word op =
    let test : Op → Bool = λ o. bytes_eq (op_name o) (op_name op) in
    let good : Op → Bool = λ o. is_short_word 15 (op_name o) in
    short_word 15 (op_name op) (found_passes test good all_ops op (own_name op) refl)

-- and is read as that op, where it isn't the machine's
pub generic_read : (op : Op) → is_machine op ≡ false → generic_named (op_name op) ≡ Some op
generic_read op h = ap generic (own_name op) ∙ ap (λ b. cond b None (Some op)) h

-- what begins with v is the beginning of no block
no_block : (digits : List ℕ) (words : List (List ℕ)) → block_line ((118 ∷ digits) ∷ words) ≡ None
no_block [] words = refl
no_block (b ∷ digits) words = go (without_last 58 (b ∷ digits))
  where
    preds : Number → Option (Spelled BlockLine)
    preds number = preds_of words >>= λ found. Some (block_of number (blocks_of found))

    go : (front : Option (List ℕ)) →
        (option_map (λ bytes. 118 ∷ bytes) front >>= λ label. number_word 98 label >>= preds) ≡ None
    go None = refl
    go (Some front) = refl

-- so a line that begins with v has the form of a value
value_form : (digits : List ℕ) (words : List (List ℕ)) →
    form_of ((118 ∷ digits) ∷ words) ≡ or_bad ValueForm (value_line ((118 ∷ digits) ∷ words))
value_form digits words = ap (λ block. block_or_value block ((118 ∷ digits) ∷ words)) (no_block digits words)

-- the words of arguments have neither brackets nor braces
no_opens : (byte : ℕ) (args : List ValueId) → (118 == byte) ≡ false → opens byte (map value_text args) ≡ false
no_opens byte [] e = refl
no_opens byte (v ∷ args) e = ap (λ t. is_some (cond t (Some (decimal v.0)) None)) e

-- a value, its facts, and how what stands between its type and its arguments is read
module _ (v : Value) (h : ValueFacts v) where
  has_aux : HasAux (row_of v.op).aux v.aux v.sym v.elem
  has_aux = record {
    number = h.well_formed.number;
    symbol = h.well_formed.symbol;
    elem = h.well_formed.elem;
    is_name = h.well_formed.name;
    fits = h.aux;
  }

  abbrev its_aux : Aux
  its_aux = aux_of v.aux v.sym v.elem

  reads : ReadsAux v.op (row_of v.op).aux (aux_text v) its_aux
  reads = rule_read v.op (row_of v.op).aux v.aux v.sym v.elem has_aux

  abbrev its_type : List ℕ
  its_type = codes "<" ++ (type_name v.ty ++ codes ">")

  abbrev its_args : List ℕ
  its_args = led (codes " ") value_text v.args

  -- the words behind the op's name
  abbrev words_behind : List (List ℕ)
  words_behind = its_type ∷ (reads.words ++ map value_text v.args)

  same_value : line_by_op (Some v.op) (NumberFits v.id.0) v.ty reads.extras (Fits v.args) ≡ Some (Known v)
  same_value =
      ap (λ read. read >>= λ aux. Some (value_of (NumberFits v.id.0) v.op v.ty aux (Fits v.args))) reads.is_aux
      ∙ (λ i. Some (Known (record {
        id = v.id;
        op = v.op;
        ty = v.ty;
        aux = signed_word v.aux h.aux i;
        sym = v.sym;
        elem = v.elem;
        args = v.args;
      })))

  extras_read : extras_ahead (reads.words ++ map value_text v.args) ≡ Some (reads.extras, map value_text v.args)
  extras_read = reads.read (map value_text v.args) (no_opens 91 v.args refl) (no_opens 123 v.args refl)

  -- a value with this type, and these brackets and braces
  abbrev of_type : Option Ty → Option ValueLine
  of_type ty =
      ty >>= λ t. extras_ahead (reads.words ++ map value_text v.args) >>= λ extras. all_args extras.1
      >>= λ args. line_by_op (Some v.op) (NumberFits v.id.0) t extras.0 args

  abbrev of_extras : Option (Extras × List (List ℕ)) → Option ValueLine
  of_extras found =
      found >>= λ extras. all_args extras.1 >>= λ args. line_by_op (Some v.op) (NumberFits v.id.0) v.ty extras.0 args

  behind_read : value_behind (NumberFits v.id.0) (Some v.op) words_behind ≡ Some (Known v)
  behind_read =
      ap (λ o. o >>= λ inside. of_type (type_of (makes_tuple v.op) inside)) (between_read 60 62 (type_name v.ty))
      ∙ ap of_type (type_read v.op v.ty h.well_formed.type)
      ∙ ap of_extras extras_read
      ∙ ap (λ o. o >>= λ args. line_by_op (Some v.op) (NumberFits v.id.0) v.ty reads.extras args)
      (all_args-values v.args h.args)
      ∙ same_value

  value_read : value_line (value_text v.id ∷ codes "=" ∷ op_name v.op ∷ words_behind) ≡ Some (Known v)
  value_read =
      ap (λ o. o >>= λ id. value_behind id (generic_named (op_name v.op)) words_behind)
      (number_word-value v.id h.number)
      ∙ ap (λ op. value_behind (NumberFits v.id.0) op words_behind) (generic_read v.op h.well_formed.generic)
      ∙ behind_read

  value_form_is : form_of (value_text v.id ∷ codes "=" ∷ op_name v.op ∷ words_behind) ≡ ValueForm (Known v)
  value_form_is =
      value_form (decimal v.id.0) (codes "=" ∷ op_name v.op ∷ words_behind) ∙ ap (or_bad ValueForm) value_read

  module _ (limits : ValueWithinLimits v) where
    type_word : IsPlainWord 517 its_type
    type_word = bracketed_type_is_word v.op v.ty h.well_formed.type limits.results

    words_of_aux : words_of (aux_text v ++ its_args) ≡ reads.words ++ map value_text v.args
    words_of_aux =
        reads.words_are its_args (EndsWord-led value_text v.args)
        ∙ ap (λ words. reads.words ++ words) (words_of-values v.args h.args)

    words_of_type : words_of (type_text v.ty ++ (aux_text v ++ its_args)) ≡ words_behind
    words_of_type =
        space_in_front 32 (its_type ++ (aux_text v ++ its_args)) refl
        ∙ plain_word_in_front 517 its_type (aux_text v ++ its_args) type_word
        (reads.ends its_args (EndsWord-led value_text v.args))
        ∙ ap (λ words. its_type ∷ words) words_of_aux

    abbrev from_op : List ℕ
    from_op = op_name v.op ++ (type_text v.ty ++ (aux_text v ++ its_args))

    words_of_op : words_of from_op ≡ op_name v.op ∷ words_behind
    words_of_op =
        plain_word_in_front 15 (op_name v.op) (type_text v.ty ++ (aux_text v ++ its_args)) (op_is_word v.op) refl
        ∙ ap (λ words. op_name v.op ∷ words) words_of_type

    words_of_line : words_of (value_text v.id ++ (codes " = " ++ from_op))
        ≡ value_text v.id ∷ codes "=" ∷ op_name v.op ∷ words_behind
    words_of_line =
        plain_word_in_front 8 (value_text v.id) (codes " = " ++ from_op) (value_is_word v.id h.number) refl
        ∙ ap (λ words. value_text v.id ∷ codes "=" ∷ words) words_of_op

    args_are_text : IsPlainText (9 * MAX_ARGS) its_args
    args_are_text = record {
      short = omega (arith, length-values v.args h.args, limits.args);
      plain = AllPlain-values v.args h.args;
    }

    from_op_is_text : IsPlainText (15 + (518 + (103 + 9 * MAX_ARGS))) from_op
    from_op_is_text =
        text_append 15 (518 + (103 + 9 * MAX_ARGS)) (op_name v.op) (type_text v.ty ++ (aux_text v ++ its_args))
        (text_of_word 15 (op_name v.op) (op_is_word v.op))
        (text_append 518 (103 + 9 * MAX_ARGS) (type_text v.ty) (aux_text v ++ its_args)
        (text_append 1 517 (codes " ") its_type (known_text 1 (codes " ") refl) (text_of_word 517 its_type type_word))
        (text_append 103 (9 * MAX_ARGS) (aux_text v) its_args reads.is_text args_are_text))

    line_is_text : IsPlainText 4067 (value_text v.id ++ (codes " = " ++ from_op))
    line_is_text =
        text_append 8 4059 (value_text v.id) (codes " = " ++ from_op)
        (text_of_word 8 (value_text v.id) (value_is_word v.id h.number))
        (text_append 3 4056 (codes " = ") from_op (known_text 3 (codes " = ") refl) from_op_is_text)

-- the line of a value
pub spells_value : (v : Value) → ValueFacts v → ValueWithinLimits v →
    Spells (value_text v.id ++ (codes " = "
    ++ (op_name v.op ++ (type_text v.ty ++ (aux_text v ++ led (codes " ") value_text v.args))))) (ValueForm (Known v))
spells_value v h limits =
    let text = line_is_text v h limits in
    spells_text (value_text v.id ++ (codes " = " ++ from_op v h limits)) (ValueForm (Known v))
    (ap form_of (words_of_line v h limits) ∙ value_form_is v h)
    (record { short = omega (arith, text.short); plain = text.plain })
