-- The printed lines of blocks spell what was printed: a block's beginning, and its end.
use Rattle.std.proofs.Common.{◌≡◌, ℕ, ◌+◌, ◌*◌, ◌≤◌, IfSome, List, [], ◌∷◌, ◌++◌, length, map, codes, Option, None}
use Rattle.std.proofs.Common.{Some, All, refl, ap, subst, ◌∙◌, arith, append_assoc}
use Rattle.std.proofs.lemmas.List.{length-append}
use Rattle.std.proofs.lemmas.List.Elements.{All-head, All-tail, All-from_recursion}
use Rattle.gossa_base.specs.declared.ids.ValueId.{ValueId}
use Rattle.gossa_base.specs.declared.ids.BlockId.{BlockId}
use Rattle.gossa_base.specs.Texts.{led, value_text, block_text}
use Rattle.ssa_ir.specs.declared.limits.TheConstants.{MAX_ARGS, MAX_LINE_BYTES}
use Rattle.ssa_ir.specs.declared.func.Kind.{Kind}
use Rattle.ssa_ir.specs.declared.func.Kind.TheVariants.{Plain, If, Ret, Exit, Cond, Bit}
use Rattle.ssa_ir.specs.WellFormed.{IsNumber, HasItsSuccessors, HasItsControl}
use Rattle.ssa_lines.specs.Forms.{form_of, some_blocks, preds_of, blocks_of, block_of, block_line, block_or_value}
use Rattle.ssa_lines.specs.Forms.{control_named, control_of, if_of, leaving_end, control_or_other}
use Rattle.ssa_lines.specs.NumberWords.{bid, number_word}
use Rattle.ssa_lines.specs.Steps.{◌>>=◌}
use Rattle.ssa_lines.specs.Words.{words_of}
use Rattle.ssa_lines.specs.declared.numbers.Number.{Number}
use Rattle.ssa_lines.specs.declared.numbers.Number.TheVariants.{Fits as NumberFits}
use Rattle.ssa_lines.specs.declared.forms.Spelled.TheVariants.{Fits}
use Rattle.ssa_lines.specs.declared.forms.BlockLine.{BlockLine}
use Rattle.ssa_lines.specs.declared.forms.ControlLine.{ControlLine}
use Rattle.ssa_lines.specs.declared.forms.Form.{Form}
use Rattle.ssa_lines.specs.declared.forms.Form.TheVariants.{Block as BlockForm, Control as ControlForm}
use Rattle.ssa_lines.proofs.WordLemmas.{EndsWord, space_in_front, without_last_of}
use Rattle.ssa_text.specs.Text.{preds_text, end_text}
use Rattle.ssa_lines.proofs.FormFacts.{IsValueNumber, IsTextBlock, BlockFacts, ControlFacts, Spells}
use Rattle.ssa_lines.proofs.LineBytes.{AllPlain, AllPlain-nil, AllPlain-from_test, AllPlain-append, IsPlainWord}
use Rattle.ssa_lines.proofs.LineBytes.{plain_word_from_tests, plain_word_append, plain_word_in_front}
use Rattle.ssa_lines.proofs.LineBytes.{words_of-front_led, spaced, words_of-spaced, AllPlain-spaced, length-spaced}
use Rattle.ssa_lines.proofs.WordTexts.{spells_text}
use Rattle.ssa_lines.proofs.NumberTexts.{value_is_word, block_is_word, text_block_is_word, number_word-value}
use Rattle.ssa_lines.proofs.NumberTexts.{number_word-block, number_word-text_block, blocks_are_words, AllPlain-blocks}
use Rattle.ssa_lines.proofs.NumberTexts.{length-blocks, block_numbers, numbers_ahead-blocks, blocks_of-blocks}

-- the beginning of a block

-- the words behind a label
abbrev pred_words : List BlockId → List (List ℕ)
pred_words [] = []
pred_words (p ∷ preds) = codes "<-" ∷ map block_text (p ∷ preds)

arrow_is_word : IsPlainWord 8 (codes "<-")
arrow_is_word = plain_word_from_tests 8 (codes "<-") (omega arith) (omega arith) refl refl

words_of-preds : (preds : List BlockId) → All IsTextBlock preds → words_of (preds_text preds) ≡ pred_words preds
words_of-preds [] all = refl
words_of-preds (p ∷ preds) all =
    space_in_front 32 (codes "<-" ++ led (codes " ") block_text (p ∷ preds)) refl
    ∙ words_of-front_led block_text 8 (codes "<-") (p ∷ preds) arrow_is_word (blocks_are_words (p ∷ preds) all)

EndsWord-preds : (preds : List BlockId) → EndsWord (preds_text preds)
EndsWord-preds [] = tt
EndsWord-preds (p ∷ preds) = refl

preds_read : (preds : List BlockId) → All IsTextBlock preds → preds_of (pred_words preds) ≡ Some (block_numbers preds)
preds_read [] all = refl
preds_read (p ∷ preds) all = ap some_blocks (numbers_ahead-blocks (p ∷ preds) all)

AllPlain-preds : (preds : List BlockId) → All IsTextBlock preds → AllPlain (preds_text preds)
AllPlain-preds [] all = AllPlain-nil
AllPlain-preds (p ∷ preds) all =
    AllPlain-append (codes " <-") (led (codes " ") block_text (p ∷ preds)) (AllPlain-from_test (codes " <-") refl)
    (AllPlain-blocks (p ∷ preds) all)

length-preds : (preds : List BlockId) → All IsTextBlock preds → length (preds_text preds) ≤ 3 + 9 * length preds
length-preds [] all = omega arith
length-preds (p ∷ preds) all =
    omega (arith, length-append (codes " <-") (led (codes " ") block_text (p ∷ preds)), length-blocks (p ∷ preds) all)

abbrev label_of : ℕ → List ℕ
label_of n = block_text (bid n) ++ codes ":"

label_is_word : (n : ℕ) → IsNumber n → IsPlainWord 9 (label_of n)
label_is_word n h =
    plain_word_append 8 1 (block_text (bid n)) (codes ":") (block_is_word n h)
    (plain_word_from_tests 1 (codes ":") (omega arith) (omega arith) refl refl)

block_is_read : (b : BlockLine) → BlockFacts b → block_line (label_of b.n ∷ pred_words b.preds) ≡ Some (Fits b)
block_is_read b h =
    let words : List (List ℕ) = pred_words b.preds in
    let with_preds = λ (n : Number). preds_of words >>= (λ preds. Some (block_of n (blocks_of preds))) in
    ap (λ (o : Option (List ℕ)). o >>= (λ front. number_word 98 front >>= with_preds))
    (without_last_of 58 58 (block_text (bid b.n)))
    ∙ ap (λ o. o >>= with_preds) (number_word-block b.n h.number)
    ∙ ap (λ o. o >>= (λ preds. Some (block_of (NumberFits b.n) (blocks_of preds)))) (preds_read b.preds h.preds)
    ∙ ap (λ preds. Some (block_of (NumberFits b.n) preds)) (blocks_of-blocks b.preds h.preds)

-- the line of a block's beginning reads back
pub spells_block : (b : BlockLine) → BlockFacts b → length b.preds ≤ MAX_ARGS →
    Spells (block_text (bid b.n) ++ (codes ":" ++ preds_text b.preds)) (BlockForm (Fits b))
spells_block b h few =
    let label : List ℕ = label_of b.n in
    let words : List (List ℕ) = pred_words b.preds in
    let is_label = label_is_word b.n h.number in
    let read =
    ap form_of (plain_word_in_front 9 label (preds_text b.preds) is_label (EndsWord-preds b.preds)
    ∙ ap (λ later. label ∷ later) (words_of-preds b.preds h.preds))
    ∙ ap (λ line. block_or_value line (label ∷ words)) (block_is_read b h)
    in
    let plain = AllPlain-append label (preds_text b.preds) is_label.plain (AllPlain-preds b.preds h.preds) in
    let short : length (label ++ preds_text b.preds) ≤ MAX_LINE_BYTES =
    omega (arith, few, length-append label (preds_text b.preds), is_label.short, length-preds b.preds h.preds)
    in
    let joined = append_assoc (block_text (bid b.n)) (codes ":") (preds_text b.preds) in
    subst (λ line. Spells line (BlockForm (Fits b))) joined
    (spells_text (label ++ preds_text b.preds) (BlockForm (Fits b)) read (record { short = short; plain = plain }))

-- the end of a block

-- a line of a few short words
spells_words : (word : List ℕ) (words : List (List ℕ)) (form : Form) → IsPlainWord 8 word → All (IsPlainWord 8) words →
    length words ≤ 4 → form_of (word ∷ words) ≡ form → Spells (spaced word words) form
spells_words word words form h all few e =
    spells_text (spaced word words) form (ap form_of (words_of-spaced 8 word words h all) ∙ e) record {
      short = omega (arith, few, length-spaced 8 word words h all);
      plain = AllPlain-spaced 8 word words h all;
    }

to_is_word : IsPlainWord 8 (codes "->")
to_is_word = plain_word_from_tests 8 (codes "->") (omega arith) (omega arith) refl refl

-- the line of a block's end with these parts reads back
abbrev EndReadsBack : Kind → Option ValueId → List BlockId → Type 0
EndReadsBack kind control succs =
    Spells (end_text kind control succs)
    (ControlForm (Fits (record { kind = kind; control = control; succs = succs })))

plain_end_reads_back : (b : BlockId) → IsTextBlock b → EndReadsBack Plain None (b ∷ [])
plain_end_reads_back b h =
    let words : List (List ℕ) = codes "->" ∷ block_text b ∷ [] in
    let all = All-from_recursion (IsPlainWord 8) words (to_is_word, (text_block_is_word b h, tt)) in
    let end = λ (o : Option Number). o >>= (λ n. Some (control_of Plain (Fits None) (blocks_of (n ∷ [])))) in
    let read =
    ap (λ o. control_or_other (end o) (codes "Plain" ∷ words)) (number_word-text_block b h)
    ∙ ap (λ succs. ControlForm (control_of Plain (Fits None) succs))
    (blocks_of-blocks (b ∷ []) (All-from_recursion IsTextBlock (b ∷ []) (h, tt)))
    in
    spells_words (codes "Plain") words (ControlForm (Fits (record { kind = Plain; control = None; succs = b ∷ [] })))
    (plain_word_from_tests 8 (codes "Plain") (omega arith) (omega arith) refl refl) all (omega arith) read

if_is_read : (v : ValueId) (b c : BlockId) → IsNumber v.0 → IsTextBlock b → IsTextBlock c →
    if_of (value_text v) (block_text b) (block_text c)
    ≡ Some (Fits (record { kind = If; control = Some v; succs = b ∷ c ∷ [] }))
if_is_read v b c h k l =
    let end = λ (u n m : Number). Some (control_of If (control_named u) (blocks_of (n ∷ m ∷ []))) in
    let with_other = λ (u n : Number). number_word 98 (block_text c) >>= end u n in
    ap (λ o. o >>= (λ u. number_word 98 (block_text b) >>= with_other u)) (number_word-value v h)
    ∙ ap (λ o. o >>= with_other (NumberFits v.0)) (number_word-text_block b k)
    ∙ ap (λ o. o >>= end (NumberFits v.0) (NumberFits b.n)) (number_word-text_block c l)
    ∙ ap (λ succs. Some (control_of If (Fits (Some v)) succs))
    (blocks_of-blocks (b ∷ c ∷ []) (All-from_recursion IsTextBlock (b ∷ c ∷ []) (k, (l, tt))))

if_reads_back : (v : ValueId) (b c : BlockId) → IsNumber v.0 → IsTextBlock b → IsTextBlock c →
    EndReadsBack If (Some v) (b ∷ c ∷ [])
if_reads_back v b c h k l =
    let words : List (List ℕ) = value_text v ∷ codes "->" ∷ block_text b ∷ block_text c ∷ [] in
    let all =
    All-from_recursion (IsPlainWord 8) words
    (value_is_word v h, (to_is_word, (text_block_is_word b k, (text_block_is_word c l, tt))))
    in
    spells_words (codes "If") words (ControlForm (Fits (record { kind = If; control = Some v; succs = b ∷ c ∷ [] })))
    (plain_word_from_tests 8 (codes "If") (omega arith) (omega arith) refl refl) all (omega arith)
    (ap (λ o. control_or_other o (codes "If" ∷ words)) (if_is_read v b c h k l))

-- an end that leaves the function
leaving_is_read : (kind : Kind) (v : ValueId) → IsNumber v.0 →
    leaving_end kind (value_text v ∷ []) ≡ Some (Fits (record { kind = kind; control = Some v; succs = [] }))
leaving_is_read kind v h =
    ap (λ o. o >>= (λ n. Some (control_of kind (control_named n) (Fits [])))) (number_word-value v h)

ret_reads_back : (v : ValueId) → IsNumber v.0 → EndReadsBack Ret (Some v) []
ret_reads_back v h =
    let words : List (List ℕ) = value_text v ∷ [] in
    spells_words (codes "Ret") words (ControlForm (Fits (record { kind = Ret; control = Some v; succs = [] })))
    (plain_word_from_tests 8 (codes "Ret") (omega arith) (omega arith) refl refl)
    (All-from_recursion (IsPlainWord 8) words (value_is_word v h, tt)) (omega arith)
    (ap (λ o. control_or_other o (codes "Ret" ∷ words)) (leaving_is_read Ret v h))

exit_reads_back : (v : ValueId) → IsNumber v.0 → EndReadsBack Exit (Some v) []
exit_reads_back v h =
    let words : List (List ℕ) = value_text v ∷ [] in
    spells_words (codes "Exit") words (ControlForm (Fits (record { kind = Exit; control = Some v; succs = [] })))
    (plain_word_from_tests 8 (codes "Exit") (omega arith) (omega arith) refl refl)
    (All-from_recursion (IsPlainWord 8) words (value_is_word v h, tt)) (omega arith)
    (ap (λ o. control_or_other o (codes "Exit" ∷ words)) (leaving_is_read Exit v h))

-- by the kind: what it asks leaves one shape of each
end_reads_back : (kind : Kind) (control : Option ValueId) (succs : List BlockId) →
    HasItsSuccessors kind (length succs) → HasItsControl kind control → IfSome control IsValueNumber →
    All IsTextBlock succs → EndReadsBack kind control succs
end_reads_back Plain None (b ∷ []) n c v all = plain_end_reads_back b (All-head IsTextBlock b [] all)
end_reads_back Plain None [] n c v all = absurd (omega arith)
end_reads_back Plain None (b ∷ d ∷ succs) n c v all = absurd (omega arith)
end_reads_back Plain (Some x) succs n c v all = cc
end_reads_back If (Some x) (b ∷ d ∷ []) n c v all =
    if_reads_back x b d v (All-head IsTextBlock b (d ∷ []) all)
    (All-head IsTextBlock d [] (All-tail IsTextBlock b (d ∷ []) all))
end_reads_back If (Some x) [] n c v all = absurd (omega arith)
end_reads_back If (Some x) (b ∷ []) n c v all = absurd (omega arith)
end_reads_back If (Some x) (b ∷ d ∷ e ∷ succs) n c v all = absurd (omega arith)
end_reads_back If None succs n c v all = cc
end_reads_back Ret (Some x) [] n c v all = ret_reads_back x v
end_reads_back Ret (Some x) (b ∷ succs) n c v all = absurd (omega arith)
end_reads_back Ret None succs n c v all = cc
end_reads_back Exit (Some x) [] n c v all = exit_reads_back x v
end_reads_back Exit (Some x) (b ∷ succs) n c v all = absurd (omega arith)
end_reads_back Exit None succs n c v all = cc
end_reads_back (Cond k) control succs n c v all = absurd n
end_reads_back Bit control succs n c v all = absurd n

-- the line of a block's end reads back
pub spells_control : (c : ControlLine) → ControlFacts c →
    Spells (end_text c.kind c.control c.succs) (ControlForm (Fits c))
spells_control c h = end_reads_back c.kind c.control c.succs h.successors h.has_control h.control h.succs
