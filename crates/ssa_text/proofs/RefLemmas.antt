-- What the lines of a function name is there, where none of its mentions is unknown.
use Rattle.std.proofs.Common.{◌≡◌, ◌==◌, ℕ, Bool, true, false, not, ◌&&◌, List, ◌++◌, map, find, is_some, All, Option}
use Rattle.std.proofs.Common.{None, Some, IfSome, option_map, get_or, refl, ◌∙◌, subst}
use Rattle.std.specs.Bool.{beq}
use Rattle.std.specs.List.{flat_map}
use Rattle.std.proofs.lemmas.Bool.{not-false}
use Rattle.std.proofs.lemmas.List.{append-nil}
use Rattle.std.proofs.lemmas.List.Elements.{All-push}
use Rattle.gossa_base.specs.declared.ids.ValueId.{ValueId}
use Rattle.gossa_base.specs.declared.ids.BlockId.{BlockId}
use Rattle.ssa_ir.specs.declared.func.Block.{Block}
use Rattle.ssa_ir.specs.declared.func.Func.{Func}
use Rattle.ssa_ir.specs.Edges.{same_block}
use Rattle.ssa_ir.specs.Lookups.{is_numbered}
use Rattle.ssa_ir.specs.WellFormed.{ValueIsThere, BlockIsThere}
use Rattle.ssa_text.specs.declared.partial.OpenBlock.{OpenBlock}
use Rattle.ssa_text.specs.declared.partial.OpenFunc.{OpenFunc}
use Rattle.ssa_text.specs.declared.partial.Named.TheVariants.{OfValue, OfBlock}
use Rattle.ssa_text.specs.declared.partial.Mention.{Mention}
use Rattle.ssa_text.specs.Reading.{has_open_block, block_ids, open_block_id, open_values, has_named, unknown_in, whole}
use Rattle.ssa_text.specs.Reading.{with_whole}
use Rattle.ssa_lines.proofs.FormFacts.{IsTextBlock}
use Rattle.ssa_text.proofs.ListLemmas.{All-unmap, All-front, none_found, found_by_test, same_tests}
use Rattle.ssa_text.proofs.MentionLemmas.{ArgsPass}
use Rattle.ssa_text.proofs.ReadFacts.{GoodBlock, IdsWell, PartsWell, ValuePasses, BlockPasses, EndPasses, MentionsWell}
use Rattle.ssa_text.proofs.ReadFacts.{RefsThere}

none_unknown : (line : Mention → ℕ) (o : Option Mention) → option_map line o ≡ None → o ≡ None
none_unknown line None h = refl
none_unknown line (Some m) h = cc

-- where no mention is unknown, all that is mentioned is there
all_there : (func : Option OpenFunc) (mentions : List Mention) → unknown_in func mentions ≡ None
    → All (λ (m : Mention). has_named func m.named ≡ true) mentions
all_there func mentions h =
    let unknown = λ (m : Mention). not (has_named func m.named) in
    let none = none_found unknown mentions (none_unknown (λ m. m.line) (find unknown mentions) h) in
    λ k d lt. not-false (has_named func (get_or mentions k d).named) (none k d lt)

value_there : (f : OpenFunc) (id : ValueId) → has_named (Some f) (OfValue id) ≡ true → ValueIsThere (whole f) id
value_there f id h = found_by_test (is_numbered id) (flat_map (λ b. b.values) f.blocks) ∙ h

and_true : (b : Bool) → (b && true) ≡ b
and_true true = refl
and_true false = refl

-- blocks of a text are the same where their numbers are
same_by_number : (a b : BlockId) → a.split ≡ false → b.split ≡ false → same_block a b ≡ (a.n == b.n)
same_by_number a b first second =
    (λ i. (a.n == b.n) && beq (first i) (second i)) ∙ and_true (a.n == b.n)

block_there : (f : OpenFunc) (id : BlockId) → All (λ (b : Block). b.id.split ≡ false) f.blocks → IsTextBlock id
    → has_named (Some f) (OfBlock id) ≡ true → BlockIsThere (whole f) id
block_there f id unsplit text h =
    let named = λ (b : Block). same_block b.id id in
    let numbered = λ (b : Block). b.id.n == id.n in
    found_by_test named f.blocks
    ∙ same_tests named numbered f.blocks
    (λ k d lt. same_by_number (get_or f.blocks k d).id id (unsplit k d lt) text.unsplit)
    ∙ h

each_there : (f : OpenFunc) (ids : List BlockId) → All (λ (b : Block). b.id.split ≡ false) f.blocks
    → All IsTextBlock ids → All (BlockPasses (has_named (Some f))) ids → All (BlockIsThere (whole f)) ids
each_there f ids unsplit text pass = λ k d lt. block_there f (get_or ids k d) unsplit (text k d lt) (pass k d lt)

control_there : (f : OpenFunc) (control : Option ValueId) → IfSome control (ValuePasses (has_named (Some f)))
    → IfSome control (ValueIsThere (whole f))
control_there f None h = tt
control_there f (Some id) h = value_there f id h

-- a function that ends has what its lines name
ended_refs : (f : OpenFunc) (b : Option OpenBlock) → is_some b ≡ false
    → All (λ (c : Block). c.id.split ≡ false) f.blocks → All GoodBlock f.blocks
    → ArgsPass (has_named (Some f)) (flat_map (λ (c : Block). c.values) f.blocks ++ open_values b)
    → All (EndPasses (has_named (Some f))) f.blocks → RefsThere (whole f)
ended_refs f (Some b) none unsplit good args ends = absurd (cc)
ended_refs f None none unsplit good args ends =
    let all_values = append-nil (flat_map (λ (c : Block). c.values) f.blocks) in
    let values = subst (ArgsPass (has_named (Some f))) all_values args in record {
      args = λ k d lt j e within. value_there f _ (values k d lt j e within);
      controls = λ k d lt. control_there f (get_or f.blocks k d).control (ends k d lt).control;
      preds = λ k d lt.
          each_there f (get_or f.blocks k d).preds unsplit (good k d lt).preds.each (ends k d lt).preds;
      succs = λ k d lt. each_there f (get_or f.blocks k d).succs unsplit (good k d lt).succs (ends k d lt).succs;
    }

blocks_unsplit : (f : OpenFunc) (b : Option OpenBlock)
    → All IsTextBlock (map (λ (c : Block). c.id) f.blocks ++ open_block_id b)
    → All (λ (c : Block). c.id.split ≡ false) f.blocks
blocks_unsplit f b good =
    let id = λ (c : Block). c.id in
    let front = All-front IsTextBlock (map id f.blocks) (open_block_id b) good in
    let texts = All-unmap IsTextBlock id f.blocks front in
    λ k d lt. (texts k d lt).unsplit

-- all whole functions have what they name, the one that ends too
pub refs_behind : (funcs : List Func) (func : Option OpenFunc) (mentions : List Mention)
    → has_open_block func ≡ false → unknown_in func mentions ≡ None → All RefsThere funcs
    → IdsWell (block_ids func) → PartsWell func → MentionsWell func mentions → All RefsThere (with_whole funcs func)
refs_behind funcs None mentions none known refs ids parts well = refs
refs_behind funcs (Some f) mentions none known refs ids parts well =
    let passes = well.all_named (has_named (Some f)) (all_there (Some f) mentions known) in
    let unsplit = blocks_unsplit f f.block ids.good in
    All-push RefsThere funcs (whole f) refs
    (ended_refs f f.block none unsplit parts.blocks passes.args passes.blocks)
