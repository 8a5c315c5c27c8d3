-- All that the lines of a function name stands among its mentions.
use Rattle.std.proofs.Common.{◌≡◌, ℕ, Bool, true, false, List, [], ◌++◌, map, All, Option, None, Some, IfSome, sym}
use Rattle.std.proofs.Common.{subst}
use Rattle.std.proofs.lemmas.List.Elements.{All-nil, All-head, All-push}
use Rattle.gossa_base.specs.declared.ids.ValueId.{ValueId}
use Rattle.ssa_ir.specs.declared.types.Sig.{Sig}
use Rattle.ssa_ir.specs.declared.func.Value.{Value}
use Rattle.ssa_lines.specs.declared.forms.BlockLine.{BlockLine}
use Rattle.ssa_lines.specs.declared.forms.ControlLine.{ControlLine}
use Rattle.ssa_text.specs.declared.partial.OpenBlock.{OpenBlock}
use Rattle.ssa_text.specs.declared.partial.OpenFunc.{OpenFunc}
use Rattle.ssa_text.specs.declared.partial.Named.{Named}
use Rattle.ssa_text.specs.declared.partial.Named.TheVariants.{OfValue, OfBlock}
use Rattle.ssa_text.specs.declared.partial.Mention.{Mention}
use Rattle.ssa_text.specs.Reading.{has_open_block, values_so_far, mention, change, begin_block, add_value, value_behind}
use Rattle.ssa_text.specs.Reading.{whole_block, end_open, end_block, control_mention}
use Rattle.ssa_text.proofs.ListLemmas.{All-unmap, All-front, All-back}
use Rattle.ssa_text.proofs.OpenFuncLemmas.{value_last}
use Rattle.ssa_text.proofs.ReadFacts.{ValuePasses, BlockPasses, EndPasses, FuncPasses, MentionsWell}
use Rattle.ssa_text.proofs.TakeLemmas.{values_kept_by_block, values_kept_by_end}

-- the arguments of these values pass
abbrev pub ArgsPass : (Named → Bool) → List Value → Type 0
ArgsPass test values = All (λ (v : Value). All (ValuePasses test) v.args) values

abbrev PredsPass : (Named → Bool) → Option OpenBlock → Type 0
PredsPass test b = IfSome b (λ c. All (BlockPasses test) c.preds)

-- what a test shows of all mentions: of those before a line, and of what the line names
record MorePass (test : Named → Bool) (mentions : List Mention) (named : List Named) : Type 0 where
  before : All (λ (m : Mention). test m.named ≡ true) mentions
  here : All (λ (n : Named). test n ≡ true) named

more_pass : (test : Named → Bool) (line : ℕ) (mentions : List Mention) (named : List Named)
    → All (λ (m : Mention). test m.named ≡ true) (mentions ++ map (mention line) named) → MorePass test mentions named
more_pass test line mentions named all =
    let passes = λ (m : Mention). test m.named ≡ true in record {
      before = All-front passes mentions (map (mention line) named) all;
      here = All-unmap passes (mention line) named (All-back passes mentions (map (mention line) named) all);
    }

-- before all lines, and behind the beginning of a function, nothing is named
pub no_mentions : MentionsWell None []
no_mentions = record {
  all_named = λ test all. record { args = All-nil _; blocks = All-nil (EndPasses test); preds = tt };
}

pub new_mentions : (s : Sig) → MentionsWell (Some (record { sig = s; blocks = []; block = None })) []
new_mentions s = record {
  all_named = λ test all. record { args = All-nil _; blocks = All-nil (EndPasses test); preds = tt };
}

-- a block that begins
begun : (test : Named → Bool) (line : BlockLine) (func : Option OpenFunc) → has_open_block func ≡ false
    → FuncPasses test func → All (BlockPasses test) line.preds → FuncPasses test (change (begin_block line) func)
begun test line None none pass preds = pass
begun test line (Some f) none pass preds = record {
  args = subst (ArgsPass test) (sym (values_kept_by_block line (Some f) none)) pass.args;
  blocks = pass.blocks;
  preds = preds;
}

pub mentions_behind_block : (line : ℕ) (b : BlockLine) (func : Option OpenFunc) (mentions : List Mention)
    → has_open_block func ≡ false → MentionsWell func mentions
    → MentionsWell (change (begin_block b) func) (mentions ++ map (mention line) (map OfBlock b.preds))
mentions_behind_block line b func mentions none well = record {
  all_named = λ test all.
      let more = more_pass test line mentions (map OfBlock b.preds) all in
      begun test b func none (well.all_named test more.before)
      (All-unmap (λ (n : Named). test n ≡ true) OfBlock b.preds more.here);
}

-- one more value
same_preds : (test : Named → Bool) (v : Value) (b : Option OpenBlock) → PredsPass test b
    → PredsPass test (add_value v b)
same_preds test v None pass = tt
same_preds test v (Some b) pass = pass

more_args : (test : Named → Bool) (v : Value) (func : Option OpenFunc) → has_open_block func ≡ true
    → ArgsPass test (values_so_far func) → All (ValuePasses test) v.args
    → ArgsPass test (values_so_far (change (value_behind v) func))
more_args test v func here pass args =
    subst (ArgsPass test) (sym (value_last v func here))
    (All-push (λ (u : Value). All (ValuePasses test) u.args) (values_so_far func) v pass args)

with_value : (test : Named → Bool) (v : Value) (func : Option OpenFunc) → has_open_block func ≡ true
    → FuncPasses test func → All (ValuePasses test) v.args → FuncPasses test (change (value_behind v) func)
with_value test v None here pass args = pass
with_value test v (Some f) here pass args = record {
  args = more_args test v (Some f) here pass.args args;
  blocks = pass.blocks;
  preds = same_preds test v f.block pass.preds;
}

pub mentions_behind_value : (line : ℕ) (v : Value) (func : Option OpenFunc) (mentions : List Mention)
    → has_open_block func ≡ true → MentionsWell func mentions
    → MentionsWell (change (value_behind v) func) (mentions ++ map (mention line) (map OfValue v.args))
mentions_behind_value line v func mentions here well = record {
  all_named = λ test all.
      let more = more_pass test line mentions (map OfValue v.args) all in
      with_value test v func here (well.all_named test more.before)
      (All-unmap (λ (n : Named). test n ≡ true) OfValue v.args more.here);
}

-- the end of a block
ended : (test : Named → Bool) (line : ControlLine) (f : OpenFunc) (b : Option OpenBlock)
    → All (EndPasses test) f.blocks → PredsPass test b → IfSome line.control (ValuePasses test)
    → All (BlockPasses test) line.succs
    → All (EndPasses test) (end_open line f b).blocks × PredsPass test (end_open line f b).block
ended test line f None blocks preds control succs = (blocks, tt)
ended test line f (Some b) blocks preds control succs =
    let pass : EndPasses test (whole_block line b) = record { preds = preds; control = control; succs = succs } in
    (All-push (EndPasses test) f.blocks (whole_block line b) blocks pass, tt)

with_end : (test : Named → Bool) (line : ControlLine) (func : Option OpenFunc) → FuncPasses test func
    → IfSome line.control (ValuePasses test) → All (BlockPasses test) line.succs
    → FuncPasses test (change (end_block line) func)
with_end test line None pass control succs = pass
with_end test line (Some f) pass control succs =
    let parts = ended test line f f.block pass.blocks pass.preds control succs in record {
      args = subst (ArgsPass test) (sym (values_kept_by_end line (Some f))) pass.args;
      blocks = parts.0;
      preds = parts.1;
    }

control_passes : (test : Named → Bool) (control : Option ValueId)
    → All (λ (n : Named). test n ≡ true) (control_mention control) → IfSome control (ValuePasses test)
control_passes test None all = tt
control_passes test (Some id) all = All-head (λ (n : Named). test n ≡ true) (OfValue id) [] all

pub mentions_behind_end : (line : ℕ) (c : ControlLine) (func : Option OpenFunc) (mentions : List Mention)
    → MentionsWell func mentions
    → MentionsWell (change (end_block c) func)
    (mentions ++ map (mention line) (control_mention c.control ++ map OfBlock c.succs))
mentions_behind_end line c func mentions well = record {
  all_named = λ test all.
      let passes = λ (n : Named). test n ≡ true in
      let control = control_mention c.control in
      let succs = map OfBlock c.succs in
      let more = more_pass test line mentions (control ++ succs) all in
      with_end test c func (well.all_named test more.before)
      (control_passes test c.control (All-front passes control succs more.here))
      (All-unmap passes OfBlock c.succs (All-back passes control succs more.here));
}
