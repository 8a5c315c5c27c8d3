-- What holds of what was read so far, where no line had a fault.
use Rattle.std.proofs.Common.{◌≡◌, ◌≤◌, Bool, true, false, List, [], length, map, is_none, All, Option, None, Some}
use Rattle.std.proofs.Common.{IfSome}
use Rattle.gossa_base.specs.declared.ids.ValueId.{ValueId}
use Rattle.gossa_base.specs.declared.ids.BlockId.{BlockId}
use Rattle.ssa_ir.specs.declared.limits.TheConstants.{MAX_ARGS, MAX_BLOCKS, MAX_FUNCTIONS, MAX_SIGS, MAX_VALUES}
use Rattle.ssa_ir.specs.declared.types.Sig.{Sig}
use Rattle.ssa_ir.specs.declared.func.Value.{Value}
use Rattle.ssa_ir.specs.declared.func.Block.{Block}
use Rattle.ssa_ir.specs.declared.func.Func.{Func}
use Rattle.ssa_ir.specs.Limits.{SigWithinLimits, ValueWithinLimits}
use Rattle.ssa_ir.specs.Lookups.{values_of}
use Rattle.ssa_ir.specs.Names.{IsName}
use Rattle.ssa_ir.specs.WellFormed.{IsNumber, Differ, ValueIsThere, BlockIsThere, WellFormedValue, WellFormedBlock}
use Rattle.ssa_lines.specs.declared.forms.Form.{Form}
use Rattle.ssa_text.specs.declared.partial.OpenBlock.{OpenBlock}
use Rattle.ssa_text.specs.declared.partial.OpenFunc.{OpenFunc}
use Rattle.ssa_text.specs.declared.partial.Named.{Named}
use Rattle.ssa_text.specs.declared.partial.Named.TheVariants.{OfValue, OfBlock}
use Rattle.ssa_text.specs.declared.partial.Mention.{Mention}
use Rattle.ssa_text.specs.Reading.{Read, in_place, is_too_large, is_twice, names_given, block_ids, values_so_far}
use Rattle.ssa_text.specs.Reading.{func_count}
use Rattle.ssa_lines.proofs.FormFacts.{IsTextBlock, FormFacts}
use Rattle.ssa_text.proofs.LimitFacts.{FormLimits, HasRoom}

-- a line of this form has no fault, and the facts of its form
pub record Taken (r : Read) (form : Form) : Type 0 where
  pub place : in_place r form ≡ true
  pub small : is_too_large form ≡ false
  pub once : is_twice r form ≡ false
  pub limits : FormLimits form
  pub room : HasRoom r form
  pub facts : FormFacts form

-- ---- what a value, a block and a signature are by themselves

pub record GoodSig (s : Sig) : Type 0 where
  pub name : IsName s.name
  pub limits : SigWithinLimits s

pub record GoodValue (v : Value) : Type 0 where
  pub number : IsNumber v.id.0
  pub well_formed : WellFormedValue v
  pub limits : ValueWithinLimits v

-- predecessors that a text can name, and not too many
pub record GoodPreds (preds : List BlockId) : Type 0 where
  pub each : All IsTextBlock preds
  pub few : length preds ≤ MAX_ARGS

pub record GoodBlock (b : Block) : Type 0 where
  pub well_formed : WellFormedBlock b
  pub preds : GoodPreds b.preds
  pub succs : All IsTextBlock b.succs

-- ---- the values and the blocks of one function

pub record ValuesWell (values : List Value) : Type 0 where
  pub good : All GoodValue values
  pub few : length values ≤ MAX_VALUES
  pub differ : Differ (map (λ v. v.id.0) values)

pub record IdsWell (ids : List BlockId) : Type 0 where
  pub good : All IsTextBlock ids
  pub few : length ids ≤ MAX_BLOCKS
  pub differ : Differ (map (λ id. id.n) ids)

-- the whole blocks of a function that goes on, and the one that has no end yet
abbrev pub whole_blocks : Option OpenFunc → List Block
whole_blocks None = []
whole_blocks (Some f) = f.blocks

abbrev pub open_block : Option OpenFunc → Option OpenBlock
open_block None = None
open_block (Some f) = f.block

pub record PartsWell (func : Option OpenFunc) : Type 0 where
  pub blocks : All GoodBlock (whole_blocks func)
  pub preds : IfSome (open_block func) (λ b. GoodPreds b.preds)

-- all of a whole function but that what it names is there
pub record FuncWell (f : Func) : Type 0 where
  pub values : ValuesWell (values_of f)
  pub ids : IdsWell (map (λ b. b.id) f.blocks)
  pub blocks : All GoodBlock f.blocks

-- ---- what lines name

-- a test that what is named passes
abbrev pub ValuePasses : (Named → Bool) → ValueId → Type 0
ValuePasses test id = test (OfValue id) ≡ true

abbrev pub BlockPasses : (Named → Bool) → BlockId → Type 0
BlockPasses test id = test (OfBlock id) ≡ true

pub record EndPasses (test : Named → Bool) (b : Block) : Type 0 where
  pub preds : All (BlockPasses test) b.preds
  pub control : IfSome b.control (ValuePasses test)
  pub succs : All (BlockPasses test) b.succs

-- all that the lines of a function name passes
pub record FuncPasses (test : Named → Bool) (func : Option OpenFunc) : Type 0 where
  pub args : All (λ (v : Value). All (ValuePasses test) v.args) (values_so_far func)
  pub blocks : All (EndPasses test) (whole_blocks func)
  pub preds : IfSome (open_block func) (λ b. All (BlockPasses test) b.preds)

-- all that the lines of a function name stands among its mentions: what they pass, it passes
pub record MentionsWell (func : Option OpenFunc) (mentions : List Mention) : Type 0 where
  pub all_named : (test : Named → Bool) → All (λ (m : Mention). test m.named ≡ true) mentions → FuncPasses test func

-- what a whole function names is there
pub record RefsThere (f : Func) : Type 0 where
  pub args : All (λ (v : Value). All (ValueIsThere f) v.args) (values_of f)
  pub controls : All (λ (b : Block). IfSome b.control (ValueIsThere f)) f.blocks
  pub preds : All (λ (b : Block). All (BlockIsThere f) b.preds) f.blocks
  pub succs : All (λ (b : Block). All (BlockIsThere f) b.succs) f.blocks

-- ---- all that was read

pub record SigsWell (r : Read) : Type 0 where
  pub sigs : All GoodSig r.sigs
  pub funcs : All (λ (f : Func). GoodSig f.sig) r.funcs
  pub open_func : IfSome r.func (λ f. GoodSig f.sig)

pub record CountsWell (r : Read) : Type 0 where
  pub sigs : length r.sigs ≤ MAX_SIGS
  pub funcs : func_count r ≤ MAX_FUNCTIONS

-- signatures come before all functions, and no name stands twice
pub record NamesWell (r : Read) : Type 0 where
  pub none_yet : is_none r.func ≡ true → r.funcs ≡ []
  pub differ : Differ (names_given r)

pub record ReadWell (r : Read) : Type 0 where
  pub sigs : SigsWell r
  pub counts : CountsWell r
  pub names : NamesWell r
  pub funcs : All FuncWell r.funcs
  pub refs : r.unknown ≡ None → All RefsThere r.funcs
  pub values : ValuesWell (values_so_far r.func)
  pub ids : IdsWell (block_ids r.func)
  pub parts : PartsWell r.func
  pub mentions : MentionsWell r.func r.mentions
