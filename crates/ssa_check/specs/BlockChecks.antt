-- What the checks of blocks ask: of the entry, of the edges, and of how a block ends.
use Rattle.std.specs.Prelude.{ℕ, ◌==◌, Bool, true, false, not, ◌&&◌, ◌||◌, List, length, filter, Option, None, Some}
use Rattle.std.specs.List.{list_any, list_all}
use Rattle.gossa_base.specs.declared.ids.BlockId.{BlockId}
use Rattle.gossa_base.specs.declared.ids.ValueId.{ValueId}
use Rattle.ssa_ir.specs.declared.func.Block.{Block}
use Rattle.ssa_ir.specs.declared.func.Func.{Func}
use Rattle.ssa_ir.specs.declared.func.Kind.{Kind}
use Rattle.ssa_ir.specs.declared.func.Kind.TheVariants.{Plain, If, Ret, Exit}
use Rattle.ssa_ir.specs.declared.func.Value.{Value}
use Rattle.ssa_ir.specs.Edges.{same_block, is_entry}
use Rattle.ssa_ir.specs.FirstOrder.{has_value, same_value}
use Rattle.ssa_ir.specs.Limits.{tuple_words}
use Rattle.ssa_ir.specs.Lookups.{value_of, values_of}
use Rattle.ssa_ir.specs.declared.classes.Class.TheVariants.{Bool as BoolClass, Memory}
use Rattle.ssa_ir.specs.OpKinds.{is_result}
use Rattle.ssa_check.specs.CalleeCheck.{classes}
use Rattle.ssa_ir.specs.Classes.{same_class}
use Rattle.ssa_check.specs.OpTypes.{are, before_last, class_at, classes_of}

-- ---- the entry

abbrev pub has_blocks : Func → Bool
has_blocks f = not (length f.blocks == 0)

-- the first block has no predecessors
abbrev pub entry_holds : Func → Block → Bool
entry_holds f b = not (is_entry f b) || length b.preds == 0

-- ---- edges

-- how often a block stands in a list
abbrev pub times : BlockId → List BlockId → ℕ
times id blocks = length (filter (λ b. same_block b id) blocks)

-- an edge stands as often with its target as with its source
abbrev pub agree : (source target : Block) → Bool
agree source target = times source.id target.preds == times target.id source.succs

-- each block stands among the predecessors of this one as often as this one among the successors of that one
abbrev pub edges_hold : Func → Block → Bool
edges_hold f target = list_all (λ source. agree source target) f.blocks

-- ---- controls

abbrev pub controls : ValueId → Option ValueId → Bool
controls id None = false
controls id (Some c) = same_value c id

-- some value takes this one, or another block ends by it
abbrev pub is_used_elsewhere : Func → Block → ValueId → Bool
is_used_elsewhere f b id =
    list_any (λ v. list_any (same_value id) v.args) (values_of f)
    || list_any (λ other. not (same_block other.id b.id) && controls id other.control) f.blocks

-- a MakeResult has the results of the function, in number and class
abbrev pub has_results : Func → Option Value → Bool
has_results f None = false
has_results f (Some v) =
    is_result v.op
    && are (classes_of f (before_last v.args)) (classes f.sig.results)
    && are (classes (tuple_words v.ty)) (classes f.sig.results)

-- whether a control is what the kind of block takes: a bool; a MakeResult of the block itself that nothing else uses; a
-- memory
abbrev pub takes : Func → Block → Kind → Option ValueId → Bool
takes f b Plain control = true
takes f b If (Some id) = same_class (class_at f id) BoolClass
takes f b Ret (Some id) = has_results f (value_of f id) && has_value b.values id && not (is_used_elsewhere f b id)
takes f b Exit (Some id) = same_class (class_at f id) Memory
takes f b _ _ = false

abbrev pub control_holds : Func → Block → Bool
control_holds f b = takes f b b.kind b.control
