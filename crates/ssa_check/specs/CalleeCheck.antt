-- What the check of calls and their selects asks: both are those of the callee's signature.
use Rattle.std.specs.Prelude.{ℕ, ℤ, pos, negsuc, Bool, false, not, ◌&&◌, ◌||◌, List, [], ◌∷◌, ◌++◌, map, Option, None}
use Rattle.std.specs.Prelude.{Some, slice_get}
use Rattle.std.specs.List.{list_any}
use Rattle.std.specs.Ordering.{int_eq}
use Rattle.gossa_base.specs.declared.ids.ValueId.{ValueId}
use Rattle.ssa_ir.specs.declared.types.Scalar.{Scalar}
use Rattle.ssa_ir.specs.declared.types.Sig.{Sig}
use Rattle.ssa_ir.specs.declared.func.Block.{Block}
use Rattle.ssa_ir.specs.declared.func.Func.{Func}
use Rattle.ssa_ir.specs.declared.func.SsaUnit.{SsaUnit}
use Rattle.ssa_ir.specs.declared.func.Value.{Value}
use Rattle.ssa_ir.specs.FirstOrder.{has_value, selects}
use Rattle.ssa_ir.specs.OpKinds.{is_call, is_follower}
use Rattle.ssa_ir.specs.Limits.{tuple_words}
use Rattle.ssa_ir.specs.Lookups.{sig_of, values_of, named_by}
use Rattle.ssa_ir.specs.declared.classes.Class.{Class}
use Rattle.ssa_ir.specs.declared.classes.Class.TheVariants.{Memory}
use Rattle.ssa_ir.specs.Classes.{class_of, class_of_scalar, same_class, is_memory}
use Rattle.ssa_check.specs.OpTypes.{are, before_last, classes_of}
use Rattle.ssa_check.specs.ValueChecks.{is_lower}

abbrev pub classes : List Scalar → List Class
classes types = map class_of_scalar types

-- the arguments before the memory are the parameters, and the tuple the results, in number and class
abbrev pub matches : Func → Value → Option Sig → Bool
matches f v None = false
matches f v (Some sig) =
    are (classes_of f (before_last v.args)) (classes sig.params)
    && are (classes (tuple_words v.ty)) (classes sig.results)

abbrev pub callee : SsaUnit → Option (List ℕ) → Option Sig
callee u None = None
callee u (Some name) = sig_of u name

-- some select of type mem names the call, in any block and with any index
abbrev pub has_memory_select : Func → Value → Bool
has_memory_select f v = list_any (λ s. selects v.id s && is_memory s) (values_of f)

-- a call is one of its callee's signature, and the memory that it leaves is named
abbrev pub call_holds : SsaUnit → Func → Value → Bool
call_holds u f v = matches f v (callee u v.sym) && has_memory_select f v

-- the class of result i of a tuple: behind the last word stands the memory
abbrev pub result_class : List Scalar → ℤ → Option Class
result_class types (pos i) = slice_get (classes types ++ Memory ∷ []) i
result_class types (negsuc i) = None

abbrev pub is_class : Value → Option Class → Bool
is_class v None = false
is_class v (Some c) = same_class (class_of v.ty) c

-- another select of the call, in any block, has the same index and a lower number
abbrev pub has_lower_twin : Func → (call : ValueId) → Value → Bool
has_lower_twin f call v = list_any (λ s. selects call s && int_eq s.aux v.aux && is_lower s v) (values_of f)

-- a select stands in the block of its call, and has an index and the class of the call's own tuple; no other one of its
-- index has a lower number
abbrev pub selects_of_call : Func → Block → Value → (call : Value) → Bool
selects_of_call f b v call =
    is_call call.op
    && has_value b.values call.id
    && is_class v (result_class (tuple_words call.ty) v.aux)
    && not (has_lower_twin f call.id v)

abbrev pub selects_of : Func → Block → Value → Option Value → Bool
selects_of f b v None = false
selects_of f b v (Some call) = selects_of_call f b v call

abbrev pub select_holds : Func → Block → Value → Bool
select_holds f b v = selects_of f b v (named_by f v.args)

abbrev pub callee_holds : SsaUnit → Func → Block → Value → Bool
callee_holds u f b v = (not (is_call v.op) || call_holds u f v) && (not (is_follower v.op) || select_holds f b v)
