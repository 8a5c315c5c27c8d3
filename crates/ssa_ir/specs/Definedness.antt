-- What the check of definedness asks: on every path from the entry to a use, the definition was passed.
use Rattle.std.specs.Prelude.{◌≡◌, ℕ, Bool, true, false, ◌⊎◌, List, ◌∷◌, Option, None, Some, slice_get}
use Rattle.std.specs.List.{Any, list_any}
use Rattle.gossa_base.specs.declared.ids.ValueId.{ValueId}
use Rattle.ssa_ir.specs.declared.func.Block.{Block}
use Rattle.ssa_ir.specs.declared.func.Func.{Func}
use Rattle.ssa_ir.specs.declared.func.Value.{Value}
use Rattle.ssa_ir.specs.FirstOrder.{has_value}
use Rattle.ssa_ir.specs.OpKinds.{is_phi}
use Rattle.ssa_ir.specs.Paths.{IsPath}

-- the definition of a value stands in a block of a path
abbrev pub is_passed : (path : List Block) → ValueId → Bool
is_passed path id = list_any (λ b. has_value b.values id) path

-- a use at the end of a block, or in it by a value that is no Phi or by the control: some path to the block passes no
-- definition, in the block itself neither
pub record Misses (f : Func) (b : Block) (id : ValueId) : Type 0 where
  pub before : List Block
  pub is_path : IsPath f (b ∷ before)
  pub missed : is_passed (b ∷ before) id ≡ false

-- a Phi uses argument k at the end of predecessor k: some path comes from there, and passed no definition up to that
-- end
pub record PhiMisses (f : Func) (b : Block) (v : Value) : Type 0 where
  pub k : ℕ
  pub arg : ValueId
  pub is_arg : slice_get v.args k ≡ Some arg
  pub source : Block
  pub is_source : slice_get b.preds k ≡ Some source.id
  pub before : List Block
  pub is_path : IsPath f (b ∷ source ∷ before)
  pub missed : is_passed (source ∷ before) arg ≡ false

-- a value uses one that some path to the use doesn't define
abbrev pub ValueMisses : Func → Block → Value → Type 0
ValueMisses f b v =
    ((is_phi v.op ≡ true) × PhiMisses f b v) ⊎ ((is_phi v.op ≡ false) × Any (Misses f b) v.args)

-- and so does a control
abbrev pub ControlMisses : Func → Block → Option ValueId → Type 0
ControlMisses f b None = ⊥
ControlMisses f b (Some id) = Misses f b id
