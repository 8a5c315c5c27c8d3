-- What the checks over paths promise to whatever reads accepted functions.
use Rattle.std.specs.Prelude.{◌≡◌, ℕ, Bool, true, false, List, [], ◌∷◌, Some, slice_get}
use Rattle.std.specs.List.{All, Contains, list_any}
use Rattle.gossa_base.specs.declared.ids.ValueId.{ValueId}
use Rattle.ssa_ir.specs.declared.func.Block.{Block}
use Rattle.ssa_ir.specs.declared.func.Func.{Func}
use Rattle.ssa_ir.specs.declared.func.SsaUnit.{SsaUnit}
use Rattle.ssa_ir.specs.declared.func.Value.{Value}
use Rattle.ssa_ir.specs.FirstOrder.{has_value, same_value}
use Rattle.ssa_ir.specs.OpKinds.{is_phi}
use Rattle.ssa_ir.specs.WellFormed.{WellFormed}
use Rattle.ssa_ir.specs.Definedness.{is_passed}
use Rattle.ssa_check.specs.Failing.{Accepted}
use Rattle.ssa_ir.specs.Paths.{IsPath, Reached}

-- a function of an accepted unit
pub record AcceptedFunc (u : SsaUnit) (f : Func) : Type 0 where
  pub well_formed : WellFormed u
  pub accepted : Accepted u
  pub is_of : Contains u.funcs f

-- ---- definitions before uses

-- on every path to the end of a block the definition of a value was passed
abbrev pub IsDefined : Func → Block → ValueId → Type 0
IsDefined f b id = (before : List Block) → IsPath f (b ∷ before) → is_passed (b ∷ before) id ≡ true

-- on every path to a use the definition was passed: to what a value takes that is no Phi; to what a Phi takes, on a
-- path that comes from that predecessor; to what controls a block. No two blocks define one value
pub record DefinedBeforeUse (f : Func) : Type 0 where
  pub argument : (b : Block) (v : Value) (id : ValueId) → Contains f.blocks b → Contains b.values v
      → is_phi v.op ≡ false
      → Contains v.args id → IsDefined f b id
  pub phi_argument : (b source : Block) (v : Value) (k : ℕ) (id : ValueId) (before : List Block) → Contains f.blocks b
      → Contains b.values v → is_phi v.op ≡ true → slice_get v.args k ≡ Some id → slice_get b.preds k ≡ Some source.id
      → IsPath f (b ∷ source ∷ before) → is_passed (source ∷ before) id ≡ true
  pub control : (b : Block) (id : ValueId) → Contains f.blocks b → b.control ≡ Some id → IsDefined f b id
  pub once : (b c : Block) (id : ValueId) → Contains f.blocks b → Contains f.blocks c → has_value b.values id ≡ true
      → has_value c.values id ≡ true → b ≡ c

-- ---- no circles

-- a value takes another one
abbrev pub takes_value : Value → Value → Bool
takes_value v other = list_any (λ id. same_value id other.id) v.args

-- each value takes the next, and the last one this
abbrev pub AreTaken : Value → List Value → Value → Type 0
AreTaken v [] last = takes_value v last ≡ true
AreTaken v (w ∷ rest) last = (takes_value v w ≡ true) × AreTaken w rest last

-- a value that stands in a reached block, and is no Phi
pub record IsReachedValue (f : Func) (v : Value) : Type 0 where
  pub block : Block
  pub is_block : Contains f.blocks block
  pub stands : Contains block.values v
  pub reached : Reached f block
  pub no_phi : is_phi v.op ≡ false

-- no values of reached blocks but phis take each other in a circle, within a block or across blocks
abbrev pub NoCircle : Func → Type 0
NoCircle f = (v : Value) (rest : List Value) → All (IsReachedValue f) (v ∷ rest) → AreTaken v rest v → ⊥

-- ---- the laws

abbrev pub DefinitionsComeFirst : Type 0
DefinitionsComeFirst = (u : SsaUnit) (f : Func) → AcceptedFunc u f → DefinedBeforeUse f

abbrev pub NothingCircles : Type 0
NothingCircles = (u : SsaUnit) (f : Func) → AcceptedFunc u f → NoCircle f
