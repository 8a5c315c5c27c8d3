-- What the check of memory promises to whatever reads accepted functions: the memory that a value names is made by a
-- definer of its block, or was passed on the way to it, on every path.
use Rattle.std.specs.Prelude.{◌≡◌, ℕ, Bool, true, false, ◌⊎◌, List, ◌∷◌, find, Option, None, Some, slice_get}
use Rattle.std.specs.List.{Contains, last_or}
use Rattle.gossa_base.specs.declared.ids.ValueId.{ValueId}
use Rattle.ssa_ir.specs.declared.func.Block.{Block}
use Rattle.ssa_ir.specs.declared.func.Func.{Func}
use Rattle.ssa_ir.specs.declared.func.SsaUnit.{SsaUnit}
use Rattle.ssa_ir.specs.declared.func.Value.{Value}
use Rattle.ssa_ir.specs.OpKinds.{reads_memory, is_init, is_result}
use Rattle.ssa_ir.specs.MemoryChains.{Chained, IsLast, has_definer, is_inner, is_memory_phi, taken_by, takes_inner}
use Rattle.ssa_ir.specs.MemoryPaths.{IsInit, Passes, is_exit}
use Rattle.accepted_laws.specs.PathLaws.{AcceptedFunc}
use Rattle.ssa_ir.specs.Paths.{IsPath}
use Rattle.ssa_ir.specs.Edges.{is_entry}

-- the memory with which a block without memory phi begins: in the entry InitMem, else what was passed on the way to it
abbrev pub Starts : Bool → Func → Block → (before : List Block) → ValueId → Type 0
Starts true f b before memory = IsInit (find (λ v. is_init v.op) b.values) memory
Starts false f b before memory = Passes f before memory

abbrev pub BeginsBy : Option Value → Func → Block → (before : List Block) → ValueId → Type 0
BeginsBy (Some phi) f b before memory = phi.id ≡ memory
BeginsBy None f b before memory = Starts (is_entry f b) f b before memory

-- the memory with which a block begins: its memory phi where it has one
abbrev pub Begins : Func → Block → (before : List Block) → ValueId → Type 0
Begins f b before memory = BeginsBy (find is_memory_phi b.values) f b before memory

-- a value takes the memory with which the block begins, or that of an inner definer of the block. (In first order it is
-- the last one before it.)
pub record TakesPassed (f : Func) (b : Block) (before : List Block) (v : Value) : Type 0 where
  pub memory : ValueId
  pub taken : taken_by f v ≡ Some memory
  pub passed : (takes_inner f b v ≡ true) ⊎ Begins f b before memory

-- the memory at the end of a block: its last definer, or that with which it begins
abbrev pub Ends : Func → Block → (before : List Block) → ValueId → Type 0
Ends f b before memory =
    ((has_definer b ≡ true) × IsLast f b memory) ⊎ ((has_definer b ≡ false) × Begins f b before memory)

pub record TakesEnd (f : Func) (b : Block) (before : List Block) (taken : Option ValueId) : Type 0 where
  pub memory : ValueId
  pub is_taken : taken ≡ Some memory
  pub at_end : Ends f b before memory

-- along any path to a block: its definers are one chain; readers, stores and memory selects, which take the memory of
-- their call, take what was passed; results and exits take the memory at the end
pub record MemoryIsPassed (f : Func) (b : Block) (before : List Block) : Type 0 where
  pub chained : Chained f b
  pub reader : (v : Value) → Contains b.values v → reads_memory v.op ≡ true → TakesPassed f b before v
  pub inner : (v : Value) → Contains b.values v → is_inner v ≡ true → TakesPassed f b before v
  pub result : (v : Value) → Contains b.values v → is_result v.op ≡ true → TakesEnd f b before (last_or None v.args)
  pub exit : is_exit b.kind ≡ true → TakesEnd f b before b.control

-- a memory phi takes what was passed on the way that came
abbrev pub PhiIsPassed : Func → Block → Type 0
PhiIsPassed f b =
    (v : Value) (k : ℕ) (arg : ValueId) (source : Block) (before : List Block) → Contains b.values v
    → is_memory_phi v ≡ true
    → slice_get v.args k ≡ Some arg → slice_get b.preds k ≡ Some source.id → IsPath f (b ∷ source ∷ before)
    → Passes f (source ∷ before) arg

abbrev pub MemoryIsOne : Type 0
MemoryIsOne =
    (u : SsaUnit) (f : Func) → AcceptedFunc u f → (b : Block) → Contains f.blocks b
    → ((before : List Block) → IsPath f (b ∷ before) → MemoryIsPassed f b before) × PhiIsPassed f b

-- and a path passes one memory at the most
abbrev pub OneIsPassed : Type 0
OneIsPassed =
    (u : SsaUnit) (f : Func) → AcceptedFunc u f → (path : List Block) → IsPath f path → (x y : ValueId)
    → Passes f path x
    → Passes f path y → x ≡ y
