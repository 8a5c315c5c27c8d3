-- The memory that paths pass, and what the check of memory asks of it.
use Rattle.std.specs.Prelude.{◌≡◌, ℕ, Bool, true, false, ◌||◌, ◌⊎◌, List, [], ◌∷◌, find, Option, None, Some, slice_get}
use Rattle.std.specs.List.{last_or, list_any}
use Rattle.gossa_base.specs.declared.ids.ValueId.{ValueId}
use Rattle.ssa_ir.specs.declared.func.Block.{Block}
use Rattle.ssa_ir.specs.declared.func.Func.{Func}
use Rattle.ssa_ir.specs.declared.func.Kind.{Kind}
use Rattle.ssa_ir.specs.declared.func.Kind.TheVariants.{Exit}
use Rattle.ssa_ir.specs.declared.func.Value.{Value}
use Rattle.ssa_ir.specs.FirstOrder.{same_memory}
use Rattle.ssa_ir.specs.OpKinds.{reads_memory, is_init, is_result}
use Rattle.ssa_ir.specs.MemoryChains.{Chained, IsLast, has_definer, is_inner, is_memory_phi, takes, takes_inner}
use Rattle.ssa_ir.specs.Paths.{IsPath, Reached}
use Rattle.ssa_ir.specs.Edges.{is_entry}

-- ---- the memory of paths

-- the memory passed on a path: the last definer of the last block on it that has a definer. There is none where that
-- block isn't chained
abbrev pub Passes : Func → List Block → ValueId → Type 0
Passes f [] memory = ⊥
Passes f (b ∷ before) memory =
    ((has_definer b ≡ true) × IsLast f b memory) ⊎ ((has_definer b ≡ false) × Passes f before memory)

-- one memory is passed on all paths to the beginning of a block
abbrev pub AllPass : Func → Block → ValueId → Type 0
AllPass f b memory = (before : List Block) → IsPath f (b ∷ before) → Passes f before memory

-- the memory at the beginning of the entry
abbrev pub IsInit : Option Value → ValueId → Type 0
IsInit None memory = ⊥
IsInit (Some v) memory = v.id ≡ memory

-- the incoming memory of a block without memory phi: in the entry InitMem, else what all paths pass
abbrev pub ComesIn : Bool → Func → Block → ValueId → Type 0
ComesIn true f b memory = IsInit (find (λ v. is_init v.op) b.values) memory
ComesIn false f b memory = AllPass f b memory

abbrev pub IsIncomingBy : Option Value → Func → Block → ValueId → Type 0
IsIncomingBy (Some phi) f b memory = phi.id ≡ memory
IsIncomingBy None f b memory = ComesIn (is_entry f b) f b memory

-- the incoming memory of a block: its memory phi where it has one
abbrev pub IsIncoming : Func → Block → ValueId → Type 0
IsIncoming f b memory = IsIncomingBy (find is_memory_phi b.values) f b memory

-- the memory at the end of a block: its last definer, or the incoming one where it has none
abbrev pub IsOutgoing : Func → Block → ValueId → Type 0
IsOutgoing f b memory =
    ((has_definer b ≡ true) × IsLast f b memory) ⊎ ((has_definer b ≡ false) × IsIncoming f b memory)

-- ---- which blocks use memory

abbrev pub is_exit : Kind → Bool
is_exit Exit = true
is_exit _ = false

abbrev pub uses_memory : Block → Bool
uses_memory b = list_any (λ v. is_inner v || reads_memory v.op || is_result v.op) b.values || is_exit b.kind

-- a reached block that uses memory, is chained and has an incoming memory: its values and its control are asked what
-- they take
pub record Asked (f : Func) (b : Block) (incoming : ValueId) : Type 0 where
  pub reached : Reached f b
  pub uses : uses_memory b ≡ true
  pub chained : Chained f b
  pub comes : IsIncoming f b incoming

-- a value, by its last argument, or a control doesn't take the memory at the end of the block
abbrev pub TakesOther : Func → Block → Option ValueId → Type 0
TakesOther f b taken = (memory : ValueId) → IsOutgoing f b memory → same_memory taken (Some memory) ≡ false

-- ---- what fails

-- the first inner definer doesn't take the incoming memory
pub record FirstFails (f : Func) (b : Block) (v : Value) : Type 0 where
  pub incoming : ValueId
  pub asked : Asked f b incoming
  pub inner : is_inner v ≡ true
  pub first : takes_inner f b v ≡ false
  pub other : takes f v incoming ≡ false

-- a reader takes neither the incoming memory nor that of an inner definer of the block
pub record ReaderFails (f : Func) (b : Block) (v : Value) : Type 0 where
  pub incoming : ValueId
  pub asked : Asked f b incoming
  pub reads : reads_memory v.op ≡ true
  pub not_inner : takes_inner f b v ≡ false
  pub other : takes f v incoming ≡ false

-- a result doesn't take the memory at the end of its block
pub record ResultFails (f : Func) (b : Block) (v : Value) : Type 0 where
  pub incoming : ValueId
  pub asked : Asked f b incoming
  pub result : is_result v.op ≡ true
  pub other : TakesOther f b (last_or None v.args)

-- argument k of a memory phi isn't what some path passed that came from predecessor k
pub record MemoryPhiFails (f : Func) (b : Block) (v : Value) : Type 0 where
  pub phi : is_memory_phi v ≡ true
  pub k : ℕ
  pub arg : ValueId
  pub is_arg : slice_get v.args k ≡ Some arg
  pub source : Block
  pub is_source : slice_get b.preds k ≡ Some source.id
  pub before : List Block
  pub is_path : IsPath f (b ∷ source ∷ before)
  pub other : Passes f (source ∷ before) arg → ⊥

abbrev pub MemoryValueFails : Func → Block → Value → Type 0
MemoryValueFails f b v = FirstFails f b v ⊎ ReaderFails f b v ⊎ ResultFails f b v ⊎ MemoryPhiFails f b v

-- a control that exits doesn't take the memory at the end of its block
pub record ExitFails (f : Func) (b : Block) : Type 0 where
  pub incoming : ValueId
  pub asked : Asked f b incoming
  pub exits : is_exit b.kind ≡ true
  pub other : TakesOther f b b.control

-- a reached block isn't chained, or uses memory and has no incoming one, or exits with another
abbrev pub MemoryBlockFails : Func → Block → Type 0
MemoryBlockFails f b =
    (Reached f b × (Chained f b → ⊥))
    ⊎ (Reached f b × (uses_memory b ≡ true) × ((memory : ValueId) → IsIncoming f b memory → ⊥))
    ⊎ ExitFails f b
