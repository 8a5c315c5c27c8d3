-- The last definer passed: the values of a block run in first order, and each InitMem, memory phi, store and memory
-- select makes its memory the current one. (A call makes none itself; its memory select, which stands with it, does.)
use Rattle.std.specs.Prelude.{◌≡◌, ℕ, Bool, true, ◌||◌, if◌then◌else◌, List, [], ◌∷◌, ◌++◌, Option, None, Some}
use Rattle.std.specs.Prelude.{slice_get}
use Rattle.std.specs.List.{All, Contains, last_or}
use Rattle.gossa_base.specs.declared.ids.ValueId.{ValueId}
use Rattle.ssa_ir.specs.declared.op.Op.{Op}
use Rattle.ssa_ir.specs.declared.func.Block.{Block}
use Rattle.ssa_ir.specs.declared.func.Func.{Func}
use Rattle.ssa_ir.specs.declared.func.SsaUnit.{SsaUnit}
use Rattle.ssa_ir.specs.declared.func.Value.{Value}
use Rattle.ssa_ir.specs.FirstOrder.{first_order}
use Rattle.ssa_ir.specs.OpKinds.{is_call, reads_memory, is_result}
use Rattle.ssa_ir.specs.MemoryChains.{is_definer, is_memory_phi, is_store}
use Rattle.ssa_ir.specs.MemoryPaths.{Passes, is_exit}
use Rattle.accepted_laws.specs.PathLaws.{AcceptedFunc}
use Rattle.ssa_ir.specs.Paths.{IsPath}

-- the current memory behind a value
abbrev pub memory_behind : Option ValueId → Value → Option ValueId
memory_behind memory v = if is_definer v then Some v.id else memory

-- the last definer among values in order, or the memory that was current before them
abbrev pub last_passed : (memory : Option ValueId) → List Value → Option ValueId
last_passed memory [] = memory
last_passed memory (v ∷ values) = last_passed (memory_behind memory v) values

-- the last definer on a path. The newest block stands first
abbrev pub last_on_path : List Block → Option ValueId
last_on_path [] = None
last_on_path (b ∷ before) = last_passed (last_on_path before) (first_order b.values)

-- the ops that name a memory by their last argument: readers, stores, calls and results
abbrev pub names_memory : Op → Bool
names_memory op = reads_memory op || is_store op || is_call op || is_result op

-- a memory is named, and it is the last definer
pub record NamesLast (last named : Option ValueId) : Type 0 where
  pub memory : ValueId
  pub is_named : named ≡ Some memory
  pub is_last : last ≡ Some memory

-- along any path to a block: each of its values has its place in first order; what names a memory names the last
-- definer before it, in the block or on the way to it; results and exits name the last one at the end; and that one is
-- passed on
pub record LastDefiner (f : Func) (b : Block) (before : List Block) : Type 0 where
  pub each_stands : All (Contains (first_order b.values)) b.values
  pub value : (front : List Value) (v : Value) (rest : List Value) → first_order b.values ≡ front ++ v ∷ rest
      → names_memory v.op ≡ true → NamesLast (last_passed (last_on_path before) front) (last_or None v.args)
  pub result : (v : Value) → Contains b.values v → is_result v.op ≡ true
      → NamesLast (last_on_path (b ∷ before)) (last_or None v.args)
  pub exit : is_exit b.kind ≡ true → NamesLast (last_on_path (b ∷ before)) b.control
  pub passed : (memory : ValueId) → Passes f (b ∷ before) memory → last_on_path (b ∷ before) ≡ Some memory

-- a memory phi names, by the argument of each predecessor, the last definer on the path that came from there
abbrev pub PhiNamesLast : Func → Block → Type 0
PhiNamesLast f b =
    (v : Value) (k : ℕ) (arg : ValueId) (source : Block) (before : List Block) → Contains b.values v
    → is_memory_phi v ≡ true → slice_get v.args k ≡ Some arg → slice_get b.preds k ≡ Some source.id
    → IsPath f (b ∷ source ∷ before) → last_on_path (source ∷ before) ≡ Some arg

abbrev pub LastDefinerIsNamed : Type 0
LastDefinerIsNamed =
    (u : SsaUnit) (f : Func) → AcceptedFunc u f → (b : Block) → Contains f.blocks b
    → ((before : List Block) → IsPath f (b ∷ before) → LastDefiner f b before) × PhiNamesLast f b
