-- What the check of memory finds of each block, by the paths to it and what it leaves, and its tests by that.
use Rattle.std.specs.Prelude.{◌≡◌, ℕ, Bool, true, false, not, ◌&&◌, ◌||◌, if◌then◌else◌, List, [], ◌∷◌, length, find}
use Rattle.std.specs.Prelude.{is_none, is_some, Option, None, Some, slice_get, slice_index_or}
use Rattle.std.specs.List.{last_or, list_any}
use Rattle.std.specs.Option.{option_map, option_or}
use Rattle.gossa_base.specs.declared.ids.ValueId.{ValueId}
use Rattle.ssa_ir.specs.declared.func.Block.{Block}
use Rattle.ssa_ir.specs.declared.func.Func.{Func}
use Rattle.ssa_ir.specs.declared.func.Value.{Value}
use Rattle.ssa_ir.specs.FirstOrder.{same_memory, same_value}
use Rattle.ssa_ir.specs.OpKinds.{reads_memory, is_init, is_result}
use Rattle.ssa_check.specs.declared.memories.Leaves.{Leaves}
use Rattle.ssa_check.specs.declared.memories.Leaves.TheVariants.{Through, Unknown}
use Rattle.ssa_check.specs.declared.memories.Passed.{Passed}
use Rattle.ssa_check.specs.declared.memories.Passed.TheVariants.{NoPath, Always, Varies}
use Rattle.ssa_check.specs.declared.memory.BlockMemory.{BlockMemory}
use Rattle.ssa_check.specs.declared.refusal.At.{At}
use Rattle.ssa_check.specs.tables.ChainTables.{LeavesOf}
use Rattle.ssa_check.specs.Failing.{at_block, at_value}
use Rattle.ssa_tables.specs.Blocks.{index_in, preds_at, preds_of}
use Rattle.ssa_ir.specs.MemoryChains.{inner_of, is_inner, is_memory_phi, takes, takes_inner}
use Rattle.ssa_ir.specs.MemoryPaths.{AllPass, is_exit, uses_memory}
use Rattle.ssa_check.specs.tables.PassedMemories.{left_by}
use Rattle.ssa_ir.specs.Paths.{Reached}
use Rattle.ssa_ir.specs.Edges.{is_entry}

-- ---- what is found of a block

-- the number of the first value that passes a test
abbrev pub first_number : (Value → Bool) → List Value → Option ValueId
first_number test values = option_map (λ v. v.id) (find test values)

abbrev pub is_start : Value → Bool
is_start v = is_init v.op

-- the one memory of all paths, where there is one
abbrev pub always : Passed → Option ValueId
always NoPath = None
always (Always memory) = Some memory
always Varies = None

-- what comes to a block without memory phi: in the entry InitMem, else the memory of all paths
abbrev pub comes_by : Bool → List Value → Passed → Option ValueId
comes_by true values before = first_number is_start values
comes_by false values before = always before

abbrev pub incoming_of : Func → Block → Passed → Option ValueId
incoming_of f b before = option_or (first_number is_memory_phi b.values) (comes_by (is_entry f b) b.values before)

-- what is said of the paths to a block
abbrev pub SaysPaths : Func → Block → Passed → Type 0
SaysPaths f b NoPath = Reached f b → ⊥
SaysPaths f b (Always memory) = Reached f b × AllPass f b memory
SaysPaths f b Varies = Reached f b × ((memory : ValueId) → AllPass f b memory → ⊥)

-- what is found of a block is so
pub record IsMemoryOf (f : Func) (b : Block) (m : BlockMemory) : Type 0 where
  pub says : SaysPaths f b m.before
  pub leaves : LeavesOf f b m.leaves
  pub uses : m.uses ≡ uses_memory b
  pub incoming : m.incoming ≡ incoming_of f b m.before

-- each of these is said of the block of its index
abbrev pub EachOf : {X : Type 0} → (Block → X → Type 0) → List Block → List X → Type 0
EachOf {X} Says blocks xs =
    (i : ℕ) (b : Block) (x : X) → slice_get blocks i ≡ Some b → slice_get xs i ≡ Some x → Says b x

abbrev pub AreLeaves : Func → List Leaves → Type 0
AreLeaves f leaves = (length leaves ≡ length f.blocks) × EachOf (LeavesOf f) f.blocks leaves

abbrev pub AreMemories : Func → List BlockMemory → Type 0
AreMemories f memories = (length memories ≡ length f.blocks) × EachOf (IsMemoryOf f) f.blocks memories

-- of a block that isn't there
abbrev pub no_memory : BlockMemory
no_memory = record { before = NoPath; leaves = Through; uses = false; incoming = None }

abbrev pub memory_in : Func → List BlockMemory → Block → BlockMemory
memory_in f memories b = slice_index_or memories (index_in f.blocks b.id) no_memory

-- ---- tests

abbrev pub is_reached : Passed → Bool
is_reached NoPath = false
is_reached _ = true

abbrev pub is_chained : Leaves → Bool
is_chained Unknown = false
is_chained _ = true

-- the memory that comes to a block whose values and control are asked what they take
abbrev pub asked_of : BlockMemory → Option ValueId
asked_of m = if is_reached m.before && (m.uses && is_chained m.leaves) then m.incoming else None

-- the memory at the end of a block
abbrev pub outgoing_of : BlockMemory → Option ValueId
outgoing_of m = left_by m.leaves m.incoming

-- an inner definer of the block has this number
abbrev pub has_inner : Block → ValueId → Bool
has_inner b id = list_any (λ d. same_value id d.id) (inner_of b)

-- a value takes neither this memory nor one that the block makes
abbrev pub takes_other : Func → Block → Value → Option ValueId → Bool
takes_other f b v None = false
takes_other f b v (Some memory) = not (takes_inner f b v) && not (takes f v memory)

-- a first inner definer or a reader takes another memory than it must
abbrev pub taker_fails : Func → Block → Value → BlockMemory → Bool
taker_fails f b v m = (is_inner v || reads_memory v.op) && takes_other f b v (asked_of m)

-- what ends a block takes another memory than the one there
abbrev pub ends_otherwise : Option ValueId → BlockMemory → Bool
ends_otherwise taken m = is_some (asked_of m) && not (same_memory taken (outgoing_of m))

abbrev pub result_fails : Value → BlockMemory → Bool
result_fails v m = is_result v.op && ends_otherwise (last_or None v.args) m

-- some path passes another memory than this one
abbrev pub is_other : Passed → ValueId → Bool
is_other NoPath arg = false
is_other (Always memory) arg = not (same_value arg memory)
is_other Varies arg = true

-- an argument isn't the memory of all paths through the predecessor of its place
abbrev pub some_other : (passed : List Passed) → (preds : List ℕ) → (args : List ValueId) → Bool
some_other passed [] args = false
some_other passed (p ∷ preds) [] = false
some_other passed (p ∷ preds) (a ∷ args) = is_other (slice_index_or passed p NoPath) a || some_other passed preds args

abbrev pub phi_fails : Func → List Passed → Block → Value → Bool
phi_fails f passed b v = is_memory_phi v && some_other passed (preds_at (preds_of f) (index_in f.blocks b.id)) v.args

abbrev pub value_fails : Func → List Passed → BlockMemory → Block → Value → Bool
value_fails f passed m b v = taker_fails f b v m || (result_fails v m || phi_fails f passed b v)

-- a reached block isn't chained
abbrev pub is_loose : BlockMemory → Bool
is_loose m = is_reached m.before && not (is_chained m.leaves)

-- a reached block uses memory, and none comes
abbrev pub lacks_memory : BlockMemory → Bool
lacks_memory m = is_reached m.before && (m.uses && is_none m.incoming)

abbrev pub block_fails : Block → BlockMemory → Bool
block_fails b m = is_loose m || (lacks_memory m || (is_exit b.kind && ends_otherwise b.control m))

-- the place of a value, or else of a block
abbrev pub either_place : Option ℕ → Option ℕ → Option At
either_place value block = option_or (at_value value) (at_block block)
