-- The memories of a block: what makes one, what takes one, the chain of those that do both, and the last of them.
use Rattle.std.specs.Prelude.{◌≡◌, ◌≤◌, Bool, true, false, not, ◌&&◌, ◌||◌, if◌then◌else◌, List, [], ◌∷◌, length}
use Rattle.std.specs.Prelude.{filter, find, Option, None, Some}
use Rattle.std.specs.List.{All, Contains, last_or, list_any}
use Rattle.std.specs.Option.{option_map}
use Rattle.gossa_base.specs.declared.ids.ValueId.{ValueId}
use Rattle.ssa_ir.specs.declared.op.Op.{Op}
use Rattle.ssa_ir.specs.declared.func.Block.{Block}
use Rattle.ssa_ir.specs.declared.func.Func.{Func}
use Rattle.ssa_ir.specs.declared.func.Value.{Value}
use Rattle.ssa_ir.specs.FirstOrder.{memory_taken, same_memory}
use Rattle.ssa_ir.specs.OpKinds.{is_follower, is_phi, is_init}
use Rattle.ssa_ir.specs.Ops.{row_of}
use Rattle.ssa_ir.specs.Lookups.{named_by}
use Rattle.ssa_ir.specs.Classes.{is_memory}

-- ---- definers: InitMem, memory phis, stores, and the selects of a call's memory

abbrev pub is_memory_phi : Value → Bool
is_memory_phi v = is_phi v.op && is_memory v

abbrev pub is_store : Op → Bool
is_store op = (row_of op).makes_mem && not (is_init op)

-- stores and memory selects: they take one memory and leave another
abbrev pub is_inner : Value → Bool
is_inner v = is_store v.op || (is_follower v.op && is_memory v)

-- the definers with which a block can begin
abbrev pub begins_memory : Value → Bool
begins_memory v = is_init v.op || is_memory_phi v

abbrev pub is_definer : Value → Bool
is_definer v = begins_memory v || is_inner v

abbrev pub inner_of : Block → List Value
inner_of b = filter is_inner b.values

abbrev pub has_definer : Block → Bool
has_definer b = list_any is_definer b.values

-- ---- what they take

abbrev pub memory_of : Option Value → Option ValueId
memory_of None = None
memory_of (Some v) = memory_taken v.op v.args

-- the memory that a value takes to read or change it; a select takes that of its call
abbrev pub taken_by : Func → Value → Option ValueId
taken_by f v = if is_follower v.op then memory_of (named_by f v.args) else memory_taken v.op v.args

abbrev pub takes : Func → Value → ValueId → Bool
takes f v memory = same_memory (taken_by f v) (Some memory)

-- a value takes what an inner definer of the block leaves
abbrev pub takes_inner : Func → Block → Value → Bool
takes_inner f b v = list_any (λ d. takes f v d.id) (inner_of b)

-- ---- chains

-- behind a definer, each takes the one before it
abbrev pub AreLinked : Func → Value → List Value → Type 0
AreLinked f d [] = Unit {0}
AreLinked f d (e ∷ rest) = (takes f e d.id ≡ true) × AreLinked f e rest

-- the first takes none of the block's, and each other one the one before it
abbrev pub IsChain : Func → Block → List Value → Type 0
IsChain f b [] = Unit {0}
IsChain f b (d ∷ rest) = (takes_inner f b d ≡ false) × AreLinked f d rest

-- a block is chained: it has one memory phi at the most, and its inner definers can be listed as a chain
pub record Chained (f : Func) (b : Block) : Type 0 where
  pub one_phi : length (filter is_memory_phi b.values) ≤ 1
  pub chain : List Value
  pub within : All (Contains (inner_of b)) chain
  pub whole : All (Contains chain) (inner_of b)
  pub in_order : IsChain f b chain

-- the last of a chain; without inner definers the memory with which the block begins
abbrev pub last_definer : Block → (chain : List Value) → Option ValueId
last_definer b [] = option_map (λ v. v.id) (find begins_memory b.values)
last_definer b (d ∷ rest) = option_map (λ v. v.id) (last_or (Some d) rest)

-- the memory that a chained block leaves, where it has a definer
pub record IsLast (f : Func) (b : Block) (memory : ValueId) : Type 0 where
  pub chained : Chained f b
  pub last : last_definer b chained.chain ≡ Some memory
