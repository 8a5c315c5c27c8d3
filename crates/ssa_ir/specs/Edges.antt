-- Blocks by name, the entry, and the edges between blocks.
use Rattle.std.specs.Prelude.{ℕ, zero, suc, ◌==◌, Bool, true, false, ◌&&◌, if◌then◌else◌, List, [], ◌∷◌, find, Option}
use Rattle.std.specs.Bool.{beq}
use Rattle.gossa_base.specs.declared.ids.BlockId.{BlockId}
use Rattle.ssa_ir.specs.declared.func.Block.{Block}
use Rattle.ssa_ir.specs.declared.func.Func.{Func}

abbrev pub same_block : BlockId → BlockId → Bool
same_block a b = (a.n == b.n) && beq a.split b.split

-- the block of a name
abbrev pub block_named : List Block → BlockId → Option Block
block_named blocks id = find (λ b. same_block b.id id) blocks

-- the entry is the first block
abbrev pub is_first_of : List Block → Block → Bool
is_first_of [] b = false
is_first_of (entry ∷ blocks) b = same_block entry.id b.id

abbrev pub is_entry : Func → Block → Bool
is_entry f b = is_first_of f.blocks b

-- how often a block stands among the first j of these
abbrev pub times_before : List BlockId → ℕ → BlockId → ℕ
times_before [] j id = 0
times_before (b ∷ blocks) zero id = 0
times_before (b ∷ blocks) (suc j) id =
    if same_block b id then suc (times_before blocks j id) else times_before blocks j id

abbrev pub step_past : Bool → ℕ → (ℕ → ℕ) → ℕ
step_past true zero go = 0
step_past true (suc m) go = suc (go m)
step_past false m go = suc (go m)

-- the place at which a block stands for the m-th time, from 0
abbrev pub place_of_time : List BlockId → BlockId → ℕ → ℕ
place_of_time [] id m = 0
place_of_time (b ∷ blocks) id m = step_past (same_block b id) m (place_of_time blocks id)

-- where the edge to successor j of a block stands in the target's predecessors: the first occurrence is the yes edge
abbrev pub edge_number : (source target : Block) → ℕ → ℕ
edge_number source target j = place_of_time target.preds source.id (times_before source.succs j target.id)
