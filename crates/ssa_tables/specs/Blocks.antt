-- The blocks of a function by index, from 0: the predecessors of each, and paths over indexes. The entry has index 0.
use Rattle.std.specs.Prelude.{◌≡◌, ℕ, suc, ◌<◌, ◌==◌, true, if◌then◌else◌, List, [], ◌∷◌, length, map, slice_index_or}
use Rattle.std.specs.List.{list_any, position_or_len}
use Rattle.gossa_base.specs.declared.ids.BlockId.{BlockId}
use Rattle.ssa_ir.specs.declared.func.Block.{Block}
use Rattle.ssa_ir.specs.declared.func.Func.{Func}
use Rattle.ssa_ir.specs.Edges.{same_block}

-- the index of a block; of one that isn't there, their number
abbrev pub index_in : List Block → BlockId → ℕ
index_in [] id = 0
index_in (b ∷ blocks) id = if same_block b.id id then 0 else suc (index_in blocks id)

-- the names of the blocks, in order
abbrev pub names : List Block → List BlockId
names blocks = map (λ b. b.id) blocks

abbrev pub names_of : Func → List BlockId
names_of f = names f.blocks

-- the place of a name among these; of one that isn't there, how many there are
abbrev pub place_of : List BlockId → BlockId → ℕ
place_of names id = position_or_len (λ name. same_block name id) names

-- the indexes of the predecessors of each block, in order
abbrev pub preds_of : Func → List (List ℕ)
preds_of f = map (λ b. map (index_in f.blocks) b.preds) f.blocks

abbrev pub preds_at : (preds : List (List ℕ)) → ℕ → List ℕ
preds_at preds b = slice_index_or preds b []

-- a path of indexes, the newest first: it begins with the entry, and a block is a predecessor of the one behind it
abbrev pub IsIndexPath : (preds : List (List ℕ)) → List ℕ → Type 0
IsIndexPath preds [] = ⊥
IsIndexPath preds (b ∷ []) = (b ≡ 0) × (b < length preds)
IsIndexPath preds (b ∷ a ∷ before) = (list_any (λ p. p == a) (preds_at preds b) ≡ true) × IsIndexPath preds (a ∷ before)
