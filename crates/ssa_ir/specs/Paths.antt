-- Paths of blocks: each begins with the entry, and goes on with a successor of its newest block. The newest block
-- stands first.
use Rattle.std.specs.Prelude.{◌≡◌, Bool, true, List, [], ◌∷◌}
use Rattle.std.specs.List.{Contains, list_any}
use Rattle.ssa_ir.specs.declared.func.Block.{Block}
use Rattle.ssa_ir.specs.declared.func.Func.{Func}
use Rattle.ssa_ir.specs.Edges.{same_block, is_entry}

-- an edge leads from one block to another, or back to itself
abbrev pub goes_to : (source target : Block) → Bool
goes_to source target = list_any (λ id. same_block id target.id) source.succs

abbrev pub IsPath : Func → List Block → Type 0
IsPath f [] = ⊥
IsPath f (b ∷ []) = Contains f.blocks b × (is_entry f b ≡ true)
IsPath f (b ∷ a ∷ before) = Contains f.blocks b × (goes_to a b ≡ true) × IsPath f (a ∷ before)

-- some path leads to a block
pub record Reached (f : Func) (b : Block) : Type 0 where
  pub before : List Block
  pub is_path : IsPath f (b ∷ before)
