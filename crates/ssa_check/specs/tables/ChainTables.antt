-- What is found of the memories of one block.
use Rattle.std.specs.Prelude.{◌≡◌, true, false}
use Rattle.ssa_ir.specs.declared.func.Block.{Block}
use Rattle.ssa_ir.specs.declared.func.Func.{Func}
use Rattle.ssa_check.specs.declared.memories.Leaves.{Leaves}
use Rattle.ssa_check.specs.declared.memories.Leaves.TheVariants.{Through, Known, Unknown}
use Rattle.ssa_ir.specs.MemoryChains.{Chained, IsLast, has_definer}

-- what a block leaves: the memory that came, where it has no definer; its last definer; or no memory, where it isn't
-- chained
abbrev pub LeavesOf : Func → Block → Leaves → Type 0
LeavesOf f b Through = has_definer b ≡ false
LeavesOf f b (Known id) = (has_definer b ≡ true) × IsLast f b id
LeavesOf f b Unknown = (has_definer b ≡ true) × (Chained f b → ⊥)
