-- Entering a block: all its phis at once take the words of their arguments.
use Rattle.std.specs.Prelude.{ℕ, List, Option, None, Some, slice_index_or}
use Rattle.gossa_base.specs.declared.ids.ValueId.{ValueId}
use Rattle.ssa_ir.specs.declared.op.Op.{Op}
use Rattle.ssa_ir.specs.declared.op.Op.TheVariants.{Phi}
use Rattle.ssa_ir.specs.declared.func.Value.{Value}
use Rattle.ssa_ir.specs.Lookups.{value_named}

-- the value whose word a value takes where its block is entered by edge k: a phi argument k, and any other itself. Phis
-- of memory play no part: the run passes one memory along, and the word of each memory value stays 0
abbrev pub source_by_op : ℕ → ValueId → List ValueId → Op → ValueId
source_by_op k id args Phi = slice_index_or args k id
source_by_op k id args _ = id

abbrev pub source_of : ℕ → ℕ → Option Value → ℕ
source_of k n None = n
source_of k n (Some v) = (source_by_op k v.id v.args v.op).0

-- the words as the phis among these values leave them: each is read from the words before; from outside no phi is
-- entered
abbrev pub entered : List Value → Option ℕ → (ℕ → ℕ) → ℕ → ℕ
entered values None words n = words n
entered values (Some k) words n = words (source_of k n (value_named values (record { 0 = n })))
