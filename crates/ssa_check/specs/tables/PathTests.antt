-- What the tests of memory stand on: what is found of the blocks of one function, and a block of it.
use Rattle.std.specs.Prelude.{◌≡◌, length}
use Rattle.std.specs.List.{Contains}
use Rattle.ssa_ir.specs.declared.func.Block.{Block}
use Rattle.ssa_check.specs.declared.memory.MemoryTest.{MemoryTest}
use Rattle.ssa_tables.specs.Blocks.{preds_of}

-- what is found is one for each block of the function, which has this block
abbrev pub HasMemories : MemoryTest → Block → Type 0
HasMemories t b =
    (length t.passed.now ≡ length (preds_of t.tables.now)) × (length t.memories.now ≡ length t.tables.now.blocks)
    × Contains t.tables.now.blocks b
