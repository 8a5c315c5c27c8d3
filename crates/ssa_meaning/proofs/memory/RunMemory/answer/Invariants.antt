use Rattle.std.proofs.Common.{◌≡◌, drop}
use Rattle.gossa_base.specs.Memory.{write_pieces}
use Rattle.ssa_ir.specs.Inputs.{pieces_of}
use Rattle.ssa_meaning.specs.tables.MemoryChanges.{memory_of}
use Rattle.ssa_meaning.proofs.memory.RunMemory.answer.Given as goal

-- with the pieces left, the memory is as with all
abbrev pub invariant-loop-piece : goal.invariant-loop-piece
invariant-loop-piece l =
    write_pieces (memory_of l.self) (pieces_of (drop l.piece-index l.pieces))
    ≡ write_pieces (memory_of l.fn.self) (pieces_of l.pieces)
