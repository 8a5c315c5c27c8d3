use Rattle.std.proofs.Common.{◌≡◌, ◌+◌, drop}
use Rattle.gossa_base.specs.Memory.{write_bytes}
use Rattle.ssa_meaning.specs.tables.MemoryChanges.{memory_of}
use Rattle.ssa_meaning.proofs.memory.RunMemory.write_piece.Given as goal

-- with the bytes left, the memory is as with all
abbrev pub invariant-loop-i : goal.invariant-loop-i
invariant-loop-i l =
    write_bytes (memory_of l.self) (l.address + l.i) (drop l.i l.bytes)
    ≡ write_bytes (memory_of l.fn.self) l.address l.bytes
