use Rattle.std.proofs.Common.{◌≡◌, ◌+◌, ◌-◌}
use Rattle.gossa_base.specs.Memory.{read_number}
use Rattle.ssa_meaning.specs.tables.MemoryChanges.{memory_of}
use Rattle.ssa_meaning.proofs.memory.RunMemory.load.Given as goal

-- the number of the highest bytes
abbrev pub invariant-loop-i : goal.invariant-loop-i
invariant-loop-i l = l.number ≡ read_number (memory_of l.self) (l.address + (l.count - l.i)) l.i
