use Rattle.std.proofs.Common.{◌≡◌, ◌+◌, ◌-◌}
use Rattle.gossa_base.specs.Memory.{write_bytes, bytes_of}
use Rattle.ssa_meaning.specs.tables.MemoryChanges.{memory_of, since_of}
use Rattle.ssa_meaning.proofs.memory.RunMemory.store.Given as goal

-- with the bytes left, the memory is as with all
abbrev pub invariant-loop-i : goal.invariant-loop-i
invariant-loop-i l = record {
  memory : write_bytes (memory_of l.self) (l.address + l.i) (bytes_of l.left (l.count - l.i))
      ≡ write_bytes (memory_of l.fn.self) l.address (bytes_of l.word l.count);
  since : since_of l.self ≡ since_of l.fn.self;
}
