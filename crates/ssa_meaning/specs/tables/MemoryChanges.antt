-- A memory that is changed in place, and what stood there when changes were last marked.
use Rattle.std.specs.Prelude.{ℕ, List, [], ◌∷◌, Option, None, Some}
use Rattle.std.specs.FinMap as finite
use Rattle.gossa_base.specs.Memory.{Memory}
use Rattle.ssa_meaning.specs.declared.memory.RunMemory.{RunMemory}

-- a memory with these bytes put back: an address that had none has none again
abbrev pub put_back : Memory → List (ℕ × Option ℕ) → Memory
put_back m [] = m
put_back m ((a, None) ∷ before) = put_back (finite.remove m a) before
put_back m ((a, Some b) ∷ before) = put_back (finite.insert m a b) before

-- the memory now
abbrev pub memory_of : RunMemory → Memory
memory_of m = finite.from_entries m.bytes.entries

-- the memory from which changes are counted
abbrev pub since_of : RunMemory → Memory
since_of m = put_back (memory_of m) m.before.entries
