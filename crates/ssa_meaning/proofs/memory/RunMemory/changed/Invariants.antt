use Rattle.std.proofs.Common.{◌≡◌, ◌++◌}
use Rattle.ssa_meaning.specs.tables.MemoryChanges.{memory_of}
use Rattle.ssa_meaning.proofs.MemoryChangedLemmas.{changes_in}
use Rattle.ssa_meaning.proofs.memory.RunMemory.changed.Given as goal

-- the changes so far and those of the entries left are the changes of all entries
abbrev pub invariant-loop-address : goal.invariant-loop-address
invariant-loop-address l =
    l.changes ++ changes_in (memory_of l.self) l.address-iterator ≡ changes_in (memory_of l.self) l.self.before.entries
