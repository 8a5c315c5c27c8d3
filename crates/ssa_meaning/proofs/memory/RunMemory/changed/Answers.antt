use Rattle.std.specs.Map.Iter.{deref_pair}
use Rattle.std.proofs.lemmas.Map.Iter.{rest_all}
use Rattle.ssa_meaning.specs.tables.MemoryChanges.{memory_of}
use Rattle.ssa_meaning.proofs.MemoryChangedLemmas.{all_told}
use Rattle.ssa_meaning.proofs.memory.RunMemory.changed.Goals as goal

pub returns : goal.returns
returns c =
    let memory = c.args.self.now in
    let loop = c.loop-address in
    let left = loop.address-iterator in
    let none = rest_all deref_pair left c.next.new.self c.next.result c.in-None.is c.next.ensures.steps in
    all_told (memory_of memory) loop.changes left memory.before.entries
    c.into_iter-address-iterator.ensures.into_iter_gives.5 none loop.invariant
