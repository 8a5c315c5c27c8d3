use Rattle.std.proofs.Common.{refl}
use Rattle.ssa_meaning.specs.tables.MemoryChanges.{memory_of}
use Rattle.ssa_meaning.proofs.MemoryLemmas.{byte_written, inserted}
use Rattle.ssa_meaning.proofs.memory.RunMemory.write_piece.Goals as goal

pub loop-i-preserved : goal.loop-i-preserved
loop-i-preserved c =
    let is = inserted c.loop-i.self.bytes.entries c.insert.new.self.entries _ _ c.in_ok-insert.ensures.updates.0 in
    byte_written (memory_of c.loop-i.self) _ _ c.args.address c.loop-i.i _ c.args.bytes.now
    c.loop-i-test.true refl is c.loop-i.invariant
