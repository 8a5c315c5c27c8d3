use Rattle.std.proofs.Common.{◌≡◌, ◌+◌, ap, ◌∙◌, refl}
use Rattle.gossa_base.specs.Words.{low}
use Rattle.ssa_meaning.specs.tables.MemoryChanges.{memory_of}
use Rattle.ssa_meaning.proofs.MemoryLemmas.{byte_stored}
use Rattle.ssa_meaning.proofs.memory.RunMemory.store.Goals as goal

pub loop-i-preserved : goal.loop-i-preserved
loop-i-preserved c =
    let before = c.loop-i in
    let at : low 64 (c.args.address + c.from.result) ≡ low 64 (c.args.address + before.i)
    = ap (λ k. low 64 (c.args.address + k)) c.from.ensures in
    let m = memory_of before.self in
    let n = memory_of c.store_byte.new.self in
    record {
      memory = byte_stored m n _ c.args.address before.left before.i
          c.args.count _ _ c.loop-i-test.true at refl c.in_ok-store_byte.ensures.memory before.invariant.memory;
      since = c.in_ok-store_byte.ensures.since ∙ before.invariant.since;
    }
