use Rattle.std.proofs.Common.{◌+◌, ◌-◌, arith}
use Rattle.ssa_meaning.specs.tables.MemoryChanges.{memory_of}
use Rattle.ssa_meaning.proofs.MemoryLemmas.{read_fits}
use Rattle.ssa_meaning.proofs.memory.RunMemory.load.Goals as goal

pub overflow_mul-number : goal.overflow_mul-number
overflow_mul-number c =
    let m = memory_of c.args.self.now in
    let at = c.args.address + (c.args.count - c.loop-i.i) in
    let below = read_fits m at c.loop-i.i 0 (omega arith) (omega arith) in
    omega (arith, below, c.loop-i.invariant)

pub overflow_add-number : goal.overflow_add-number
overflow_add-number c =
    let m = memory_of c.args.self.now in
    let at = c.args.address + (c.args.count - c.loop-i.i) in
    let below = read_fits m at c.loop-i.i c.from-in-loop-i.result (omega arith) (omega arith) in
    omega (arith, below, c.loop-i.invariant)
