use Rattle.std.proofs.Common.{◌≡◌, drop}
use Rattle.ssa_check.specs.tables.MemoryTables.{some_other}
use Rattle.ssa_check.proofs.memory.some_other.Given as goal

-- some argument left is another memory exactly where some of all is
abbrev pub invariant-loop-i : goal.invariant-loop-i
invariant-loop-i l = some_other l.passed (drop l.i l.preds) (drop l.i l.args) ≡ some_other l.passed l.preds l.args
