use Rattle.std.proofs.Common.{◌≡◌, ◌++◌, drop}
use Rattle.sum_compile.specs.tables.Parameters.{held_from}
use Rattle.sum_compile.proofs.plain.held_registers.Given as goal

-- the registers so far, and those of the rest, are those of all
abbrev pub invariant-loop-register : goal.invariant-loop-register
invariant-loop-register l = l.held ++ held_from l.register (drop l.register l.ids) ≡ held_from 0 l.ids
