use Rattle.std.proofs.Common.{◌≡◌, drop, replicate, None}
use Rattle.sum_compile.specs.tables.Parameters.{noted_all}
use Rattle.sum_compile.proofs.plain.parameters.Given as goal

-- noting the rest notes all
abbrev pub invariant-loop-value : goal.invariant-loop-value
invariant-loop-value l =
    noted_all l.ids.items (drop l.value-index l.values) ≡ noted_all (replicate l.count None) l.values
