use Rattle.std.proofs.Common.{take}
use Rattle.std.specs.List.{All}
use Rattle.sum_compile.specs.Narrow.{Narrow}
use Rattle.sum_compile.proofs.narrow.all_narrow.Given as goal

-- the functions so far are narrow
abbrev pub invariant-loop-func : goal.invariant-loop-func
invariant-loop-func l = All Narrow (take l.func-index l.funcs)
