use Rattle.std.proofs.Common.{◌≡◌, drop}
use Rattle.sum_compile.specs.NarrowTest.{take_new, no_flags}
use Rattle.sum_compile.proofs.narrow.takes_once.Given as goal

-- the values so far take each parameter once, so that the rest decides
abbrev pub invariant-loop-value : goal.invariant-loop-value
invariant-loop-value l = take_new l.taken (drop l.value-index l.steps) ≡ take_new no_flags l.steps
