use Rattle.std.proofs.Common.{◌≡◌, ◌+◌, drop}
use Rattle.sum_compile.specs.NarrowTest.{are_steps}
use Rattle.sum_compile.proofs.narrow.are_steps.Given as goal

-- the values so far are steps, so that the rest decides
abbrev pub invariant-loop-index : goal.invariant-loop-index
invariant-loop-index l = are_steps l.params (2 + l.index) (drop l.index l.steps) ≡ are_steps l.params 2 l.steps
