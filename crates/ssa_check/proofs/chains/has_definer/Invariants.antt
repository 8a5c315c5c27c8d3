use Rattle.std.proofs.Common.{◌≡◌, drop}
use Rattle.std.specs.List.{list_any}
use Rattle.ssa_ir.specs.MemoryChains.{is_definer}
use Rattle.ssa_check.proofs.chains.has_definer.Given as goal

-- a definer is among all values where one is among those left
abbrev pub invariant-loop-value : goal.invariant-loop-value
invariant-loop-value l = list_any is_definer (drop l.value-index l.values) ≡ list_any is_definer l.values
