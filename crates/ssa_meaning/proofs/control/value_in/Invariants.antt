use Rattle.std.proofs.Common.{◌≡◌, find, drop}
use Rattle.ssa_ir.specs.Lookups.{is_numbered}
use Rattle.ssa_meaning.proofs.control.value_in.Given as goal

-- none so far has the number
abbrev pub invariant-loop-value : goal.invariant-loop-value
invariant-loop-value l = find (is_numbered l.id) l.values ≡ find (is_numbered l.id) (drop l.value-index l.values)
