use Rattle.std.proofs.Common.{◌≡◌, find, drop}
use Rattle.ssa_ir.specs.Lookups.{is_of}
use Rattle.ssa_ir.proofs.lookups.sig_in.Given as goal

-- none so far has the name
abbrev pub invariant-loop-sig : goal.invariant-loop-sig
invariant-loop-sig l = find (is_of l.name) l.sigs ≡ find (is_of l.name) (drop l.sig-index l.sigs)
