use Rattle.std.proofs.Common.{◌≡◌, ◌++◌, take}
use Rattle.std.specs.List.{flat_map}
use Rattle.ssa_ir.specs.Texts.{sig_line}
use Rattle.ssa_ir.proofs.texts.print_sigs.Given as goal

-- the lines of the signatures so far are appended
abbrev pub invariant-loop-sig : goal.invariant-loop-sig
invariant-loop-sig l = l.out.items ≡ l.fn.out.items ++ flat_map sig_line (take l.sig-index l.sigs)
