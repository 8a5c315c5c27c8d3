use Rattle.std.proofs.Common.{◌≡◌, ◌++◌, take}
use Rattle.gossa_core.proofs.run.push_sigs.Given as goal

-- the signatures so far stand behind the others
abbrev pub invariant-loop-sig : goal.invariant-loop-sig
invariant-loop-sig l = l.all.items ≡ l.fn.all.items ++ take l.sig-index l.sigs
