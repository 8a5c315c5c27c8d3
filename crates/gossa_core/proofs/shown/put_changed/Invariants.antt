use Rattle.std.proofs.Common.{◌≡◌, ◌++◌, length}
use Rattle.gossa_core.specs.ShownText.{changed_text}
use Rattle.gossa_core.proofs.shown.put_changed.Given as goal

-- the runs so far are appended, and those of the bytes that are left are still to come
abbrev pub invariant-loop-rest : goal.invariant-loop-rest
invariant-loop-rest l = l.out.items ++ changed_text l.rest ≡ l.fn.out.items ++ changed_text l.changes

abbrev pub decreases-loop-rest : goal.decreases-loop-rest
decreases-loop-rest l = length l.rest
