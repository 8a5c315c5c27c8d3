use Rattle.std.proofs.Common.{◌≡◌, ◌+◌, suc, drop}
use Rattle.gossa_core.specs.tables.RunLengths.{more_after, run_length}
use Rattle.gossa_core.proofs.shown.run_length.Given as goal

-- the run goes on through the bytes so far, and from the last of them as far as it goes
abbrev pub invariant-loop-place : goal.invariant-loop-place
invariant-loop-place l = suc (l.place + more_after l.last (drop l.place l.others)) ≡ run_length l.changes
