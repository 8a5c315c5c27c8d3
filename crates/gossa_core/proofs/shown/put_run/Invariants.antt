use Rattle.std.proofs.Common.{◌≡◌, ◌++◌}
use Rattle.gossa_core.specs.ShownText.{run_text}
use Rattle.gossa_core.proofs.shown.put_run.Given as goal

-- the pieces so far are appended, and those of the bytes that are left are still to come
abbrev pub invariant-loop-piece : goal.invariant-loop-piece
invariant-loop-piece l =
    (l.piece-iterator.size ≡ 16)
    × (l.out.items ++ run_text l.piece-iterator.rest.now ≡ l.fn.out.items ++ run_text l.run)
