use Rattle.std.proofs.Common.{◌≡◌, ◌++◌, take}
use Rattle.std.specs.List.{flat_map}
use Rattle.gossa_core.specs.ShownText.{call_text}
use Rattle.gossa_core.proofs.shown.put_calls.Given as goal

-- the calls so far are appended
abbrev pub invariant-loop-call : goal.invariant-loop-call
invariant-loop-call l =
    l.out.items ≡ l.fn.out.items ++ flat_map (call_text l.sigs) (take l.call-index l.calls)
