use Rattle.std.proofs.Common.{◌≡◌, map, take}
use Rattle.gossa_core.proofs.shown.piece_bytes.Given as goal

-- the bytes so far
abbrev pub invariant-loop-byte : goal.invariant-loop-byte
invariant-loop-byte l = l.bytes.items ≡ map (λ q. q.1) (take l.byte-index l.piece)
