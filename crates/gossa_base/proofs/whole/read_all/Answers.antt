use Rattle.std.proofs.Common.{arith, sym}
use Rattle.std.proofs.lemmas.List.{length-take}
use Rattle.gossa_base.proofs.WholeLemmas.{read_past, read_within}
use Rattle.gossa_base.proofs.whole.read_all.Goals as goal

pub returns-then-n-room-clause-too_long : goal.returns-then-n-room-clause-too_long
returns-then-n-room-clause-too_long g c =
    λ _. read_past _ c.in-Ok.n _ _ _ _ _ c.pieces.invariant.read c.in-Ok.ensures.bytes.0 (sym c.in-Ok.ensures.bound.1)
    (grind (arith, length-take, c.in-Ok.ensures.bound.0))

pub returns-then-is_err-clause-memory : goal.returns-then-is_err-clause-memory
returns-then-is_err-clause-memory g c =
    λ _. read_within _ c.in-Ok.n _ _ _ _ _ c.pieces.invariant.read c.in-Ok.ensures.bytes.0 (sym c.in-Ok.ensures.bound.1)
    (omega (arith, c.in-Ok.ensures.bound.0))
