-- The number of n bytes is below 256 to the n.
use Rattle.std.proofs.Common.{◌≡◌, ℕ, zero, suc, ◌+◌, ◌*◌, ◌^◌, ◌<◌, arith}
use Rattle.std.proofs.lemmas.Nat.{mod_below}
use native.Mathlib.Nat.{pow-suc}
use Rattle.gossa_base.specs.Memory.{Memory, byte_at, read_number}
use Rattle.gossa_base.specs.Words.{low}

byte_below : (m : Memory) (a : ℕ) → byte_at m a < 256
byte_below m a = mod_below _ 256 (omega arith)

step : (b r p q : ℕ) → b < 256 → r < p → q ≡ p * 256 → b + 256 * r < q
step b r p q hb hr e = omega (arith, hb, hr, e)

pub read_below : (m : Memory) (a n : ℕ) → read_number m a n < 256 ^ n
read_below m a zero = omega arith
read_below m a (suc n) =
    step (byte_at m (low 64 a)) (read_number m (a + 1) n) (256 ^ n) (256 ^ suc n)
    (byte_below m (low 64 a)) (read_below m (a + 1) n) (pow-suc 256 n)
