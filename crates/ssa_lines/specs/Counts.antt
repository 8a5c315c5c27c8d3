-- Numbers that a reader counts in 64 bits.
use Rattle.std.specs.Prelude.{ℕ, ◌^◌, nat_lt, if◌then◌else◌}
use Rattle.ssa_lines.specs.declared.numbers.Digits.{Digits}
use Rattle.ssa_lines.specs.declared.numbers.Digits.TheVariants.{Fits, TooMany}

-- a number, or that it has more than 64 bits
abbrev pub counted : ℕ → Digits
counted n = if nat_lt n (2 ^ 64) then Fits n else TooMany
