use Rattle.std.proofs.Common.{◌≡◌, ℕ, drop}
use Rattle.ssa_lines.specs.Counts.{counted}
use Rattle.ssa_lines.specs.Numbers.{number_in, digits_behind}
use Rattle.ssa_lines.proofs.numbers.digits_value.Given as goal

-- the digits so far count n, and the others go on behind it
abbrev pub invariant-loop-byte : goal.invariant-loop-byte
invariant-loop-byte l =
    (n : ℕ) × (l.count ≡ counted n) × (number_in l.base l.digits ≡ digits_behind l.base n (drop l.byte-index l.digits))
