use Rattle.std.proofs.Common.{◌≡◌, ◌++◌, take}
use Rattle.std.specs.List.{flat_map}
use Rattle.listing.specs.Text.{bit_text}
use Rattle.listing.proofs.print.print_each_bit.Given as goal

-- the bits so far are appended
abbrev pub invariant-loop-bit : goal.invariant-loop-bit
invariant-loop-bit l = l.text.items ≡ l.fn.text.items ++ flat_map bit_text (take l.bit-index l.bits)
