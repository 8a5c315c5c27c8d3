-- A remainder is x - (x / y) y, signed and unsigned.
use Rattle.ssa_ir.specs.declared.op.Width.TheVariants.{W64}
use Rattle.arm64_ops.proofs.OpLawLemmas.{remainder_is_left, unsigned_remainder_is_left}
use Rattle.arm64_ops.proofs.laws.remainders_are_left.Goals as goal

pub returns-clause-signed : goal.returns-clause-signed
returns-clause-signed c = remainder_is_left

pub returns-clause-unsigned : goal.returns-clause-unsigned
returns-clause-unsigned c = unsigned_remainder_is_left

pub returns-clause-machine : goal.returns-clause-machine
returns-clause-machine c = record { signed = remainder_is_left W64; unsigned = unsigned_remainder_is_left W64 }
