use Rattle.arm64_ops.proofs.FlagLemmas.{inverse_twice}
use Rattle.arm64_ops.proofs.laws.inverse_is_an_involution.Goals as goal

pub returns : goal.returns
returns c = inverse_twice
