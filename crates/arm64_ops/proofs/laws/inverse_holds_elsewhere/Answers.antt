use Rattle.ssa_ir.specs.Conditions.{flags_in}
use Rattle.arm64_ops.proofs.FlagLemmas.{inverse_of}
use Rattle.arm64_ops.proofs.laws.inverse_holds_elsewhere.Goals as goal

pub returns : goal.returns
returns c = λ condition flags. inverse_of condition (flags_in flags)
