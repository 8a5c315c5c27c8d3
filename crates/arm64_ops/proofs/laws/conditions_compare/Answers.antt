use Rattle.arm64_ops.proofs.FlagLemmas.{conditions}
use Rattle.arm64_ops.proofs.laws.conditions_compare.Goals as goal

pub returns : goal.returns
returns c = conditions
