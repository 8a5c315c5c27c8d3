use Rattle.ssa_ir.proofs.RunLemmas.{zero_goes_on}
use Rattle.ssa_ir.proofs.laws.bound_zero_goes_on.Goals as goal

pub returns : goal.returns
returns c = zero_goes_on
