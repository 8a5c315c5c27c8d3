use Rattle.ssa_ir.proofs.RunLemmas.{ended_stays}
use Rattle.ssa_ir.proofs.laws.ended_run_stays.Goals as goal

pub returns : goal.returns
returns c = ended_stays
