use Rattle.sum_compile.proofs.RowRun.{spill_is_needed}
use Rattle.sum_compile.proofs.laws.spill_is_needed.Goals as goal

pub returns : goal.returns
returns c = spill_is_needed
