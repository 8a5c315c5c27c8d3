use Rattle.sum_compile.proofs.RowRun.{row_runs}
use Rattle.sum_compile.proofs.laws.row_runs.Goals as goal

pub returns : goal.returns
returns c = row_runs
