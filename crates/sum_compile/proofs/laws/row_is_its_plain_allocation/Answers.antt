use Rattle.std.proofs.Common.{refl}
use Rattle.sum_compile.proofs.laws.row_is_its_plain_allocation.Goals as goal

pub returns : goal.returns
returns c = refl
