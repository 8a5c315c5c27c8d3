use Rattle.std.proofs.Common.{refl}
use Rattle.ssa_ir.specs.BoundsChecked.{bounds_checked}
use Rattle.ssa_ir.proofs.WellFormedLemmas.{unit_tested}
use Rattle.ssa_ir.proofs.laws.bounds_checked_sum_is_well_formed.Goals as goal

pub returns : goal.returns
returns c = unit_tested bounds_checked refl
