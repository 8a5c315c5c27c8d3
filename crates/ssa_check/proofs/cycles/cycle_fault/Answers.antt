use Rattle.std.proofs.Common.{MatchOption, subst, sym}
use Rattle.ssa_check.specs.declared.refusal.Check.TheVariants.{Cycle}
use Rattle.ssa_check.specs.Failing.{LeastPlace, Meets}
use Rattle.ssa_check.proofs.CyclePlaces.{cycle_place}
use Rattle.ssa_check.proofs.cycles.cycle_fault.Goals as goal

pub returns : goal.returns
returns c = λ u.
    subst (λ found. MatchOption found (Meets Cycle u c.args.tables.now) (LeastPlace Cycle u c.args.tables.now))
    (sym c.value_place.ensures)
    (cycle_place u c.args.tables.now c.in_ok-lowest.lowest c.in_ok-lowest.ensures)
