use Rattle.std.proofs.Common.{subst, sym}
use Rattle.ssa_check.specs.Failing.{MetBelow}
use Rattle.ssa_check.proofs.OrderLemmas.{unless_found, when_found}
use Rattle.ssa_check.proofs.faults.fault_of.Goals as goal

pub returns-in-Some : goal.returns-in-Some
returns-in-Some c =
    when_found 5 c.args.unit.now c.args.func.now c.in_ok-found.field-0 c.in-Some.found
    (c.in_ok-found.ensures c.args.unit.now) c.in-Some.is

pub value_checks-requires-clause-before : goal.value_checks-requires-clause-before
value_checks-requires-clause-before c =
    subst (MetBelow 5 c.args.unit.now) (sym c.in_ok-tables.ensures)
    (unless_found 5 c.args.unit.now c.args.func.now c.in_ok-found.field-0 (c.in_ok-found.ensures c.args.unit.now)
    c.in_default.is)
