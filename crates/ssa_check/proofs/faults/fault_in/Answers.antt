use Rattle.ssa_check.proofs.FunctionLemmas.{all_accepted, first_of_unit, one_more_func, well_formed_item}
use Rattle.ssa_check.proofs.faults.fault_in.Goals as goal

pub fault_of-requires-clause-well_formed : goal.fault_of-requires-clause-well_formed
fault_of-requires-clause-well_formed c =
    well_formed_item c.args.unit.now c.as_slice-func-items.result.now c.loop-number.number c.func-item.result
    c.as_slice-func-items.ensures c.loop-number-test.true c.func-item.is c.requires.whole

pub returns-in-Some : goal.returns-in-Some
returns-in-Some c =
    first_of_unit c.args.unit.now c.as_slice-func-items.result.now c.loop-number.number c.func-item.result
    c.as_slice-func-items.ensures c.loop-number-test.true c.func-item.is c.loop-number.invariant c.in_ok-found.field-0
    c.in-Some.found c.in_ok-found.ensures c.in-Some.is

pub loop-number-preserved : goal.loop-number-preserved
loop-number-preserved c =
    one_more_func c.args.unit.now c.as_slice-func-items.result.now c.loop-number.number c.func-item.result
    c.as_slice-func-items.ensures c.loop-number-test.true c.func-item.is c.loop-number.invariant c.in_ok-found.field-0
    c.in_ok-found.ensures c.in_default.is

pub returns : goal.returns
returns c =
    all_accepted c.args.unit.now c.as_slice-func-items.result.now c.loop-number.number c.as_slice-func-items.ensures
    c.loop-number-test.false c.loop-number.invariant
