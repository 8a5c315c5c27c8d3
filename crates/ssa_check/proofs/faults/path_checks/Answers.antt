use Rattle.std.proofs.Common.{refl, arith}
use Rattle.ssa_check.specs.declared.refusal.Check.TheVariants.{Edges, Arity, Memory, Cycle, Undefined, Control}
use Rattle.ssa_check.specs.Failing.{MetBelow}
use Rattle.ssa_check.proofs.OrderLemmas.{all_met, arity_alike, edges_alike, fails_first, goes_on}
use Rattle.ssa_check.proofs.faults.path_checks.Goals as goal

pub memory_fault-requires : goal.memory_fault-requires
memory_fault-requires c = record {
  edges = λ u. edges_alike c.args.unit.now u c.args.tables.now (c.requires.before Edges (omega arith));
}

pub returns-in-Some : goal.returns-in-Some
returns-in-Some c =
    let u = c.args.unit.now in
    fails_first Memory u c.args.tables.now c.in_ok-at.field-0 c.in-Some.at c.requires.before (c.in_ok-at.ensures u)
    c.in-Some.is

pub cycle_fault-requires : goal.cycle_fault-requires
cycle_fault-requires c = record {
  arity = λ u. arity_alike c.args.unit.now u c.args.tables.now (c.requires.before Arity (omega arith));
}

pub returns-in-Some-2 : goal.returns-in-Some-2
returns-in-Some-2 c =
    let u = c.args.unit.now in
    let f = c.args.tables.now in
    fails_first Cycle u f c.in_ok-at-2.field-0 c.in-Some-2.at
    (goes_on 8 Memory u f c.in_ok-at.field-0 refl c.requires.before (c.in_ok-at.ensures u) c.in_default.is)
    (c.in_ok-at-2.ensures u) c.in-Some-2.is

pub undefined_fault-requires : goal.undefined_fault-requires
undefined_fault-requires c = record {
  edges = λ u. edges_alike c.args.unit.now u c.args.tables.now (c.requires.before Edges (omega arith));
}

pub returns-in-Some-3 : goal.returns-in-Some-3
returns-in-Some-3 c =
    let u = c.args.unit.now in
    let f = c.args.tables.now in
    let below_9 : MetBelow 9 u f =
    goes_on 8 Memory u f c.in_ok-at.field-0 refl c.requires.before (c.in_ok-at.ensures u) c.in_default.is in
    fails_first Undefined u f c.in_ok-at-3.field-0 c.in-Some-3.at
    (goes_on 9 Cycle u f c.in_ok-at-2.field-0 refl below_9 (c.in_ok-at-2.ensures u) c.in_default-2.is)
    (c.in_ok-at-3.ensures u) c.in-Some-3.is

pub returns-in-Some-4 : goal.returns-in-Some-4
returns-in-Some-4 c =
    let u = c.args.unit.now in
    let f = c.args.tables.now in
    let below_9 : MetBelow 9 u f =
    goes_on 8 Memory u f c.in_ok-at.field-0 refl c.requires.before (c.in_ok-at.ensures u) c.in_default.is in
    let below_10 : MetBelow 10 u f =
    goes_on 9 Cycle u f c.in_ok-at-2.field-0 refl below_9 (c.in_ok-at-2.ensures u) c.in_default-2.is in
    fails_first Control u f c.in_ok-at-4.field-0 c.in-Some-4.at
    (goes_on 10 Undefined u f c.in_ok-at-3.field-0 refl below_10 (c.in_ok-at-3.ensures u) c.in_default-3.is)
    (c.in_ok-at-4.ensures u) c.in-Some-4.is

pub returns : goal.returns
returns c =
    let u = c.args.unit.now in
    let f = c.args.tables.now in
    let below_9 : MetBelow 9 u f =
    goes_on 8 Memory u f c.in_ok-at.field-0 refl c.requires.before (c.in_ok-at.ensures u) c.in_default.is in
    let below_10 : MetBelow 10 u f =
    goes_on 9 Cycle u f c.in_ok-at-2.field-0 refl below_9 (c.in_ok-at-2.ensures u) c.in_default-2.is in
    let below_11 : MetBelow 11 u f =
    goes_on 10 Undefined u f c.in_ok-at-3.field-0 refl below_10 (c.in_ok-at-3.ensures u) c.in_default-3.is in
    all_met u f
    (goes_on 11 Control u f c.in_ok-at-4.field-0 refl below_11 (c.in_ok-at-4.ensures u) c.in_default-4.is)
