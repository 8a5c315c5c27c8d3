use Rattle.ssa_check.specs.declared.refusal.Check.TheVariants.{Edges}
use Rattle.ssa_check.proofs.OrderLemmas.{none_below, below_edges, below_phis, below_arity, below_types, when_none}
use Rattle.ssa_check.proofs.OrderLemmas.{when_some}
use Rattle.ssa_check.proofs.faults.first_checks.Goals as goal

pub returns-in-Some : goal.returns-in-Some
returns-in-Some c = λ u. record { earlier = none_below u c.args.func.now; place = c.in-Some.ensures u }

pub returns-in-Some-2 : goal.returns-in-Some-2
returns-in-Some-2 c = λ u.
    record {
      earlier = below_edges u c.args.func.now (c.in_default.ensures u);
      place = when_some Edges u c.args.func.now c.in_ok-at.field-0 c.in-Some-2.at (c.in_ok-at.ensures u) c.in-Some-2.is;
    }

pub returns-in-Some-phi_fault : goal.returns-in-Some-phi_fault
returns-in-Some-phi_fault c = λ u.
    record {
      earlier =
          below_phis u c.args.func.now (c.in_default.ensures u)
          (when_none Edges u c.args.func.now c.in_ok-at.field-0 (c.in_ok-at.ensures u) c.in_default-2.is);
      place = c.in-Some-phi_fault.ensures u;
    }

pub returns-in-Some-arity_fault : goal.returns-in-Some-arity_fault
returns-in-Some-arity_fault c = λ u.
    record {
      earlier =
          below_arity u c.args.func.now (c.in_default.ensures u)
          (when_none Edges u c.args.func.now c.in_ok-at.field-0 (c.in_ok-at.ensures u) c.in_default-2.is)
          (c.in_default-phi_fault.ensures u);
      place = c.in-Some-arity_fault.ensures u;
    }

pub returns : goal.returns
returns c = λ u.
    below_types u c.args.func.now (c.in_default.ensures u)
    (when_none Edges u c.args.func.now c.in_ok-at.field-0 (c.in_ok-at.ensures u) c.in_default-2.is)
    (c.in_default-phi_fault.ensures u) (c.in_default-arity_fault.ensures u)
