use Rattle.std.proofs.Common.{MatchOption, refl, subst}
use Rattle.ssa_ir.specs.declared.func.Func.{Func}
use Rattle.ssa_check.specs.declared.refusal.Check.TheVariants.{Types, ArgOrInit, Callee}
use Rattle.ssa_check.specs.Failing.{LeastPlace, Meets, MetBelow}
use Rattle.ssa_check.proofs.OrderLemmas.{fails_first, goes_on, one_more}
use Rattle.ssa_check.proofs.faults.value_checks.Goals as goal

pub returns-in-Some-2 : goal.returns-in-Some-2
returns-in-Some-2 c =
    let u = c.args.unit.now in
    let f = c.args.tables.now in
    let args =
    subst (λ (x : Func). MatchOption c.in_ok-at.field-0 (Meets ArgOrInit u x) (LeastPlace ArgOrInit u x))
    c.func.ensures.func (c.in_ok-at.ensures u) in
    fails_first ArgOrInit u f c.in_ok-at.field-0 c.in-Some-2.at
    (one_more 5 Types u f refl c.requires.before (c.in_default.ensures u))
    args c.in-Some-2.is

pub returns-in-Some-3 : goal.returns-in-Some-3
returns-in-Some-3 c =
    let u = c.args.unit.now in
    let f = c.args.tables.now in
    let args =
    subst (λ (x : Func). MatchOption c.in_ok-at.field-0 (Meets ArgOrInit u x) (LeastPlace ArgOrInit u x))
    c.func.ensures.func (c.in_ok-at.ensures u) in
    let below_6 : MetBelow 6 u f = one_more 5 Types u f refl c.requires.before (c.in_default.ensures u) in
    let below_7 : MetBelow 7 u f =
    goes_on 6 ArgOrInit u f c.in_ok-at.field-0 refl below_6 args c.in_default-2.is in
    fails_first Callee u f c.in_ok-at-2.field-0 c.in-Some-3.at below_7 c.in_ok-at-2.ensures c.in-Some-3.is

pub returns : goal.returns
returns c =
    let u = c.args.unit.now in
    let f = c.args.tables.now in
    let args =
    subst (λ (x : Func). MatchOption c.in_ok-at.field-0 (Meets ArgOrInit u x) (LeastPlace ArgOrInit u x))
    c.func.ensures.func (c.in_ok-at.ensures u) in
    let below_6 : MetBelow 6 u f = one_more 5 Types u f refl c.requires.before (c.in_default.ensures u) in
    let below_7 : MetBelow 7 u f =
    goes_on 6 ArgOrInit u f c.in_ok-at.field-0 refl below_6 args c.in_default-2.is in
    goes_on 7 Callee u f c.in_ok-at-2.field-0 refl below_7 c.in_ok-at-2.ensures c.in_default-3.is
