use Rattle.std.proofs.Common.{refl, arith, subst, take_all}
use Rattle.std.specs.List.{All}
use Rattle.std.proofs.lemmas.List.Elements.{All-more}
use Rattle.sum_compile.specs.Narrow.{Narrow}
use Rattle.sum_compile.proofs.narrow.all_narrow.Goals as goal

pub loop-func-preserved : goal.loop-func-preserved
loop-func-preserved c =
    let f = c.func-item.result in
    All-more Narrow c.args.funcs.now c.loop-func.func-index f (omega arith) c.loop-func.invariant
    (subst Narrow c.func-item.is (c.is_narrow.ensures.0 c.if-not-is_narrow.false))

pub returns : goal.returns
returns c = (
  λ t. subst (All Narrow) (take_all c.loop-func.func-index c.args.funcs.now (omega arith)) c.loop-func.invariant,
  λ all. refl,
)
