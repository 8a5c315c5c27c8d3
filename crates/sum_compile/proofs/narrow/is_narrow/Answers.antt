use Rattle.std.proofs.Common.{◌∙◌, sym}
use Rattle.sum_compile.proofs.NarrowTestLemmas.{narrow_from_test, test_from_narrow}
use Rattle.sum_compile.proofs.narrow.is_narrow.Goals as goal

pub returns : goal.returns
returns c = (
  λ passed. narrow_from_test c.args.func.now (sym c.passes.ensures ∙ passed),
  λ narrow. c.passes.ensures ∙ test_from_narrow c.args.func.now narrow,
)
