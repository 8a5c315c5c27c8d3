use Rattle.std.proofs.Common.{sym, subst}
use Rattle.ssa_text.proofs.SplitLemmas.{SoFar, begun}
use Rattle.ssa_text.proofs.split.split_cases.Goals as goal

pub loop-line-init : goal.loop-line-init
loop-line-init c = subst (SoFar c.args.text.now 0 1) (sym c.of-lines.ensures) (begun c.args.text.now)
