use Rattle.std.proofs.Common.{sym, ◌∙◌}
use Rattle.ssa_lines.proofs.TypeLemmas.{one_more_part}
use Rattle.ssa_lines.proofs.types.read_tuple.Goals as goal

pub loop-next-preserved : goal.loop-next-preserved
loop-next-preserved c =
    one_more_part _ _ _ c.loop-next.part.now _ _ _ (sym c.read_scalar.ensures ∙ c.in-Some-read_scalar.is)
    c.in_ok-push.ensures.ok c.in-Some.ensures
    ∙ c.loop-next.invariant
