use Rattle.std.proofs.Common.{rules, w64, ◌∙◌}
use Rattle.std.proofs.lemmas.Int.{to_z-of_z}
use Rattle.arm64_ops.proofs.FlagLemmas.{difference_packed}
use Rattle.arm64_ops.proofs.comparisons.difference_flags.Goals as goal

pub returns : goal.returns
returns c =
    difference_packed c.args.k c.args.a c.args.b c.difference-result.result _ c.is_less.result
    c.low-2.result c.low.result
    c.one_where.result c.one_where-2.result c.one_where-3.result c.one_where-4.result
    c.requires.at_least_one c.requires.at_most_all
    c.difference-result.ensures (to_z-of_z w64 c.signed-n.result (search rules) ∙ c.signed-n.ensures)
    c.is_less.ensures c.low-2.ensures c.low.ensures
    c.one_where.ensures c.one_where-2.ensures c.one_where-3.ensures c.one_where-4.ensures
