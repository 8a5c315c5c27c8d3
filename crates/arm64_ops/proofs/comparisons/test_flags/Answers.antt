use Rattle.std.proofs.Common.{rules, w64, ◌∙◌}
use Rattle.std.proofs.lemmas.Int.{to_z-of_z}
use Rattle.arm64_ops.proofs.FlagLemmas.{test_packed}
use Rattle.arm64_ops.proofs.comparisons.test_flags.Goals as goal

pub returns : goal.returns
returns c =
    test_packed c.args.k c.args.a c.args.b c.and-both.result _ c.one_where.result c.one_where-2.result
    c.requires.at_least_one
    c.and-both.ensures (to_z-of_z w64 c.signed.result (search rules) ∙ c.signed.ensures)
    c.one_where.ensures c.one_where-2.ensures
