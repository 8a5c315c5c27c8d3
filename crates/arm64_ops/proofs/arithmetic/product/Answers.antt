use Rattle.std.proofs.Common.{◌*◌, ◌∙◌}
use Rattle.gossa_base.proofs.WordLemmas.{low_of_word}
use Rattle.arm64_ops.proofs.arithmetic.product.Goals as goal

pub returns : goal.returns
returns c = c.low.ensures ∙ low_of_word c.args.k (c.args.a * c.args.b) c.requires.at_most_all
