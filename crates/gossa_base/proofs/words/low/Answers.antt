use Rattle.gossa_base.proofs.WordLemmas.{masked}
use Rattle.gossa_base.proofs.words.low.Goals as goal

pub returns : goal.returns
returns c = masked c.args.k c.args.w c.requires.at_most_all
