use Rattle.ssa_meaning.proofs.JunkLemmas.{junk_unseen}
use Rattle.ssa_meaning.proofs.laws.junk_is_not_shown.Goals as goal

pub returns : goal.returns
returns c = junk_unseen
