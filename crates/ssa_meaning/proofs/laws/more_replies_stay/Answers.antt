use Rattle.ssa_meaning.proofs.RepliesLemmas.{replied_stays}
use Rattle.ssa_meaning.proofs.laws.more_replies_stay.Goals as goal

pub returns : goal.returns
returns c = replied_stays
