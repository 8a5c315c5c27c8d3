use Rattle.listing.proofs.RunLemmas.{ended_stays}
use Rattle.listing.proofs.laws.ended_run_stays.Goals as goal

pub returns : goal.returns
returns c = ended_stays
