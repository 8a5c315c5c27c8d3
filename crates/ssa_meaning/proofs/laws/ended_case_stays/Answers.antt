use Rattle.ssa_meaning.proofs.RepliesLemmas.{case_stays}
use Rattle.ssa_meaning.proofs.laws.ended_case_stays.Goals as goal

pub returns : goal.returns
returns c = case_stays
