use Rattle.ssa_text.proofs.RoundTrip.{printed_cases_read_back}
use Rattle.ssa_text.proofs.laws.printed_cases_read_back.Goals as goal

pub returns : goal.returns
returns c = printed_cases_read_back
