use Rattle.accepted_laws.proofs.LastDefinerLemmas.{last_definer_is_named}
use Rattle.accepted_laws.proofs.laws.last_definer_is_named.Goals as goal

pub returns : goal.returns
returns c = last_definer_is_named
