use Rattle.listing.proofs.RunLemmas.{zero_goes_on}
use Rattle.listing.proofs.laws.bound_zero_goes_on.Goals as goal

pub returns : goal.returns
returns c = zero_goes_on
