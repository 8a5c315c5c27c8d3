use Rattle.accepted_laws.proofs.CircleLemmas.{nothing_circles}
use Rattle.accepted_laws.proofs.laws.nothing_circles.Goals as goal

pub returns : goal.returns
returns c = nothing_circles
