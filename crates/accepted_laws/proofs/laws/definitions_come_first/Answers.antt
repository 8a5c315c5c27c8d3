use Rattle.accepted_laws.proofs.DefinedLemmas.{definitions_come_first}
use Rattle.accepted_laws.proofs.laws.definitions_come_first.Goals as goal

pub returns : goal.returns
returns c = definitions_come_first
