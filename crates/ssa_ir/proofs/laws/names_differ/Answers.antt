use Rattle.ssa_ir.proofs.OpNameLemmas.{names_differ}
use Rattle.ssa_ir.proofs.laws.names_differ.Goals as goal

pub returns : goal.returns
returns c = names_differ
