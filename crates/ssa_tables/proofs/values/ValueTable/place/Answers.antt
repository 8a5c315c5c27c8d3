use Rattle.ssa_tables.proofs.ValueTableLemmas.{same_place}
use Rattle.ssa_tables.proofs.values.ValueTable.place.Goals as goal

pub returns : goal.returns
returns c = cc (same_place c.args.self.now c.args.id)
