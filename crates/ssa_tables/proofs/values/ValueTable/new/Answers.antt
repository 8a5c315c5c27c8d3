use Rattle.ssa_tables.proofs.ValueTableLemmas.{all_places}
use Rattle.ssa_tables.proofs.values.ValueTable.new.Goals as goal

pub returns : goal.returns
returns c = cc (all_places c.args.func.now c.requires, c.new-places.ensures.empty, c.in_ok-put_blocks.ensures)
