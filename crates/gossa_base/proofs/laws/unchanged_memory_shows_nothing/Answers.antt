use Rattle.gossa_base.proofs.MemoryLemmas.{unchanged}
use Rattle.gossa_base.proofs.laws.unchanged_memory_shows_nothing.Goals as goal

pub returns : goal.returns
returns c = unchanged
