use Rattle.accepted_laws.proofs.DefinedLemmas.{well_formed_func}
use Rattle.accepted_laws.proofs.PassedMemory.{path_within, same_passes}
use Rattle.accepted_laws.proofs.laws.one_is_passed.Goals as goal

pub returns : goal.returns
returns c = λ u f h path is_path.
    same_passes f (well_formed_func u f h) path (path_within f path is_path)
