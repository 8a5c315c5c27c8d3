use Rattle.accepted_laws.proofs.MemoryLawLemmas.{memory_is_passed, phi_is_passed}
use Rattle.accepted_laws.proofs.laws.memory_is_one.Goals as goal

pub returns : goal.returns
returns c = λ u f h b there.
    (λ before is_path. memory_is_passed u f h b there before is_path, phi_is_passed u f h b there)
