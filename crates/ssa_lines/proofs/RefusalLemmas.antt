-- Refusals that are passed on.
use Rattle.std.proofs.Common.{◌≡◌, Result, Err}
use Rattle.ssa_lines.specs.declared.refusal.TextFault.{TextFault}
use Rattle.ssa_lines.specs.declared.refusal.TextRefusal.{TextRefusal}
use Rattle.ssa_lines.specs.declared.refusal.TextRefusal.TheVariants.{Fault, NoMemory}
use Rattle.ssa_lines.specs.ReadsAs.{RefusesAs}

-- what refuses one refuses the other, where both have the same faults
pub refuses_so : (X Y : Type 0) (a : Result X TextFault) (b : Result Y TextFault)
    → ((fault : TextFault) → a ≡ Err fault → b ≡ Err fault) → (refusal : TextRefusal) → RefusesAs refusal a
    → RefusesAs refusal b
refuses_so X Y a b so (Fault fault) e = so fault e
refuses_so X Y a b so NoMemory e = tt
