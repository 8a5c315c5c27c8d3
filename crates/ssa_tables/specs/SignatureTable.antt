-- The names by which the signatures of a unit are looked up.
use Rattle.std.specs.Prelude.{ℕ, List, map}
use Rattle.ssa_ir.specs.declared.func.SsaUnit.{SsaUnit}
use Rattle.ssa_ir.specs.Lookups.{signatures}

-- the names of all signatures, in their order
abbrev pub names_of : SsaUnit → List (List ℕ)
names_of u = map (λ s. s.name) (signatures u)
