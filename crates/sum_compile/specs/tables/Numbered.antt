-- Values numbered in order.
use Rattle.std.specs.Prelude.{◌≡◌, ℕ, suc, List, [], ◌∷◌}
use Rattle.ssa_ir.specs.declared.func.Value.{Value}

-- the values have the numbers from n on, in order
abbrev pub NumberedFrom : ℕ → List Value → Type 0
NumberedFrom n [] = Unit {0}
NumberedFrom n (v ∷ values) = (v.id.0 ≡ n) × NumberedFrom (suc n) values
