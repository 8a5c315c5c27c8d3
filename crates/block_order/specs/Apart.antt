-- Values of which no two have one number.
use Rattle.std.specs.Prelude.{◌≢◌, ℕ, List, [], ◌∷◌}
use Rattle.ssa_ir.specs.declared.func.Value.{Value}

-- no value has this number
abbrev pub IsApart : ℕ → List Value → Type 0
IsApart n [] = Unit {0}
IsApart n (v ∷ values) = (n ≢ v.id.0) × IsApart n values

-- no two values have one number
abbrev pub AreApart : List Value → Type 0
AreApart [] = Unit {0}
AreApart (v ∷ values) = IsApart v.id.0 values × AreApart values
