-- A table of parameters by number.
use Rattle.std.specs.Prelude.{ℕ, suc, List, [], ◌∷◌, Option, None, Some, slice_get, slice_set}
use Rattle.gossa_base.specs.declared.ids.ValueId.{ValueId}
use Rattle.ssa_ir.specs.declared.func.Value.{Value}
use Rattle.sum_compile.specs.Plain.{parameter_number, held_then}

abbrev pub noted_in : List (Option ValueId) → ValueId → ℕ → Option (Option ValueId) → List (Option ValueId)
noted_in ids id n (Some None) = slice_set ids n (Some id)
noted_in ids id n _ = ids

abbrev pub noted_at : List (Option ValueId) → ValueId → Option ℕ → List (Option ValueId)
noted_at ids id None = ids
noted_at ids id (Some n) = noted_in ids id n (slice_get ids n)

-- a table of parameters with one more value, where it is the first to be its parameter
abbrev pub noted : List (Option ValueId) → Value → List (Option ValueId)
noted ids v = noted_at ids v.id (parameter_number v.op v.aux)

-- the table with these values
abbrev pub noted_all : List (Option ValueId) → List Value → List (Option ValueId)
noted_all ids [] = ids
noted_all ids (v ∷ values) = noted_all (noted ids v) values

-- the parameters of a table from register r on that are there, each with its register
abbrev pub held_from : ℕ → List (Option ValueId) → List (ℕ × ValueId)
held_from r [] = []
held_from r (id ∷ ids) = held_then r id (held_from (suc r) ids)
