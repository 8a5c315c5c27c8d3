-- Where the values of a function stand, by number.
use Rattle.std.specs.Prelude.{ℕ, suc, ◌==◌, if◌then◌else◌, List, [], ◌∷◌, ◌++◌, Option, None, Some}
use Rattle.gossa_base.specs.declared.ids.ValueId.{ValueId}
use Rattle.ssa_ir.specs.declared.func.Block.{Block}
use Rattle.ssa_ir.specs.declared.func.Func.{Func}
use Rattle.ssa_ir.specs.declared.func.Value.{Value}
use Rattle.ssa_tables.specs.declared.values.Place.{Place}

-- the values of one block, from index i on
abbrev pub places_in : (block i : ℕ) → List Value → List (ℕ × Place)
places_in block i [] = []
places_in block i (v ∷ values) = (v.id.0, record { block = block; index = i }) ∷ places_in block (suc i) values

-- the values of blocks, from block b on
abbrev pub places_from : (b : ℕ) → List Block → List (ℕ × Place)
places_from b [] = []
places_from b (block ∷ blocks) = places_in b 0 block.values ++ places_from (suc b) blocks

abbrev pub places_of : Func → List (ℕ × Place)
places_of f = places_from 0 f.blocks

-- the place of a number
abbrev pub place_in : List (ℕ × Place) → ValueId → Option Place
place_in [] id = None
place_in ((n, place) ∷ places) id = if n == id.0 then Some place else place_in places id
