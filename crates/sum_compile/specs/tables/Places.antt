-- A table of places by value number.
use Rattle.std.specs.Prelude.{ℕ, zero, suc, List, slice_index_or}
use Rattle.gossa_base.specs.declared.ids.ValueId.{ValueId}
use Rattle.listing.specs.declared.line.Place.{Place}
use Rattle.listing.specs.declared.line.Place.TheVariants.{Home}

-- the places of the values from number 1 on, and how many words of the frame they take
pub record PlaceTable : Type 0 where
  pub places : List Place
  pub words : ℕ

abbrev pub place_by_number : List Place → ValueId → ℕ → Place
place_by_number places id zero = Home id
place_by_number places id (suc n) = slice_index_or places n (Home id)

-- the place of a value; one that isn't there has no word
abbrev pub place_in : List Place → ValueId → Place
place_in places id = place_by_number places id id.0
