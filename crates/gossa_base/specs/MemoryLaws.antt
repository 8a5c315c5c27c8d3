-- What holds of memory, whatever it has.
use Rattle.std.specs.Prelude.{◌≡◌, []}
use Rattle.gossa_base.specs.Memory.{Memory, changed}

-- memory that stayed as it was has no changed bytes
abbrev pub UnchangedShowsNothing : Type 0
UnchangedShowsNothing = (m : Memory) → changed m m ≡ []
