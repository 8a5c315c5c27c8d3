-- The numbers of statuses.
use Rattle.std.specs.Prelude.{ℕ}
use Rattle.gossa_core.specs.declared.status.Status.{Status}
use Rattle.gossa_core.specs.declared.status.Status.TheVariants.{Done, Refused, Usage, ReadFault, WriteFault, NoMemory}

-- the number that the process ends with
abbrev pub number_of : Status → ℕ
number_of Done = 0
number_of Refused = 1
number_of Usage = 2
number_of ReadFault = 3
number_of WriteFault = 4
number_of NoMemory = 5
