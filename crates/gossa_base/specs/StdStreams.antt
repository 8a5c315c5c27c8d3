-- What the adapters over standard streams answer, by what the system gave.
use Rattle.std.specs.Prelude.{ℕ, nat_lt, if◌then◌else◌, Result, Ok, Err}
use Rattle.gossa_base.specs.declared.outside.Failed.{Failed}

-- what a read answers: the count of bytes that the reader gave, 0 at the end among them; an error is a fault
abbrev pub read_answer : {E : Type 0} → Result ℕ E → Result ℕ Failed
read_answer (Ok n) = Ok n
read_answer (Err _) = Err (record {})

-- what a write answers: the count of bytes that the writer took; an error is a fault, and so is that it took none
abbrev pub write_answer : {E : Type 0} → Result ℕ E → Result ℕ Failed
write_answer (Ok n) = if nat_lt 0 n then Ok n else Err (record {})
write_answer (Err _) = Err (record {})
