-- How the program ends where a part of it refuses.
use Rattle.std.specs.Prelude.{ℕ, List, Result, Ok, Err}
use Rattle.gossa_base.specs.declared.whole.ReadRefusal.{ReadRefusal}
use Rattle.gossa_base.specs.declared.whole.ReadRefusal.TheVariants.{ReadFault as SourceFails, TooLong as PastLimit}
use Rattle.gossa_base.specs.declared.whole.ReadRefusal.TheVariants.{NoMemory as Unheld}
use Rattle.ssa_lines.specs.declared.refusal.TextRefusal.{TextRefusal}
use Rattle.ssa_lines.specs.declared.refusal.TextRefusal.TheVariants.{Fault as HasFault, NoMemory as Wanting}
use Rattle.ssa_check.specs.declared.refusal.Fault.{Fault}
use Rattle.gossa_core.specs.declared.status.Outcome.{Outcome}
use Rattle.gossa_core.specs.declared.status.Outcome.TheVariants.{TooLong, Text, Check, ReadFault, NoMemory}

-- where the input isn't read whole
abbrev pub outcome_of_read : ReadRefusal → Outcome
outcome_of_read SourceFails = ReadFault
outcome_of_read PastLimit = TooLong
outcome_of_read Unheld = NoMemory

-- where a text spells no unit: each fault is told as it is
abbrev pub outcome_of_text : TextRefusal → Outcome
outcome_of_text (HasFault fault) = Text fault
outcome_of_text Wanting = NoMemory

-- where a unit fails a check: its first fault, with the name of its function, where there was memory for the name
abbrev pub outcome_of_fault : {E : Type 0} → Fault → Result (List ℕ) E → Outcome
outcome_of_fault fault (Ok name) = Check (record { func = name; check = fault.check; at = fault.at })
outcome_of_fault fault (Err _) = NoMemory
