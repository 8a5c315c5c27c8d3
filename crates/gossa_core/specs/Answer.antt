-- What the program answers.
use Rattle.std.specs.Prelude.{◌≡◌, ℕ, ◌≤◌, ◌⊎◌, List, [], codes, length, Some, Ok}
use Rattle.std.specs.Io.KnownBytes.{Appends}
use Rattle.gossa_base.specs.Faults.{Faulted}
use Rattle.gossa_base.specs.Whole.{AppendsPrefix}
use Rattle.ssa_ir.specs.declared.func.SsaUnit.{SsaUnit}
use Rattle.ssa_text.specs.UnitReading.{read_unit}
use Rattle.gossa_core.specs.declared.status.Status.{Status}
use Rattle.gossa_core.specs.declared.status.Status.TheVariants.{Done as IsDone, Refused as IsRefused, Usage as IsUsage}
use Rattle.gossa_core.specs.declared.status.Status.TheVariants.{ReadFault as IsReadFault, WriteFault as IsWriteFault}
use Rattle.gossa_core.specs.declared.status.Status.TheVariants.{NoMemory as IsNoMemory}
use Rattle.gossa_core.specs.declared.status.Outcome.{Outcome}
use Rattle.gossa_core.specs.declared.status.Outcome.TheVariants.{Done, NotBuilt, TooLong, Text, Check, Usage, ReadFault}
use Rattle.gossa_core.specs.declared.status.Outcome.TheVariants.{WriteFault, NoMemory}
use Rattle.gossa_core.specs.declared.words.Command.{Command}
use Rattle.gossa_core.specs.Causes.{Cause}
use Rattle.gossa_core.specs.CheckText.{check_line}
use Rattle.gossa_core.specs.Outputs.{Takes}
use Rattle.ssa_ir.specs.declared.limits.TheConstants.{MAX_INPUT_BYTES}
use Rattle.gossa_core.specs.RefusalText.{refusal_line}
use Rattle.gossa_core.specs.Words.{command_of}
use Rattle.gossa_core.specs.Worlds.{World, Errors}

-- the status of each outcome
abbrev pub status_of : Outcome → Status
status_of Done = IsDone
status_of NotBuilt = IsRefused
status_of TooLong = IsRefused
status_of (Text fault) = IsRefused
status_of (Check fault) = IsRefused
status_of Usage = IsUsage
status_of ReadFault = IsReadFault
status_of WriteFault = IsWriteFault
status_of NoMemory = IsNoMemory

-- the line that each outcome writes to the error stream
abbrev pub line_of : Outcome → List ℕ
line_of Done = []
line_of NotBuilt = codes "gossa: not built\n"
line_of TooLong = codes "gossa: input too long\n"
line_of (Text fault) = refusal_line fault
line_of (Check fault) = check_line fault
line_of Usage = codes "usage: gossa compile [-regs=N] | run | step | demo SEED SIZE\n"
line_of ReadFault = codes "gossa: read failed\n"
line_of WriteFault = codes "gossa: write failed\n"
line_of NoMemory = codes "gossa: out of memory\n"

-- a line was written to the error stream, or a prefix of it where that stream met a fault
abbrev pub Tells : List ℕ → Errors → Errors → Type 0
Tells line before after =
    Appends before.told after.told line
    ⊎ (Faulted before.tell_faults after.tell_faults × AppendsPrefix before.told after.told line)

-- what the program answers to these words
pub record Answers (words : List (List ℕ)) (before after : World) (quiet spoken : Errors) (status : Status) : Type 0
  where
    pub outcome : Outcome
    pub answered : status ≡ status_of outcome
    pub cause : Cause (command_of words) before after outcome
    pub line : Tells (line_of outcome) quiet spoken

-- where the words are a command, nothing met a fault, and the input is known, within the limit and the text of a unit
-- that the command takes, the program is done, or there was no memory
abbrev pub IsComplete : List (List ℕ) → World → World → Status → Type 0
IsComplete words before after status =
    (c : Command) → command_of words ≡ Some c
    → ¬ Faulted before.read_faults after.read_faults → ¬ Faulted before.write_faults after.write_faults
    → (text : List ℕ) → before.left ≡ Some text → length text ≤ MAX_INPUT_BYTES
    → (u : SsaUnit) → read_unit text ≡ Ok u → Takes c u
    → (status ≡ IsDone) ⊎ (status ≡ IsNoMemory)
