-- Why the program answers as it does. Where the answer is no fault, none was met.
use Rattle.std.specs.Prelude.{◌≡◌, ℕ, List, Option, None, Some}
use Rattle.std.specs.Io.KnownBytes.{Appends}
use Rattle.gossa_base.specs.Faults.{Faulted}
use Rattle.gossa_base.specs.Whole.{ReadsWhole, ReadsWithin, ReadsPast, AppendsPrefix}
use Rattle.ssa_lines.specs.declared.refusal.TextFault.{TextFault}
use Rattle.gossa_core.specs.declared.status.CheckFault.{CheckFault}
use Rattle.gossa_core.specs.declared.status.Outcome.{Outcome}
use Rattle.gossa_core.specs.declared.status.Outcome.TheVariants.{Done, NotBuilt, TooLong, Text, Check, Usage, ReadFault}
use Rattle.gossa_core.specs.declared.status.Outcome.TheVariants.{WriteFault, NoMemory}
use Rattle.gossa_core.specs.declared.words.Command.{Command}
use Rattle.gossa_core.specs.Outputs.{Makes}
use Rattle.ssa_ir.specs.declared.limits.TheConstants.{MAX_INPUT_BYTES}
use Rattle.gossa_core.specs.Unmade.{FailsCheck, LeavesUnbuilt, Misspells}
use Rattle.gossa_core.specs.Worlds.{World, NoReadFault, NoWriteFault, NothingRead, NothingWritten}

-- the whole input was read, and the command's output of it was written
pub record Finishes (c : Command) (before after : World) : Type 0 where
  pub text : List ℕ
  pub read : ReadsWhole MAX_INPUT_BYTES before.left after.left text
  pub calm_source : NoReadFault before after
  pub output : List ℕ
  pub made : Makes c text output
  pub written : Appends before.held after.held output
  pub calm_sink : NoWriteFault before after

-- the whole input was read, and isn't compiled yet
pub record IsNotBuilt (c : Command) (before after : World) : Type 0 where
  pub text : List ℕ
  pub read : ReadsWhole MAX_INPUT_BYTES before.left after.left text
  pub calm_source : NoReadFault before after
  pub unbuilt : LeavesUnbuilt c text
  pub unwritten : NothingWritten before after

-- the whole input was read, and this is its first fault
pub record IsRefusedText (fault : TextFault) (before after : World) : Type 0 where
  pub text : List ℕ
  pub read : ReadsWhole MAX_INPUT_BYTES before.left after.left text
  pub calm_source : NoReadFault before after
  pub refused : Misspells text fault
  pub unwritten : NothingWritten before after

-- the whole input was read, and this is the first fault of its unit
pub record IsRefusedUnit (fault : CheckFault) (before after : World) : Type 0 where
  pub text : List ℕ
  pub read : ReadsWhole MAX_INPUT_BYTES before.left after.left text
  pub calm_source : NoReadFault before after
  pub refused : FailsCheck text fault
  pub unwritten : NothingWritten before after

-- a byte behind the first `MAX_INPUT_BYTES` was read
pub record IsTooLong (before after : World) : Type 0 where
  pub read : ReadsPast MAX_INPUT_BYTES before.left after.left
  pub calm_source : NoReadFault before after
  pub unwritten : NothingWritten before after

-- the source met a fault
pub record MeetsReadFault (before after : World) : Type 0 where
  pub faulted : Faulted before.read_faults after.read_faults
  pub read : ReadsWithin MAX_INPUT_BYTES before.left after.left
  pub unwritten : NothingWritten before after

-- the sink met a fault, when a prefix of the output was written
pub record MeetsWriteFault (c : Command) (before after : World) : Type 0 where
  pub text : List ℕ
  pub read : ReadsWhole MAX_INPUT_BYTES before.left after.left text
  pub calm_source : NoReadFault before after
  pub output : List ℕ
  pub made : Makes c text output
  pub faulted : Faulted before.write_faults after.write_faults
  pub written : AppendsPrefix before.held after.held output

-- there was no memory for the input or for what is made of it, and nothing failed before that
pub record LacksMemory (before after : World) : Type 0 where
  pub read : ReadsWithin MAX_INPUT_BYTES before.left after.left
  pub calm_source : NoReadFault before after
  pub unwritten : NothingWritten before after

-- why a command answers as it does
abbrev pub CommandCause : Command → World → World → Outcome → Type 0
CommandCause c before after Done = Finishes c before after
CommandCause c before after NotBuilt = IsNotBuilt c before after
CommandCause c before after TooLong = IsTooLong before after
CommandCause c before after (Text fault) = IsRefusedText fault before after
CommandCause c before after (Check fault) = IsRefusedUnit fault before after
CommandCause c before after Usage = ⊥
CommandCause c before after ReadFault = MeetsReadFault before after
CommandCause c before after WriteFault = MeetsWriteFault c before after
CommandCause c before after NoMemory = LacksMemory before after

-- the words are no command: nothing is read and nothing is written
pub record IsUsageOnly (before after : World) (outcome : Outcome) : Type 0 where
  pub usage : outcome ≡ Usage
  pub unread : NothingRead before after
  pub unwritten : NothingWritten before after

-- why the program answers as it does, by what its words are
abbrev pub Cause : Option Command → World → World → Outcome → Type 0
Cause None before after outcome = IsUsageOnly before after outcome
Cause (Some c) before after outcome = CommandCause c before after outcome
