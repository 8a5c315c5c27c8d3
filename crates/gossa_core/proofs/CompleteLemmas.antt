-- Where nothing failed and the input is the text of a unit that the command takes, the causes leave two answers.
use Rattle.std.proofs.Common.{◌≡◌, ℕ, ◌≤◌, List, ◌++◌, length, Option, None, Some, slice_get, Result, Ok, Err, sym, ap}
use Rattle.std.proofs.Common.{subst, ◌∙◌, ◌⊎◌, inl, inr, append-nil, length-append, arith}
use Rattle.std.specs.Io.KnownBytes.{Consumes, IsAtEnd}
use Rattle.std.specs.List.{All}
use Rattle.std.proofs.lemmas.Option.{slice_get_within, get_or_from_slice_get}
use Rattle.gossa_base.specs.Faults.{Faulted}
use Rattle.ssa_ir.specs.declared.func.Func.{Func}
use Rattle.ssa_ir.specs.declared.func.SsaUnit.{SsaUnit}
use Rattle.ssa_check.specs.Failing.{MeetsAll}
use Rattle.ssa_text.specs.UnitReading.{read_unit}
use Rattle.ssa_lines.specs.declared.refusal.TextFault.{TextFault}
use Rattle.gossa_core.specs.declared.status.CheckFault.{CheckFault}
use Rattle.gossa_core.specs.declared.status.Status.{Status}
use Rattle.gossa_core.specs.declared.status.Status.TheVariants.{Done as IsDone, NoMemory as IsNoMemory}
use Rattle.gossa_core.specs.declared.status.Outcome.{Outcome}
use Rattle.gossa_core.specs.declared.status.Outcome.TheVariants.{Done, NotBuilt, TooLong, Text, Check, Usage, ReadFault}
use Rattle.gossa_core.specs.declared.status.Outcome.TheVariants.{WriteFault, NoMemory}
use Rattle.gossa_core.specs.declared.words.Command.{Command}
use Rattle.gossa_core.specs.declared.words.Command.TheVariants.{Compile, Run}
use Rattle.gossa_core.specs.Answer.{status_of, IsComplete}
use Rattle.gossa_core.specs.Causes.{CommandCause, Cause}
use Rattle.sum_compile.specs.Narrow.{Narrow}
use Rattle.gossa_core.specs.Outputs.{Takes}
use Rattle.ssa_ir.specs.declared.limits.TheConstants.{MAX_INPUT_BYTES}
use Rattle.gossa_core.specs.Unmade.{FailsCheck, IsFirstFault, LeavesUnbuilt, Misspells}
use Rattle.gossa_core.specs.Words.{command_of}
use Rattle.gossa_core.specs.Worlds.{World}
use Rattle.sum_compile.proofs.NarrowAccepted.{narrow_accepted}
use Rattle.gossa_core.proofs.CompileLemmas.{narrow_at}

-- a text that was read whole is all that was left
whole_is : (left after : Option (List ℕ)) (text bytes : List ℕ) → left ≡ Some text → Consumes left after bytes
    → IsAtEnd after → bytes ≡ text
whole_is None after text bytes e p q = cc
whole_is (Some xs) None text bytes e p q = absurd p
whole_is (Some xs) (Some ys) text bytes e p q =
    let same : xs ≡ text = cc in sym (append-nil bytes) ∙ ap (λ l. bytes ++ l) (sym q) ∙ sym p ∙ same

-- no more was read than was left
read_within : (left after : Option (List ℕ)) (text bytes : List ℕ) → left ≡ Some text → Consumes left after bytes
    → length bytes ≤ length text
read_within None after text bytes e p = cc
read_within (Some xs) None text bytes e p = absurd p
read_within (Some xs) (Some ys) text bytes e p =
    let same : xs ≡ text = cc in omega (arith, ap length same, ap length p, length-append bytes ys)

-- the text of a unit that a command takes
pub record SpellsTaken (c : Command) (text : List ℕ) : Type 0 where
  pub unit : SsaUnit
  pub read : read_unit text ≡ Ok unit
  pub taken : Takes c unit

-- a text spells one unit, or none
one_unit : (spelled : Result SsaUnit TextFault) (u v : SsaUnit) → spelled ≡ Ok u → spelled ≡ Ok v → u ≡ v
one_unit spelled u v p q = let both : Ok u ≡ Ok v = sym p ∙ q in cc

unrefused : (spelled : Result SsaUnit TextFault) (u : SsaUnit) (fault : TextFault) → spelled ≡ Ok u
    → spelled ≡ Err fault → ⊥
unrefused spelled u fault p q = let both : Ok u ≡ Err fault = sym p ∙ q in cc

-- such a text is built
built : (c : Command) (text : List ℕ) → SpellsTaken c text → LeavesUnbuilt c text → ⊥
built (Compile regs) text h other =
    other.other (subst (λ u. All Narrow u.funcs)
    (one_unit (read_unit text) h.unit other.unit h.read other.read) h.taken)
built Run text h other = other

-- and isn't refused
unmisspelled : (c : Command) (text : List ℕ) (fault : TextFault) → SpellsTaken c text → Misspells text fault → ⊥
unmisspelled c text fault h bad = unrefused (read_unit text) h.unit fault h.read bad

-- function i of a unit that a command takes meets all checks
taken_accepted : (c : Command) (u : SsaUnit) (i : ℕ) (f : Func) → Takes c u → slice_get u.funcs i ≡ Some f
    → MeetsAll u f
taken_accepted (Compile regs) u i f h at = narrow_accepted u f (narrow_at u.funcs i f h at)
taken_accepted Run u i f h at =
    subst (MeetsAll u) (get_or_from_slice_get u.funcs i f f at) (h i f (slice_get_within u.funcs i f at))

-- so it fails none
unfailing : (c : Command) (u : SsaUnit) (told : CheckFault) → Takes c u → IsFirstFault u told → ⊥
unfailing c u told h bad =
    let first = bad.first in
    taken_accepted c u bad.fault.func first.func h first.is_its bad.fault.check bad.fault.at first.fault_of.place.fails

passing : (c : Command) (text : List ℕ) (told : CheckFault) → SpellsTaken c text → FailsCheck text told → ⊥
passing c text told h bad =
    unfailing c bad.unit told (subst (Takes c) (one_unit (read_unit text) h.unit bad.unit h.read bad.read) h.taken)
    bad.first

complete_by_outcome : (command : Command) (before after : World) (status : Status) (outcome : Outcome)
    → status ≡ status_of outcome
    → CommandCause command before after outcome → ¬ Faulted before.read_faults after.read_faults
    → ¬ Faulted before.write_faults after.write_faults
    → (text : List ℕ) → before.left ≡ Some text → length text ≤ MAX_INPUT_BYTES → SpellsTaken command text
    → (status ≡ IsDone) ⊎ (status ≡ IsNoMemory)
complete_by_outcome command before after status Done e c no_read no_write text left few h = inl e
complete_by_outcome command before after status NotBuilt e c no_read no_write text left few h =
    absurd (built command text h (subst (LeavesUnbuilt command)
    (whole_is before.left after.left text c.text left c.read.all c.read.end) c.unbuilt))
complete_by_outcome command before after status TooLong e c no_read no_write text left few h =
    absurd (omega (arith, read_within before.left after.left text c.read.bytes left c.read.read, c.read.past, few))
complete_by_outcome command before after status (Text fault) e c no_read no_write text left few h =
    absurd (unmisspelled command text fault h (subst (λ t. Misspells t fault)
    (whole_is before.left after.left text c.text left c.read.all c.read.end) c.refused))
complete_by_outcome command before after status (Check fault) e c no_read no_write text left few h =
    absurd (passing command text fault h (subst (λ t. FailsCheck t fault)
    (whole_is before.left after.left text c.text left c.read.all c.read.end) c.refused))
complete_by_outcome command before after status Usage e c no_read no_write text left few h = absurd c
complete_by_outcome command before after status ReadFault e c no_read no_write text left few h =
    absurd (no_read c.faulted)
complete_by_outcome command before after status WriteFault e c no_read no_write text left few h =
    absurd (no_write c.faulted)
complete_by_outcome command before after status NoMemory e c no_read no_write text left few h = inr e

complete_by_command : (found : Option Command) (command : Command) (before after : World) (status : Status)
    (outcome : Outcome)
    → status ≡ status_of outcome
    → Cause found before after outcome → found ≡ Some command → ¬ Faulted before.read_faults after.read_faults
    → ¬ Faulted before.write_faults after.write_faults → (text : List ℕ) → before.left ≡ Some text
    → length text ≤ MAX_INPUT_BYTES
    → SpellsTaken command text → (status ≡ IsDone) ⊎ (status ≡ IsNoMemory)
complete_by_command None command before after status outcome e c is no_read no_write text left few h = cc
complete_by_command (Some other) command before after status outcome e c is no_read no_write text left few h =
    let same : other ≡ command = cc in
    complete_by_outcome command before after status outcome e (subst (λ d. CommandCause d before after outcome) same c)
    no_read no_write text left few h

pub complete : (words : List (List ℕ)) (before after : World) (status : Status) (outcome : Outcome)
    → status ≡ status_of outcome
    → Cause (command_of words) before after outcome → IsComplete words before after status
complete words before after status outcome e cause command is no_read no_write text left few u read taken =
    complete_by_command (command_of words) command before after status outcome e cause is no_read no_write text left few
    (record { unit = u; read = read; taken = taken })
