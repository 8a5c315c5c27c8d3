-- What a reader answers, by what a text spells; want of memory alone is free.
use Rattle.std.specs.Prelude.{◌≡◌, Result, Ok, Err}
use Rattle.ssa_lines.specs.declared.refusal.TextFault.{TextFault}
use Rattle.ssa_lines.specs.declared.refusal.TextRefusal.{TextRefusal}
use Rattle.ssa_lines.specs.declared.refusal.TextRefusal.TheVariants.{Fault, NoMemory}

abbrev pub RefusesAs : {X : Type 0} → TextRefusal → Result X TextFault → Type 0
RefusesAs (Fault fault) spelled = spelled ≡ Err fault
RefusesAs NoMemory spelled = Unit {0}

-- the answer is exactly what the text spells, or there was no memory
abbrev pub ReadsAs : {X : Type 0} → Result X TextRefusal → Result X TextFault → Type 0
ReadsAs (Ok x) spelled = spelled ≡ Ok x
ReadsAs (Err refusal) spelled = RefusesAs refusal spelled
