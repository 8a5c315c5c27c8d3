-- A text that spells a unit spells a well-formed one.
use Rattle.std.proofs.Common.{◌≡◌, ℕ, ◌+◌, ◌<◌, ◌^◌, List, [], ◌∷◌, length, map, Option, None, Some, is_some, Result}
use Rattle.std.proofs.Common.{Ok, Err, IfOk, if◌then◌else◌, subst, ◌∙◌, arith}
use Rattle.std.proofs.lemmas.List.{length-append, length-map}
use Rattle.ssa_ir.specs.declared.func.Func.{Func}
use Rattle.ssa_ir.specs.declared.func.SsaUnit.{SsaUnit}
use Rattle.ssa_ir.specs.WellFormed.{WellFormed}
use Rattle.ssa_lines.specs.Lines.{lines_of}
use Rattle.ssa_lines.specs.ReadsAs.{ReadsAs}
use Rattle.ssa_lines.specs.declared.refusal.TextRefusal.{TextRefusal}
use Rattle.case_text.proofs.CasesReadLemmas.{facts_of_read}
use Rattle.ssa_text.specs.declared.partial.OpenFunc.{OpenFunc}
use Rattle.ssa_text.specs.CaseSplit.{case_line, from_case, through_case}
use Rattle.ssa_text.specs.Reading.{Read, nothing, read_from, whole, with_whole}
use Rattle.ssa_text.specs.UnitReading.{function_names, read_unit}
use Rattle.ssa_text.proofs.ReadFacts.{ReadWell}
use Rattle.ssa_text.proofs.ReadWell.{read_well_nothing, read_well_behind}
use Rattle.ssa_text.proofs.TakenLemmas.{kept_to_end}
use Rattle.ssa_text.proofs.UnitParts.{all_cases, unit_parts}
use Rattle.ssa_text.proofs.WellFormedRead.{well_formed_with}

-- the lines in front of the cases keep what every state keeps
kept_through_case : (text : List ℕ) (r : Read) → read_from nothing 1 (through_case (lines_of text)) ≡ Ok r → ReadWell r
kept_through_case text r read =
    kept_to_end ReadWell read_well_behind nothing r 1 (through_case (lines_of text)) read_well_nothing read

named_count : (funcs : List Func) (func : Option OpenFunc)
    → length (map (λ (f : Func). f.sig.name) (with_whole funcs func)) ≡ length funcs + (if is_some func then 1 else 0)
named_count funcs None = length-map funcs (λ (f : Func). f.sig.name) ∙ omega arith
named_count funcs (Some f) =
    length-map (with_whole funcs (Some f)) (λ (g : Func). g.sig.name) ∙ length-append funcs (whole f ∷ [])

-- a unit has far fewer functions than 32 bits count
pub few_functions : (text : List ℕ) (r : Read) → read_from nothing 1 (through_case (lines_of text)) ≡ Ok r
    → length (function_names r) < 2 ^ 32
few_functions text r read = omega (arith, named_count r.funcs r.func, (kept_through_case text r read).counts.funcs)

-- what a text spells is well formed
pub well_formed_unit : (text : List ℕ) (u : SsaUnit) → read_unit text ≡ Ok u → WellFormed u
well_formed_unit text u h =
    let p = unit_parts text u h in
    let facts =
    facts_of_read (function_names p.end) (case_line text) (from_case (lines_of text)) p.cases p.cases_read p.found in
    subst WellFormed p.unit_is
    (well_formed_with p.end (all_cases p.cases) (kept_through_case text p.end p.unit_read) p.closed p.known facts)

-- and so is what is read as it
pub read_is_well_formed : (text : List ℕ) (answer : Result SsaUnit TextRefusal) → ReadsAs answer (read_unit text)
    → IfOk answer WellFormed
read_is_well_formed text (Ok u) h = well_formed_unit text u h
read_is_well_formed text (Err refusal) h = tt
