-- What was read, a unit or cases, reads back from its printed text.
use Rattle.std.proofs.Common.{◌≡◌, ℕ, false, List, [], ◌∷◌, ◌++◌, is_some, Option, None, Some, Ok, All, refl, sym, ap}
use Rattle.std.proofs.Common.{subst, ◌∙◌, true≢false}
use Rattle.std.specs.List.{flat_map}
use Rattle.std.specs.Option.{option_or}
use Rattle.std.proofs.lemmas.List.{append_assoc}
use Rattle.std.proofs.lemmas.List.Elements.{All-head, All-tail}
use Rattle.ssa_ir.specs.declared.case.Case.{Case}
use Rattle.ssa_ir.specs.declared.func.SsaUnit.{SsaUnit}
use Rattle.ssa_ir.specs.Texts.{newline, sig_line}
use Rattle.ssa_lines.specs.Lines.{lines_of}
use Rattle.ssa_lines.proofs.LineLemmas.{HasNoNewline, line_in_front}
use Rattle.case_text.specs.CaseReading.{no_cases, read_from as read_cases_from}
use Rattle.case_text.specs.CaseText.{cases_text}
use Rattle.case_text.proofs.CaseFacts.{CasesFacts}
use Rattle.case_text.proofs.CaseRoundTrip.{CasesReadBack as CasesAgain, cases_read_back, reads_printed}
use Rattle.case_text.proofs.CasesReadLemmas.{facts_of_read, facts_of_cases}
use Rattle.ssa_text.specs.CaseSplit.{case_line, from_case, through_case}
use Rattle.ssa_text.specs.Reading.{Read, nothing, has_open_block, with_whole, unknown_line, read_from, unit_or_unknown}
use Rattle.ssa_text.specs.ReadLaws.{ReadsBack, CasesReadBack}
use Rattle.ssa_text.specs.Text.{func_text, unit_text}
use Rattle.ssa_text.specs.UnitReading.{function_names, with_cases, cases_behind, read_unit}
use Rattle.ssa_text.proofs.AlikeReads.{Alike, alike_unknown}
use Rattle.ssa_text.proofs.CaseLines.{through_case-behind, from_case-behind}
use Rattle.ssa_text.proofs.CasesBehind.{from_case-cases_text, read_through_case}
use Rattle.ssa_text.proofs.Replay.{Replayed, replay}
use Rattle.ssa_text.proofs.TextSoFar.{ended, text_so_far, text_of_whole}
use Rattle.ssa_text.proofs.UnitParts.{all_cases, UnitParts, unit_parts}
use Rattle.ssa_text.proofs.WellFormedRead.{unit_of}

-- ---- the printed text

-- lines with their LF are those lines, in front of any text
lines_of-ended : (lines : List (List ℕ)) (text : List ℕ) → All HasNoNewline lines →
    lines_of (flat_map ended lines ++ text) ≡ lines ++ lines_of text
lines_of-ended [] text all = refl
lines_of-ended (line ∷ lines) text all =
    let later : List ℕ = flat_map ended lines in
    ap lines_of (append_assoc (ended line) later text ∙ append_assoc line newline (later ++ text))
    ∙ line_in_front line (later ++ text) (All-head HasNoNewline line lines all)
    ∙ ap (λ l. line ∷ l) (lines_of-ended lines text (All-tail HasNoNewline line lines all))

-- the text of a unit is that of all that was read, and that of its cases
unit_text_of : (end : Read) (cases : List Case) → has_open_block end.func ≡ false →
    unit_text (unit_of end cases) ≡ text_so_far end ++ cases_text (function_names end) cases
unit_text_of end cases closed =
    let funcs : List ℕ = flat_map func_text (with_whole end.funcs end.func) in
    let behind : List ℕ = cases_text (function_names end) cases in
    sym (append_assoc (flat_map sig_line end.sigs) funcs behind)
    ∙ ap (λ l. l ++ behind) (sym (text_of_whole end.sigs end.funcs end.func closed))

none_of : (o : Option ℕ) → is_some o ≡ false → o ≡ None
none_of None e = refl
none_of (Some x) e = absurd (true≢false e)

-- where all that the one names is there, so it is for what is alike
known_alike : (end last : Read) → Alike end last → unknown_line end ≡ None → unknown_line last ≡ None
known_alike end last alike known =
    none_of (unknown_line last) (sym (alike_unknown end last alike) ∙ ap is_some known)

-- what was replayed, with these cases behind it, is read and gives the unit again
printed_again : (end : Read) (cases : List Case) → Replayed nothing nothing 1 end →
    has_open_block end.func ≡ false → unknown_line end ≡ None → CasesFacts (function_names end) cases →
    read_unit (unit_text (unit_of end cases)) ≡ Ok (unit_of end cases)
printed_again end cases again closed known facts =
    let names : List (List ℕ) = function_names end in
    let text : List ℕ = unit_text (unit_of end cases) in
    let last : Read = again.last in
    let first : ℕ = case_line text in
    let behind : List (List ℕ) = lines_of (cases_text names cases) in
    let lines : lines_of text ≡ again.lines ++ behind =
    ap lines_of (unit_text_of end cases closed ∙ ap (λ l. l ++ cases_text names cases) again.text)
    ∙ lines_of-ended again.lines (cases_text names cases) again.each
    in
    let last_closed : has_open_block last.func ≡ false =
    ap (λ (x : Read). has_open_block x.func) (sym again.alike.read) ∙ closed
    in
    let unit_read : read_from nothing 1 (through_case (lines_of text)) ≡ Ok last =
    ap (read_from nothing 1) (ap through_case lines ∙ through_case-behind again.lines behind again.no_case)
    ∙ read_through_case names nothing last 1 again.lines cases facts last_closed again.were_read
    in
    let case_lines : from_case (lines_of text) ≡ behind =
    ap from_case lines ∙ from_case-behind again.lines behind again.no_case ∙ from_case-cases_text names cases facts
    in
    let same_names : function_names last ≡ names = ap (λ (x : Read). function_names x) (sym again.alike.read) in
    let cases_again : CasesAgain names cases first = cases_read_back names cases facts first in
    let none : unknown_line last ≡ None = known_alike end last again.alike known in
    (λ i. cases_behind (unit_read i) first (case_lines i))
    ∙ ap (λ ns. with_cases last (read_cases_from ns no_cases first behind)) same_names
    ∙ ap (with_cases last) cases_again.were_read
    ∙ (λ i.
    unit_or_unknown (unit_of last (cases_again.cases_are i)) (option_or (none i) (cases_again.all_found i)))
    ∙ ap (λ (x : Read). Ok (unit_of x cases)) (sym again.alike.read)

-- ---- the laws

-- of units, without a bound
pub reads_back : (text : List ℕ) (u : SsaUnit) → read_unit text ≡ Ok u → read_unit (unit_text u) ≡ Ok u
reads_back text u h =
    let parts : UnitParts text u = unit_parts text u h in
    let end : Read = parts.end in
    let cases : List Case = all_cases parts.cases in
    let same : Alike nothing nothing = record { read = refl; named = refl; unknown = refl } in
    let again : Replayed nothing nothing 1 end =
    replay nothing nothing end 1 1 (through_case (lines_of text)) (λ none. refl) same parts.closed parts.unit_read
    in
    let facts : CasesFacts (function_names end) cases =
    facts_of_read (function_names end) (case_line text) (from_case (lines_of text)) parts.cases parts.cases_read
    parts.found
    in
    subst (λ (x : SsaUnit). read_unit (unit_text x) ≡ Ok x) parts.unit_is
    (printed_again end cases again parts.closed parts.known facts)

-- and for texts of a length that is read
pub printed_units_read_back : ReadsBack
printed_units_read_back text u h short = reads_back text u h

-- of cases
pub printed_cases_read_back : CasesReadBack
printed_cases_read_back names first text cases h short again =
    reads_printed names cases (facts_of_cases names first text cases h) again
