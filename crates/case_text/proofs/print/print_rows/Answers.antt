use Rattle.std.proofs.Common.{◌≡◌, ◌++◌, ℕ, ◌<◌, List, min, length, sym, ap, ◌∙◌}
use Rattle.std.specs.List.{flat_map}
use Rattle.std.proofs.lemmas.List.{append_assoc}
use Rattle.case_text.specs.CaseText.{words_line, rows_of}
use Rattle.case_text.proofs.RowLemmas.{rows_step}
use Rattle.case_text.proofs.print.print_rows.Goals as goal

pub loop-row-preserved : goal.loop-row-preserved
loop-row-preserved c =
    let step = c.in-Some.ensures.steps in
    let before : List ℕ = c.loop-row.row-iterator.rest.now in
    let row : List ℕ = c.in-Some.row.now in
    let after : List ℕ = c.next.new.self.rest.now in
    let line : List ℕ → List ℕ = words_line c.args.keyword.now in
    let size = c.loop-row.invariant.0 in
    let parts : (before ≡ row ++ after) × (length row ≡ min c.loop-row.row-iterator.size (length before))
    × (0 < length before) = step.1 in
    let joined : before ≡ row ++ after = parts.0 in
    let some : 0 < length before = parts.2 in
    let full : length row ≡ min 16 (length before) = parts.1 ∙ ap (λ n. min n (length before)) size in
    let rows = rows_step before row after joined full some in
    let printed = c.in_ok-print_words.ensures in (
      step.0 ∙ size,
      ap (λ t. t ++ flat_map line (rows_of after)) printed
          ∙ append_assoc c.loop-row.text.items (line row) (flat_map line (rows_of after))
          ∙ ap (λ r. c.loop-row.text.items ++ flat_map line r) (sym rows)
          ∙ c.loop-row.invariant.1,
    )
