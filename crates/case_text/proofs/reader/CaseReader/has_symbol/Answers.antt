use Rattle.std.proofs.Common.{ℕ, List, ap, ◌∙◌}
use Rattle.std.specs.List.{list_any}
use Rattle.ssa_lines.specs.Words.{is_same}
use Rattle.case_text.specs.CaseReading.{CasesRead, symbols}
use Rattle.ssa_lines.proofs.TableLemmas.{list_any_map}
use Rattle.case_text.proofs.reader.CaseReader.has_symbol.Goals as goal

-- the table has the names of the symbols
pub returns : goal.returns
returns c =
    let name : List ℕ × ℕ → List ℕ = λ s. s.0 in
    c.contains.ensures
    ∙ ap (list_any (λ n. is_same n c.args.name.now)) c.self.invariant.0
    ∙ list_any_map name (λ n. is_same n c.args.name.now) (symbols c.self.inside.current)
    ∙ ap (λ (r : CasesRead). list_any (λ (s : List ℕ × ℕ). is_same s.0 c.args.name.now) (symbols r.current))
    c.self.view_is
