use Rattle.std.proofs.Common.{ℕ, List, is_some, ap, ◌∙◌}
use Rattle.std.specs.List.{list_any}
use Rattle.ssa_lines.specs.Words.{is_same}
use Rattle.case_text.specs.CaseReading.{CasesRead, symbols}
use Rattle.ssa_lines.proofs.TableLemmas.{list_any_map}
use Rattle.case_text.proofs.ReaderLemmas.{symbol_taken}
use Rattle.case_text.proofs.reader.CaseReader.take_sym.Goals as goal

-- the table doesn't have the name yet
pub put_name-requires : goal.put_name-requires
put_name-requires c =
    let name : List ℕ × ℕ → List ℕ = λ s. s.0 in
    ap (list_any (λ n. is_same n c.args.sym.name)) c.reader.invariant.0
    ∙ list_any_map name (λ n. is_same n c.args.sym.name) (symbols c.reader.inside.current)
    ∙ ap (λ (r : CasesRead). list_any (λ (s : List ℕ × ℕ). is_same s.0 c.args.sym.name) (symbols r.current))
    c.reader.view_is
    ∙ c.requires.once

-- the table has the new name last
pub invariant_of-reader : goal.invariant_of-reader
invariant_of-reader c =
    let r = c.reader.inside in
    let place = ap (λ (s : CasesRead). is_some s.current) c.reader.view_is ∙ c.requires.place in
    symbol_taken c.args.sym r.current c.in_ok-reader-inside.field-0 r.symbols c.put_name.new.names r.bytes place
    c.in_ok-reader-inside.ensures c.in_ok-put_name.ensures c.reader.invariant
