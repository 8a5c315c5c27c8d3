use Rattle.std.proofs.Common.{◌+◌, ℕ, List, length, sym, subst, ap, ◌∙◌}
use Rattle.case_text.specs.CaseReading.{CasesRead, cases_read, has_reply, memory_limit}
use Rattle.case_text.proofs.ReaderLemmas.{Tables, write_taken}
use Rattle.case_text.proofs.reader.CaseReader.take_write.Goals as goal

-- the count has the new bytes
pub invariant_of-reader : goal.invariant_of-reader
invariant_of-reader c =
    let r = c.reader.inside in
    let p = c.args.piece in
    let after = c.in_ok-reader-inside.field-0 in
    let place = ap (λ (s : CasesRead). has_reply s.current) c.reader.view_is ∙ c.requires.place in
    let within = ap (λ (s : CasesRead). memory_limit s p) c.reader.view_is ∙ c.requires.within in
    let now = cases_read r.cases r.current r.unknown in
    let taken = write_taken p now after r.symbols r.bytes within c.reader.invariant place
    c.in_ok-reader-inside.ensures in
    subst (λ (bytes : List ℕ). Tables after r.symbols (r.bytes + length bytes)) (sym c.as_slice.ensures) taken
