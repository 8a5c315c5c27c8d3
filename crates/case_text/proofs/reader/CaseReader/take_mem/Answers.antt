use Rattle.std.proofs.Common.{◌+◌, ℕ, List, length, is_some, sym, subst, ap, ◌∙◌}
use Rattle.case_text.specs.CaseReading.{CasesRead, cases_read, changed, give_mem, memory_limit}
use Rattle.case_text.proofs.ReaderLemmas.{Tables, mem_taken}
use Rattle.case_text.proofs.reader.CaseReader.take_mem.Goals as goal

-- the count has the new bytes
pub invariant_of-reader : goal.invariant_of-reader
invariant_of-reader c =
    let r = c.reader.inside in
    let p = c.args.piece in
    let after = c.in_ok-reader-inside.field-0 in
    let place = ap (λ (s : CasesRead). is_some s.current) c.reader.view_is ∙ c.requires.place in
    let within = ap (λ (s : CasesRead). memory_limit s p) c.reader.view_is ∙ c.requires.within in
    let now = cases_read r.cases r.current r.unknown in
    let taken = mem_taken p now after r.symbols r.bytes within c.reader.invariant place
    c.in_ok-reader-inside.ensures in
    subst (λ (bytes : List ℕ). Tables after r.symbols (r.bytes + length bytes)) (sym c.as_slice.ensures) taken

pub returns : goal.returns
returns c =
    let r = c.reader.inside in
    ap (λ current. cases_read r.cases current r.unknown) c.in_ok-reader-inside.ensures
    ∙ ap (λ (s : CasesRead). changed s (give_mem c.args.piece)) c.reader.view_is
