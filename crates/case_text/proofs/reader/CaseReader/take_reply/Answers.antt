use Rattle.std.proofs.Common.{refl}
use Rattle.case_text.specs.CaseReading.{begin_reply}
use Rattle.case_text.proofs.ReaderLemmas.{tables_kept, bytes_kept_by_reply}
use Rattle.case_text.proofs.reader.CaseReader.take_reply.Goals as goal

-- no table changes
pub invariant_of-reader : goal.invariant_of-reader
invariant_of-reader c =
    let r = c.reader.inside in
    let words = c.args.words in
    tables_kept (begin_reply words) (λ k. refl) (bytes_kept_by_reply words) r.current c.in_ok-reader-inside.field-0
    r.symbols r.bytes c.in_ok-reader-inside.ensures c.reader.invariant
