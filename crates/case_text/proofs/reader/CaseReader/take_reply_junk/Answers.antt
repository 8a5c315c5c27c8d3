use Rattle.std.proofs.Common.{refl}
use Rattle.case_text.specs.CaseReading.{in_reply, give_reply_junk}
use Rattle.case_text.proofs.ReaderLemmas.{tables_kept, bytes_kept_in_reply}
use Rattle.case_text.proofs.reader.CaseReader.take_reply_junk.Goals as goal

-- no table changes
pub invariant_of-reader : goal.invariant_of-reader
invariant_of-reader c =
    let r = c.reader.inside in
    let by = give_reply_junk c.args.words.now in
    tables_kept (in_reply by) (λ k. refl) (bytes_kept_in_reply by (λ p. refl)) r.current c.in_ok-reader-inside.field-0
    r.symbols r.bytes c.in_ok-reader-inside.ensures c.reader.invariant
