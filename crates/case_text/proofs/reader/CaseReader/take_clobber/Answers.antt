use Rattle.std.proofs.Common.{refl}
use Rattle.case_text.specs.CaseReading.{in_reply, give_clobber}
use Rattle.case_text.proofs.ReaderLemmas.{tables_kept, bytes_kept_in_reply}
use Rattle.case_text.proofs.reader.CaseReader.take_clobber.Goals as goal

-- no table changes
pub invariant_of-reader : goal.invariant_of-reader
invariant_of-reader c =
    let r = c.reader.inside in
    let by = give_clobber c.args.word in
    tables_kept (in_reply by) (λ k. refl) (bytes_kept_in_reply by (λ p. refl)) r.current c.with_clobber.result
    r.symbols r.bytes c.with_clobber.ensures c.reader.invariant
