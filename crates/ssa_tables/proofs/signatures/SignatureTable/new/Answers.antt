use Rattle.ssa_tables.proofs.SignatureLemmas.{all_names}
use Rattle.ssa_tables.proofs.signatures.SignatureTable.new.Goals as goal

pub returns : goal.returns
returns c =
    rw
    (c.in_ok-put_funcs.ensures, c.in_ok-put_sigs.ensures, c.new.ensures.empty, c.as_slice.ensures, c.as_slice-2.ensures)
    (all_names c.args.unit.now c.requires.names_differ)
