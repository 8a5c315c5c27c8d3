use Rattle.gossa_base.proofs.PrefixLemmas.{in_item, failed}
use Rattle.ssa_ir.specs.Texts.{sig_line}
use Rattle.ssa_ir.proofs.texts.print_sigs.Goals as goal

pub returns-in_err-print_sig_line-clause-prefix : goal.returns-in_err-print_sig_line-clause-prefix
returns-in_err-print_sig_line-clause-prefix c =
    failed _ _ (in_item sig_line _ _ _ _ _ _
    c.loop-sig-test.true c.sig-item.is c.loop-sig.invariant c.in_err-print_sig_line.ensures.prefix)
