use Rattle.gossa_base.proofs.PrefixLemmas.{in_front, failed}
use Rattle.listing.specs.Text.{line_text}
use Rattle.listing.proofs.print.print_whole_line.Goals as goal

pub returns-in_err-print_line-clause-prefix : goal.returns-in_err-print_line-clause-prefix
returns-in_err-print_line-clause-prefix c =
    failed _ _ (in_front _ _ (line_text c.args.code.now.out c.args.code.now.syms c.args.line.now) _
    c.in_err-print_line.ensures.prefix)
