use Rattle.std.proofs.Common.{codes}
use Rattle.listing.specs.Text.{reg_or_none}
use Rattle.gossa_base.proofs.PrefixLemmas.{kept, in_front, behind_piece, failed, on_failure}
use Rattle.listing.proofs.print_line.print_three_registers.Goals as goal

pub returns-in_err-print_register_or_none-clause-prefix : goal.returns-in_err-print_register_or_none-clause-prefix
returns-in_err-print_register_or_none-clause-prefix c =
    failed _ _ (in_front _ _ (reg_or_none c.args.operands.now.b) _ c.in_err-print_register_or_none.ensures.prefix)

pub returns-in_err-print_register_or_none-2-clause-prefix : goal.returns-in_err-print_register_or_none-2-clause-prefix
returns-in_err-print_register_or_none-2-clause-prefix c =
    failed _ _ (behind_piece _ _ _ (reg_or_none c.args.operands.now.b) _ c.in_ok-print_register_or_none.ensures.ok
    (behind_piece _ _ _ (codes ", ") _ c.in_ok-put.ensures.ok
    (in_front _ _ (reg_or_none c.args.operands.now.a) _ c.in_err-print_register_or_none-2.ensures.prefix)))

pub returns-in_err-put-2-clause-prefix : goal.returns-in_err-put-2-clause-prefix
returns-in_err-put-2-clause-prefix c =
    failed _ _ (behind_piece _ _ _ (reg_or_none c.args.operands.now.b) _ c.in_ok-print_register_or_none.ensures.ok
    (behind_piece _ _ _ (codes ", ") _ c.in_ok-put.ensures.ok
    (behind_piece _ _ _ (reg_or_none c.args.operands.now.a) _ c.in_ok-print_register_or_none-2.ensures.ok
    (kept _ _ _ c.in_err-put-2.ensures.kept))))

pub returns-clause-prefix : goal.returns-clause-prefix
returns-clause-prefix c =
    on_failure c.print_register_or_none-3.result c.print_register_or_none-3.ensures.prefix
    (λ p. behind_piece _ _ _ (reg_or_none c.args.operands.now.b) _ c.in_ok-print_register_or_none.ensures.ok
    (behind_piece _ _ _ (codes ", ") _ c.in_ok-put.ensures.ok
    (behind_piece _ _ _ (reg_or_none c.args.operands.now.a) _ c.in_ok-print_register_or_none-2.ensures.ok
    (behind_piece _ _ _ (codes ", ") _ c.in_ok-put-2.ensures.ok
    p))))
