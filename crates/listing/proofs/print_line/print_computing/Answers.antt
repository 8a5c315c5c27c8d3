use Rattle.std.proofs.Common.{◌≡◌, ◌++◌, ℕ, ℤ, List, w64, rules, ap, ◌∙◌, subst}
use Rattle.std.proofs.lemmas.Int.{to_z-of_z}
use Rattle.gossa_base.specs.Prefixes.{AddsPrefix}
use Rattle.gossa_base.proofs.PrefixLemmas.{in_front, behind_piece, failed, on_failure}
use Rattle.listing.specs.Text.{op_text}
use Rattle.listing.proofs.print_line.print_computing.Goals as goal

pub returns-in_err-print_op-clause-prefix : goal.returns-in_err-print_op-clause-prefix
returns-in_err-print_op-clause-prefix c =
    let same = to_z-of_z w64 c.args.aux (search rules) in
    let before : List ℕ = c.args.text.now.items in
    let after : List ℕ = c.print_op.new.text.items in
    failed _ _ (in_front before after (op_text c.args.op c.args.aux c.args.operands.now) _
    (subst (λ (aux : ℤ). AddsPrefix before after (op_text c.args.op aux c.args.operands.now)) same
    c.in_err-print_op.ensures.prefix))

pub returns-clause-prefix : goal.returns-clause-prefix
returns-clause-prefix c =
    let same = to_z-of_z w64 c.args.aux (search rules) in
    let before : List ℕ = c.args.text.now.items in
    let computed : List ℕ = c.print_op.new.text.items in
    let op : computed ≡ before ++ op_text c.args.op c.args.aux c.args.operands.now
    = c.in_ok-print_op.ensures.ok ∙ ap (λ (aux : ℤ). before ++ op_text c.args.op aux c.args.operands.now) same in
    on_failure c.print.result c.print.ensures.prefix
    (λ p. behind_piece before computed _ (op_text c.args.op c.args.aux c.args.operands.now) _ op p)
