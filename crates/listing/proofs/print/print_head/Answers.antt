use Rattle.std.proofs.Common.{◌≡◌, ◌++◌, ℕ, List, codes, arith, rules, subst}
use Rattle.std.proofs.lemmas.Grind.{common_steps}
use Rattle.gossa_base.specs.Prefixes.{AddsPrefix}
use Rattle.gossa_base.proofs.PrefixLemmas.{in_front, behind_piece, failed}
use Rattle.ssa_ir.specs.Texts.{sig_text}
use Rattle.listing.specs.Text.{field_text, frame_text}
use Rattle.listing.proofs.print.print_head.Goals as goal

pub returns-in_err-print_frame-clause-prefix : goal.returns-in_err-print_frame-clause-prefix
returns-in_err-print_frame-clause-prefix c =
    let sig : c.print.new.out.items ≡ c.put.new.out.items ++ sig_text c.args.listing.now.code.sig
    = grind (arith, common_steps, c.in_ok-print.ensures.ok) in
    failed _ _ (behind_piece _ _ _ (codes "TEXT ") _ c.in_ok-put.ensures.ok
    (behind_piece _ _ _ (sig_text c.args.listing.now.code.sig) _ sig
    (in_front _ _ (frame_text c.args.listing.now) _ c.in_err-print_frame.ensures.prefix)))

pub returns-in_err-print_field-clause-prefix : goal.returns-in_err-print_field-clause-prefix
returns-in_err-print_field-clause-prefix c =
    let sig : c.print.new.out.items ≡ c.put.new.out.items ++ sig_text c.args.listing.now.code.sig
    = grind (arith, common_steps, c.in_ok-print.ensures.ok) in
    let regs : c.from.result ≡ c.args.listing.now.code.regs = search rules in
    let framed : List ℕ = c.print_frame.new.text.items in
    let after : List ℕ = c.print_field.new.text.items in
    failed _ _ (behind_piece _ _ _ (codes "TEXT ") _ c.in_ok-put.ensures.ok
    (behind_piece _ _ _ (sig_text c.args.listing.now.code.sig) _ sig
    (behind_piece _ _ _ (frame_text c.args.listing.now) _ c.in_ok-print_frame.ensures.ok
    (in_front framed after (field_text (codes ", regs=") c.args.listing.now.code.regs) _
    (subst (λ (n : ℕ). AddsPrefix framed after (field_text (codes ", regs=") n)) regs
    c.in_err-print_field.ensures.prefix)))))
