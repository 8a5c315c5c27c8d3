use Rattle.std.proofs.Common.{◌≡◌, ℕ, List, subst, arith}
use Rattle.std.proofs.lemmas.Grind.{common_steps}
use Rattle.std.specs.List.{flat_map}
use Rattle.gossa_base.specs.Prefixes.{AddsPrefix}
use Rattle.gossa_base.proofs.PrefixLemmas.{in_item, failed}
use Rattle.listing.specs.declared.line.Line.{Line}
use Rattle.listing.specs.Text.{whole_line}
use Rattle.listing.proofs.print.print_lines.Goals as goal

pub returns-in_err-print_whole_line-clause-prefix : goal.returns-in_err-print_whole_line-clause-prefix
returns-in_err-print_whole_line-clause-prefix c =
    let before : List ℕ = c.args.text.now.items in
    let after : List ℕ = c.print_whole_line.new.text.items in
    let same : c.as_slice-line-items.result.now ≡ c.args.code.now.lines = grind (arith, common_steps) in
    failed _ _ (subst (λ (lines : List Line). AddsPrefix before after (flat_map (whole_line c.args.code.now) lines))
    same
    (in_item (whole_line c.args.code.now) _ _ _ before _ after
    c.loop-line-test.true c.line-item.is c.loop-line.invariant c.in_err-print_whole_line.ensures.prefix))
