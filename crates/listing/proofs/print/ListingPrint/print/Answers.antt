use Rattle.std.proofs.Common.{◌≡◌, ◌++◌, ℕ, List, ap, ◌∙◌, subst}
use Rattle.gossa_base.specs.Prefixes.{AddsPrefix}
use Rattle.gossa_base.proofs.PrefixLemmas.{in_front, behind_piece, failed, on_failure}
use Rattle.listing.specs.declared.code.Map.{Map}
use Rattle.listing.specs.Text.{head_text, maps_text}
use Rattle.listing.proofs.print.ListingPrint.print.Goals as goal

pub returns-in_err-print_head-clause-prefix : goal.returns-in_err-print_head-clause-prefix
returns-in_err-print_head-clause-prefix c =
    failed _ _ (in_front _ _ (head_text c.args.self.now) _ c.in_err-print_head.ensures.prefix)

pub returns-in_err-print_maps-clause-prefix : goal.returns-in_err-print_maps-clause-prefix
returns-in_err-print_maps-clause-prefix c =
    let headed : List ℕ = c.print_head.new.text.items in
    let after : List ℕ = c.print_maps.new.text.items in
    failed _ _ (behind_piece _ headed after (head_text c.args.self.now) _ c.in_ok-print_head.ensures.ok
    (in_front headed after (maps_text 0 c.args.self.now.maps) _
    (subst (λ (maps : List Map). AddsPrefix headed after (maps_text 0 maps)) c.as_slice.ensures
    c.in_err-print_maps.ensures.prefix)))

pub returns-clause-prefix : goal.returns-clause-prefix
returns-clause-prefix c =
    let headed : List ℕ = c.print_head.new.text.items in
    let mapped : List ℕ = c.print_maps.new.text.items in
    let maps : mapped ≡ headed ++ maps_text 0 c.args.self.now.maps
    = c.in_ok-print_maps.ensures.ok ∙ ap (λ (maps : List Map). headed ++ maps_text 0 maps) c.as_slice.ensures in
    on_failure c.print_lines.result c.print_lines.ensures.prefix
    (λ p. behind_piece _ headed _ (head_text c.args.self.now) _ c.in_ok-print_head.ensures.ok
    (behind_piece headed mapped _ (maps_text 0 c.args.self.now.maps) _ maps p))
