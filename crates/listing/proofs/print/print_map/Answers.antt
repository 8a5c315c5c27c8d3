use Rattle.std.proofs.Common.{◌≡◌, ◌++◌, ℕ, Bool, List, codes, decimal, ap, ◌∙◌, subst}
use Rattle.gossa_base.specs.Prefixes.{AddsPrefix}
use Rattle.gossa_base.proofs.PrefixLemmas.{in_front, behind_piece, failed}
use Rattle.listing.specs.Text.{bits_text}
use Rattle.listing.proofs.print.print_map.Goals as goal

pub returns-in_err-print_map_words-clause-prefix : goal.returns-in_err-print_map_words-clause-prefix
returns-in_err-print_map_words-clause-prefix c =
    let numbered : List ℕ = c.put_number.new.out.items in
    let after : List ℕ = c.print_map_words.new.text.items in
    failed _ _ (behind_piece _ _ _ (codes "MAP ") _ c.in_ok-put.ensures.ok
    (behind_piece _ numbered after (decimal c.args.number) _ c.in_ok-put_number.ensures.ok
    (in_front numbered after (codes " args=" ++ bits_text c.args.map.now.args) _
    (subst (λ (bits : List Bool). AddsPrefix numbered after (codes " args=" ++ bits_text bits)) c.as_slice.ensures
    c.in_err-print_map_words.ensures.prefix))))

pub returns-in_err-print_map_words-2-clause-prefix : goal.returns-in_err-print_map_words-2-clause-prefix
returns-in_err-print_map_words-2-clause-prefix c =
    let numbered : List ℕ = c.put_number.new.out.items in
    let first : List ℕ = c.print_map_words.new.text.items in
    let after : List ℕ = c.print_map_words-2.new.text.items in
    let args : first ≡ numbered ++ (codes " args=" ++ bits_text c.args.map.now.args)
    = c.in_ok-print_map_words.ensures.ok
    ∙ ap (λ (bits : List Bool). numbered ++ (codes " args=" ++ bits_text bits)) c.as_slice.ensures in
    failed _ _ (behind_piece _ _ _ (codes "MAP ") _ c.in_ok-put.ensures.ok
    (behind_piece _ numbered _ (decimal c.args.number) _ c.in_ok-put_number.ensures.ok
    (behind_piece numbered first after (codes " args=" ++ bits_text c.args.map.now.args) _ args
    (in_front first after (codes " locals=" ++ bits_text c.args.map.now.locals) _
    (subst (λ (bits : List Bool). AddsPrefix first after (codes " locals=" ++ bits_text bits)) c.as_slice-2.ensures
    c.in_err-print_map_words-2.ensures.prefix)))))
