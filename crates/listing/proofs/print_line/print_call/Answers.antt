use Rattle.std.proofs.Common.{◌≡◌, ◌++◌, ℕ, List, codes, decimal, rules, ap, ◌∙◌}
use Rattle.gossa_base.proofs.PrefixLemmas.{kept, behind_piece, failed, on_failure}
use Rattle.listing.proofs.print_line.print_call.Goals as goal

pub returns-in_err-put_number-clause-prefix : goal.returns-in_err-put_number-clause-prefix
returns-in_err-put_number-clause-prefix c =
    failed _ _ (behind_piece _ _ _ (codes "CALL ") _ c.in_ok-put.ensures.ok
    (behind_piece _ _ _ _ _ c.in_ok-print_symbol.ensures.ok
    (behind_piece _ _ _ (codes "(SB), map=") _ c.in_ok-put-2.ensures.ok
    (kept _ _ _ c.in_err-put_number.ensures.kept))))

pub returns-clause-prefix : goal.returns-clause-prefix
returns-clause-prefix c =
    let same : c.from.result ≡ c.args.map = search rules in
    let behind_name : List ℕ = c.put-2.new.out.items in
    let numbered : List ℕ = c.put_number.new.out.items in
    let number : numbered ≡ behind_name ++ decimal c.args.map
    = c.in_ok-put_number.ensures.ok ∙ ap (λ (n : ℕ). behind_name ++ decimal n) same in
    on_failure c.print.result c.print.ensures.prefix
    (λ p. behind_piece _ _ _ (codes "CALL ") _ c.in_ok-put.ensures.ok
    (behind_piece _ _ _ _ _ c.in_ok-print_symbol.ensures.ok
    (behind_piece _ behind_name _ (codes "(SB), map=") _ c.in_ok-put-2.ensures.ok
    (behind_piece behind_name numbered _ (decimal c.args.map) _ number p))))
