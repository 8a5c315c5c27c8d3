use Rattle.std.proofs.Common.{◌≡◌, ◌++◌, ℕ, List, codes, ap, ◌∙◌, subst, rules}
use Rattle.gossa_base.specs.Prefixes.{AddsPrefix}
use Rattle.gossa_base.proofs.PrefixLemmas.{in_front, behind_piece, failed, on_failure}
use Rattle.listing.specs.Frame.{frame_size}
use Rattle.listing.specs.Text.{field_text}
use Rattle.listing.proofs.print.print_frame.Goals as goal

-- a field of the same number
same_field : (name : List ℕ) (a b : List ℕ) (n m : ℕ) → n ≡ m → b ≡ a ++ field_text name n → b ≡ a ++ field_text name m
same_field name a b n m e p = p ∙ ap (λ (k : ℕ). a ++ field_text name k) e

in_same_field : (name : List ℕ) (a b : List ℕ) (n m : ℕ) → n ≡ m → AddsPrefix a b (field_text name n)
    → AddsPrefix a b (field_text name m)
in_same_field name a b n m e p = subst (λ (k : ℕ). AddsPrefix a b (field_text name k)) e p

pub returns-in_err-print_field-clause-prefix : goal.returns-in_err-print_field-clause-prefix
returns-in_err-print_field-clause-prefix c =
    failed _ _ (in_front _ _ (field_text (codes ", frame=") (frame_size c.args.listing.now)) _
    (in_same_field (codes ", frame=") _ _ _ _ c.frame_size.ensures c.in_err-print_field.ensures.prefix))

pub returns-in_err-print_field-2-clause-prefix : goal.returns-in_err-print_field-2-clause-prefix
returns-in_err-print_field-2-clause-prefix c =
    let frame = same_field (codes ", frame=") _ _ _ _ c.frame_size.ensures c.in_ok-print_field.ensures.ok in
    let out : c.from.result ≡ c.args.listing.now.code.out = search rules in
    failed _ _ (behind_piece _ _ _ (field_text (codes ", frame=") (frame_size c.args.listing.now)) _ frame
    (in_front _ _ (field_text (codes ", out=") c.args.listing.now.code.out) _
    (in_same_field (codes ", out=") _ _ _ _ out c.in_err-print_field-2.ensures.prefix)))

pub returns-in_err-print_field-3-clause-prefix : goal.returns-in_err-print_field-3-clause-prefix
returns-in_err-print_field-3-clause-prefix c =
    let frame = same_field (codes ", frame=") _ _ _ _ c.frame_size.ensures c.in_ok-print_field.ensures.ok in
    let out : c.from.result ≡ c.args.listing.now.code.out = search rules in
    let ptr : c.from-2.result ≡ c.args.listing.now.ptr = search rules in
    failed _ _ (behind_piece _ _ _ (field_text (codes ", frame=") (frame_size c.args.listing.now)) _ frame
    (behind_piece _ _ _ (field_text (codes ", out=") c.args.listing.now.code.out) _
    (same_field (codes ", out=") _ _ _ _ out c.in_ok-print_field-2.ensures.ok)
    (in_front _ _ (field_text (codes ", ptr=") c.args.listing.now.ptr) _
    (in_same_field (codes ", ptr=") _ _ _ _ ptr c.in_err-print_field-3.ensures.prefix))))

pub returns-clause-prefix : goal.returns-clause-prefix
returns-clause-prefix c =
    let frame = same_field (codes ", frame=") _ _ _ _ c.frame_size.ensures c.in_ok-print_field.ensures.ok in
    let out : c.from.result ≡ c.args.listing.now.code.out = search rules in
    let ptr : c.from-2.result ≡ c.args.listing.now.ptr = search rules in
    let scalar : c.from-3.result ≡ c.args.listing.now.scalar = search rules in
    on_failure c.print_field-4.result c.print_field-4.ensures.prefix
    (λ p. behind_piece _ _ _ (field_text (codes ", frame=") (frame_size c.args.listing.now)) _ frame
    (behind_piece _ _ _ (field_text (codes ", out=") c.args.listing.now.code.out) _
    (same_field (codes ", out=") _ _ _ _ out c.in_ok-print_field-2.ensures.ok)
    (behind_piece _ _ _ (field_text (codes ", ptr=") c.args.listing.now.ptr) _
    (same_field (codes ", ptr=") _ _ _ _ ptr c.in_ok-print_field-3.ensures.ok)
    (in_same_field (codes ", scalar=") _ _ _ _ scalar p))))
