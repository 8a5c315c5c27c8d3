use Rattle.std.proofs.Common.{ap, cond, sym, ◌∙◌, rules, FitsSigned, w64, int_rem}
use Rattle.std.proofs.lemmas.Bool.{ne_eqb}
use Rattle.std.proofs.lemmas.Int.{to_z-of_z}
use Rattle.gossa_base.specs.Words.{low, signed_at, word_of}
use Rattle.arm64_ops.proofs.DivisionLemmas.{fits_within, wrapped_word}
use Rattle.arm64_ops.proofs.division.remainder.Goals as goal

pub returns : goal.returns
returns c =
    let k = c.args.k in
    let fits_x : FitsSigned w64 c.signed.result = search rules in
    let fits_y : FitsSigned w64 c.signed-2.result = search rules in
    let fits_r : FitsSigned w64 c.wrapping_rem.result = search rules in
    c.low-2.ensures
    ∙ ap (low k)
    (c.cast_unsigned.ensures ∙ wrapped_word c.wrapping_rem.result (fits_within c.wrapping_rem.result fits_r)
    ∙ ap word_of (c.wrapping_rem.ensures
    ∙ λ i. int_rem (to_z-of_z w64 c.signed.result fits_x i) (to_z-of_z w64 c.signed-2.result fits_y i))
    ∙ λ i. word_of (int_rem (c.signed.ensures i) (c.signed-2.ensures i)))
    ∙ ap (λ t. cond t (low k c.args.a) (low k (word_of (int_rem (signed_at k c.args.a) (signed_at k c.args.b)))))
    (sym (ne_eqb (low k c.args.b) 0 (λ h. c.if-low-eq0.false (c.low.ensures ∙ h))))
