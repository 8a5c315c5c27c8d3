use Rattle.std.proofs.Common.{ap, cond, sym, ◌∙◌, rules, FitsSigned, w64, int_div}
use Rattle.std.proofs.lemmas.Bool.{ne_eqb}
use Rattle.gossa_base.specs.Words.{low, signed_at, word_of}
use Rattle.arm64_ops.proofs.DivisionLemmas.{quotient_word}
use Rattle.arm64_ops.proofs.division.quotient.Goals as goal

pub returns : goal.returns
returns c =
    let k = c.args.k in
    let fits_x : FitsSigned w64 c.signed.result = search rules in
    let fits_y : FitsSigned w64 c.signed-2.result = search rules in
    let fits_q : FitsSigned w64 c.wrapping_div.result = search rules in
    c.low-2.ensures
    ∙ ap (low k)
    (quotient_word c.signed.result c.signed-2.result c.wrapping_div.result c.cast_unsigned.result fits_x fits_y fits_q
    c.wrapping_div.ensures c.cast_unsigned.ensures
    ∙ λ i. word_of (int_div (c.signed.ensures i) (c.signed-2.ensures i)))
    ∙ ap (λ t. cond t 0 (low k (word_of (int_div (signed_at k c.args.a) (signed_at k c.args.b)))))
    (sym (ne_eqb (low k c.args.b) 0 (λ h. c.if-low-eq0.false (c.low.ensures ∙ h))))
