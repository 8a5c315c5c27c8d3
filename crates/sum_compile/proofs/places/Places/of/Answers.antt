use Rattle.std.proofs.Common.{◌∙◌, ap, ◌+◌, ◌++◌, ◌∷◌, [], arith}
use Rattle.sum_compile.proofs.NumberedLemmas.{placed_more, counted_more}
use Rattle.sum_compile.proofs.places.Places.of.Goals as goal

pub loop-value-preserved : goal.loop-value-preserved
loop-value-preserved c =
    let values = c.args.values.now in
    let i = c.loop-value.value-index in
    let v = c.value-item.result in
    let counted =
    counted_more values i c.loop-value.words v (omega arith) c.value-item.is c.loop-value.invariant.words in
    record {
      places =
          c.in_ok-push.ensures.items ∙ ap (λ p. c.loop-value.by_number.items ++ p ∷ []) c.place_by_op.ensures
          ∙ placed_more values i c.loop-value.words v c.loop-value.by_number.items c.requires.numbered (omega arith)
          c.value-item.is
          c.loop-value.invariant.places c.loop-value.invariant.words;
      words = ap (λ n. c.loop-value.words + n) c.home_words-words.ensures ∙ counted;
      few = grind (arith, c.home_words-words.ensures);
    }
