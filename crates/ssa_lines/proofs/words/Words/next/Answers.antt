use Rattle.std.proofs.Common.{◌≡◌, ◌-◌, ◌<◌, length, take, drop, sym, ap, subst, ◌∙◌, arith}
use Rattle.std.proofs.lemmas.Bool.{eqb-true, eqb-false}
use Rattle.std.proofs.lemmas.List.{take_rest}
use Rattle.std.specs.Option.{option_copied}
use Rattle.ssa_lines.specs.Words.{words_of, TakesNext}
use Rattle.ssa_lines.proofs.WordLemmas.{behind_spaces, word_is_taken, no_word_is_taken}
use Rattle.ssa_lines.proofs.words.Words.next.Goals as goal
use Rattle.ssa_lines.proofs.words.Words.next.Goals.{then-is_empty, else-is_empty}

pub returns : goal.returns
returns c =
    let line = c.self.inside.rest.now in
    let m = c.space_length.result in
    let n = c.word_length.result in
    let behind = take (length line - m) (drop m line) in
    let word = c.split_at.result.0.now in
    let rest = c.split_at.result.1.now in
    let cut : behind ≡ behind_spaces line = take_rest line m ∙ ap (λ k. drop k line) c.space_length.ensures.exact in
    let long = c.word_length.ensures.exact in
    let parts = c.split_at.ensures in
    elim c.if-is_empty.branch [
      | then-is_empty w ↦
          let none : length word ≡ 0 = eqb-true _ _ (sym c.is_empty.ensures ∙ w.if-is_empty.true) in
          let both = no_word_is_taken line behind word rest n cut long parts.front parts.back none in
          subst (λ o. TakesNext c.args.self.now (words_of rest) (option_copied o)) (sym w.result-is)
          (sym c.self.view_is ∙ both.0, both.1)
      | else-is_empty w ↦
          let other = eqb-false (length word) 0 (sym c.is_empty.ensures ∙ w.if-is_empty.false) in
          let some : 0 < length word = omega (arith, other) in
          subst (λ o. TakesNext c.args.self.now (words_of rest) (option_copied o)) (sym w.result-is)
          (sym c.self.view_is ∙ word_is_taken line behind word rest n cut long parts.front parts.back some)
    ]
