use Rattle.std.proofs.Common.{◌≡◌, ◌≤◌, ◌++◌, ℕ, ◌<◌, List, length, take, drop, sym, ap, ◌∙◌, subst, rules}
use Rattle.std.proofs.lemmas.List.{append_assoc}
use Rattle.gossa_core.specs.tables.RunLengths.{run_length}
use Rattle.gossa_core.specs.ShownText.{run_text, changed_text}
use Rattle.gossa_core.proofs.ShownRunLemmas.{run_within, changed_step}
use Rattle.gossa_core.proofs.shown.put_changed.Goals as goal

pub split_at-requires : goal.split_at-requires
split_at-requires c =
    let rest : List (ℕ × ℕ) = c.loop-rest.rest.now in
    subst (λ n. n ≤ length rest) (sym c.run_length.ensures) (run_within rest)

pub loop-rest-preserved : goal.loop-rest-preserved
loop-rest-preserved c =
    let rest : List (ℕ × ℕ) = c.loop-rest.rest.now in
    let out : List ℕ = c.loop-rest.out.items in
    let n : ℕ = run_length rest in
    let run : List (ℕ × ℕ) = c.split_at.result.0.now in
    let others : List (ℕ × ℕ) = c.split_at.result.1.now in
    let some : 0 < length rest = search rules in
    let front : run ≡ take n rest = c.split_at.ensures.front ∙ ap (λ k. take k rest) c.run_length.ensures in
    let back : others ≡ drop n rest = c.split_at.ensures.back ∙ ap (λ k. drop k rest) c.run_length.ensures in
    let text : run_text run ++ changed_text others ≡ changed_text rest
    = ap (λ r. run_text r ++ changed_text others) front
    ∙ ap (λ o. run_text (take n rest) ++ changed_text o) back
    ∙ sym (changed_step rest some) in
    ap (λ t. t ++ changed_text others) c.in_ok-put_run.ensures
    ∙ append_assoc out (run_text run) (changed_text others)
    ∙ ap (λ t. out ++ t) text
    ∙ c.loop-rest.invariant
