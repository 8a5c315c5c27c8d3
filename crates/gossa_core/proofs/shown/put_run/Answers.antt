use Rattle.std.proofs.Common.{◌≡◌, ◌++◌, ℕ, ◌<◌, List, min, length, sym, ap, ◌∙◌}
use Rattle.std.proofs.lemmas.List.{append_assoc}
use Rattle.gossa_core.specs.ShownText.{mem_line, run_text}
use Rattle.gossa_core.proofs.ShownPieceLemmas.{run_step}
use Rattle.gossa_core.proofs.shown.put_run.Goals as goal

pub loop-piece-preserved : goal.loop-piece-preserved
loop-piece-preserved c =
    let step = c.in-Some.ensures.steps in
    let before : List (ℕ × ℕ) = c.loop-piece.piece-iterator.rest.now in
    let piece : List (ℕ × ℕ) = c.in-Some.piece.now in
    let after : List (ℕ × ℕ) = c.next.new.self.rest.now in
    let size = c.loop-piece.piece-iterator.size in
    let sixteen = c.loop-piece.invariant.0 in
    let parts : (before ≡ piece ++ after) × (length piece ≡ min size (length before)) × (0 < length before) = step.1 in
    let full : length piece ≡ min 16 (length before) = parts.1 ∙ ap (λ n. min n (length before)) sixteen in
    let lines = run_step before piece after parts.0 full parts.2 in (
      step.0 ∙ sixteen,
      ap (λ t. t ++ run_text after) c.in_ok-put_piece.ensures
          ∙ append_assoc c.loop-piece.out.items (mem_line piece) (run_text after)
          ∙ ap (λ t. c.loop-piece.out.items ++ t) (sym lines)
          ∙ c.loop-piece.invariant.1,
    )
