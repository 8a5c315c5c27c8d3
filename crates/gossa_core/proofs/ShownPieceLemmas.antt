-- Pieces of a run of bytes.
use Rattle.std.proofs.Common.{◌≡◌, ℕ, zero, suc, ◌+◌, ◌-◌, ◌<◌, ◌≤◌, min, List, [], ◌∷◌, ◌++◌}
use Rattle.std.proofs.Common.{length, take, drop, refl, ap, ◌∙◌, arith}
use Rattle.std.specs.List.{flat_map}
use Rattle.std.proofs.lemmas.List.{length-append, length-drop}
use Rattle.gossa_base.proofs.ListPieces.{front_taken}
use Rattle.gossa_core.specs.ShownText.{pieces_within, mem_line, run_text}

-- more pieces than are needed change nothing
enough : (n m : ℕ) (run : List (ℕ × ℕ)) → length run ≤ n → length run ≤ m → pieces_within n run ≡ pieces_within m run
enough zero zero run a b = refl
enough zero (suc m) [] a b = refl
enough zero (suc m) (p ∷ run) a b = absurd (omega arith)
enough (suc n) zero [] a b = refl
enough (suc n) zero (p ∷ run) a b = absurd (omega arith)
enough (suc n) (suc m) [] a b = refl
enough (suc n) (suc m) (p ∷ run) a b =
    let rest : List (ℕ × ℕ) = drop 16 (p ∷ run) in
    let shorter : length rest ≡ length (p ∷ run) - 16 = length-drop 16 (p ∷ run) in
    ap (λ pieces. take 16 (p ∷ run) ∷ pieces) (enough n m rest (omega arith) (omega arith))

-- the line of the first piece, and those behind it
pieces_begin : (run : List (ℕ × ℕ)) → 0 < length run → run_text run ≡ mem_line (take 16 run) ++ run_text (drop 16 run)
pieces_begin [] some = absurd (omega arith)
pieces_begin (p ∷ run) some =
    let rest : List (ℕ × ℕ) = drop 16 (p ∷ run) in
    let shorter : length rest ≡ length (p ∷ run) - 16 = length-drop 16 (p ∷ run) in
    ap (λ pieces. mem_line (take 16 (p ∷ run)) ++ flat_map mem_line pieces)
    (enough (length run) (length rest) rest (omega arith) (omega arith))

-- the same, where the first piece is a front of at most 16 bytes, and fewer only at the end
pub run_step : (run front rest : List (ℕ × ℕ)) → run ≡ front ++ rest → length front ≡ min 16 (length run)
    → 0 < length run → run_text run ≡ mem_line front ++ run_text rest
run_step run front rest e piece some =
    let total : length run ≡ length front + length rest = ap length e ∙ length-append front rest in
    let parts = front_taken 16 front rest (piece ∙ ap (λ n. min 16 n) total) in
    pieces_begin run some
    ∙ ap (λ l. mem_line (take 16 l) ++ run_text (drop 16 l)) e
    ∙ ap (λ t. mem_line t ++ run_text (drop 16 (front ++ rest))) parts.0
    ∙ ap (λ d. mem_line front ++ run_text d) parts.1
