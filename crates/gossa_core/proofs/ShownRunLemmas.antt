-- Runs of bytes at consecutive addresses.
use Rattle.std.proofs.Common.{◌≡◌, ℕ, suc, ◌+◌, ◌<◌, ◌≤◌, ◌==◌, Bool, true, false, cond, List, [], ◌∷◌, ◌++◌}
use Rattle.std.proofs.Common.{length, take, drop, get_or, refl, sym, ap, ◌∙◌, arith}
use Rattle.std.specs.List.{flat_map}
use Rattle.std.proofs.lemmas.List.{drop_more}
use Rattle.gossa_core.specs.ShownText.{run_before, runs_of, run_text, changed_text}
use Rattle.gossa_core.specs.tables.RunLengths.{more_after, run_length}

-- a byte before m more at the front of a run: it goes on with them, or is a run of its own
by_test : (b : Bool) (p q : ℕ × ℕ) (m : ℕ) (changes : List (ℕ × ℕ))
    → runs_of (q ∷ changes) ≡ take (suc m) (q ∷ changes) ∷ runs_of (drop (suc m) (q ∷ changes))
    → cond b ((p ∷ q ∷ take m changes) ∷ runs_of (drop m changes))
    ((p ∷ []) ∷ (q ∷ take m changes) ∷ runs_of (drop m changes))
    ≡ take (suc (cond b (suc m) 0)) (p ∷ q ∷ changes) ∷ runs_of (drop (suc (cond b (suc m) 0)) (p ∷ q ∷ changes))
by_test true p q m changes first = refl
by_test false p q m changes first = ap (λ runs. (p ∷ []) ∷ runs) (sym first)

-- the first run, and the runs behind it
first_run : (p : ℕ × ℕ) (changes : List (ℕ × ℕ))
    → runs_of (p ∷ changes)
    ≡ take (suc (more_after p changes)) (p ∷ changes) ∷ runs_of (drop (suc (more_after p changes)) (p ∷ changes))
first_run p [] = refl
first_run p (q ∷ changes) =
    let first = first_run q changes in
    ap (run_before p) first ∙ by_test (q.0 == p.0 + 1) p q (more_after q changes) changes first

-- the text of the first run, and that of the bytes behind it
pub changed_step : (changes : List (ℕ × ℕ)) → 0 < length changes
    → changed_text changes
    ≡ run_text (take (run_length changes) changes) ++ changed_text (drop (run_length changes) changes)
changed_step [] some = absurd (omega arith)
changed_step (p ∷ changes) some = ap (flat_map run_text) (first_run p changes)

within_by_test : (b : Bool) (m n : ℕ) → m ≤ n → cond b (suc m) 0 ≤ suc n
within_by_test true m n h = omega arith
within_by_test false m n h = omega arith

more_within : (p : ℕ × ℕ) (changes : List (ℕ × ℕ)) → more_after p changes ≤ length changes
more_within p [] = omega arith
more_within p (q ∷ changes) =
    within_by_test (q.0 == p.0 + 1) (more_after q changes) (length changes) (more_within q changes)

-- a run is not longer than the bytes
pub run_within : (changes : List (ℕ × ℕ)) → run_length changes ≤ length changes
run_within [] = omega arith
run_within (p ∷ changes) = let h = more_within p changes in omega arith

-- a run ends before a byte that doesn't go on from its last
pub run_stops : (i n : ℕ) (p : ℕ × ℕ) (others : List (ℕ × ℕ)) → i < length others
    → ((get_or others i (0, 0)).0 == p.0 + 1) ≡ false → suc (i + more_after p (drop i others)) ≡ n → i + 1 ≡ n
run_stops i n p others within other so_far =
    let q : ℕ × ℕ = get_or others i (0, 0) in
    let ended : more_after p (drop i others) ≡ 0
    = ap (more_after p) (drop_more others i (0, 0) within)
    ∙ ap (λ b. cond b (suc (more_after q (drop (i + 1) others))) 0) other in
    omega (arith, ended, so_far)
