-- The number of a name among others, by a scan.
use Rattle.std.proofs.Common.{◌≡◌, ℕ, suc, ◌+◌, ◌<◌, ◌≤◌, Bool, true, cond, List, length, drop, get_or, position, None}
use Rattle.std.proofs.Common.{Some, sym, ap, ◌∙◌}
use Rattle.std.specs.List.{position_from}
use Rattle.std.proofs.Math.ListN.{drop_of_length-le}
use Rattle.std.proofs.Math.Seq.{drop-cons}
use Rattle.std.proofs.lemmas.Iterator.Adapters.{position_from-zero}

-- where none of the first i names passes the test
module _ (test : List ℕ → Bool) (names : List (List ℕ)) (i : ℕ)
    (so_far : position_from test 0 names ≡ position_from test i (drop i names)) where
  -- the next one may
  pub found_here : (n : List ℕ) → i < length names → n ≡ get_or names i n → test n ≡ true → Some i ≡ position test names
  found_here n lt there passes =
      let behind = position_from test (i + 1) (drop (suc i) names) in
      sym (position_from-zero test names ∙ so_far ∙ ap (position_from test i) (drop-cons names i n lt)
      ∙ ap (λ b. cond b (Some i) behind) (ap test (sym there) ∙ passes))

  -- or there is none
  pub found_nowhere : length names ≤ i → None ≡ position test names
  found_nowhere le =
      sym (position_from-zero test names ∙ so_far ∙ ap (position_from test i) (drop_of_length-le names le))
