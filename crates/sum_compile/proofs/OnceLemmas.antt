-- Steps of which no two take the same parameter, by flags of the parameters that were taken.
use Rattle.std.proofs.Common.{◌≡◌, ◌==◌, ℕ, suc, ◌<◌, ◌≤◌, Bool, true, false, not, ◌||◌, List, [], ◌∷◌, length, get_or}
use Rattle.std.proofs.Common.{set, refl, sym, ap, ◌∙◌, get_or-set_same, get_or-set_other, arith}
use Rattle.std.specs.List.{list_any}
use Rattle.std.proofs.lemmas.Bool.{false≢true}
use Rattle.std.proofs.lemmas.Bool.Decides.{Decides-eqb}
use Rattle.std.proofs.lemmas.List.{length-set}
use Rattle.sum_compile.specs.Narrow.{Step, TakeArg, MakeConst, AddTwo, StepsFit, takes, takes_once}
use Rattle.sum_compile.specs.NarrowTest.{take_new}
use Rattle.sum_compile.proofs.NarrowLemmas.{step_values}
use Rattle.sum_compile.proofs.PartTestLemmas.{and_both, both_and, is_false}

or_right : (a b : Bool) → (a || b) ≡ false → b ≡ false
or_right true b h = cc
or_right false b h = h

-- no step takes a parameter that has a flag
abbrev pub TakeNone : List Bool → List Step → Type 0
TakeNone flags steps = (i : ℕ) → get_or flags i false ≡ true → list_any (takes i) steps ≡ false

-- a step takes no parameter that has a flag, where it takes one that has none, and no later one does
first_takes : (flags : List Bool) (i : ℕ) (steps : List Step) → get_or flags i false ≡ false
    → TakeNone (set flags i true) steps
    → TakeNone flags (TakeArg i ∷ steps)
first_takes flags i steps fresh later j has = go (j == i) refl
  where
    go : (same : Bool) → (j == i) ≡ same → ((j == i) || list_any (takes j) steps) ≡ false
    go true same =
        let at : j ≡ i = (Decides-eqb j i).0 same in
        absurd (false≢true (sym fresh ∙ ap (λ k. get_or flags k false) (sym at) ∙ has))
    go false apart =
        let other : j ≡ i → ⊥ = λ e. false≢true (sym apart ∙ (Decides-eqb j i).1 e) in
        ap (λ b. b || list_any (takes j) steps) apart ∙ later j (get_or-set_other flags i j true false other ∙ has)

-- nor do later ones, with the flag of the parameter that the first one takes
later_take : (flags : List Bool) (i : ℕ) (steps : List Step) → not (list_any (takes i) steps) ≡ true
    → TakeNone flags (TakeArg i ∷ steps)
    → TakeNone (set flags i true) steps
later_take flags i steps new none j has = go (j == i) refl
  where
    go : (same : Bool) → (j == i) ≡ same → list_any (takes j) steps ≡ false
    go true same =
        ap (λ k. list_any (takes k) steps) ((Decides-eqb j i).0 same) ∙ is_false (list_any (takes i) steps) new
    go false apart =
        let other : j ≡ i → ⊥ = λ e. false≢true (sym apart ∙ (Decides-eqb j i).1 e) in
        or_right (j == i) (list_any (takes j) steps)
        (none j (sym (get_or-set_other flags i j true false other) ∙ has))

-- a parameter that the first step takes has no flag
first_is_new : (flags : List Bool) (i : ℕ) (steps : List Step) → TakeNone flags (TakeArg i ∷ steps)
    → not (get_or flags i false) ≡ true
first_is_new flags i steps none = go (get_or flags i false) refl
  where
    go : (has : Bool) → get_or flags i false ≡ has → not has ≡ true
    go true has =
        let same : (i == i) ≡ true = (Decides-eqb i i).1 refl in
        absurd (false≢true (sym (none i has) ∙ ap (λ b. b || list_any (takes i) steps) same))
    go false has = refl

-- steps whose values pass the test take each parameter once, and none that has a flag
pub once_from_test : (params n : ℕ) (flags : List Bool) (steps : List Step) → params ≤ 16 → length flags ≡ 16
    → StepsFit params n steps
    → take_new flags (step_values n steps) ≡ true → (takes_once steps ≡ true) × TakeNone flags steps
once_from_test params n flags [] few many fit new = (refl, λ i has. refl)
once_from_test params n flags (MakeConst c ∷ steps) few many fit new =
    once_from_test params (suc n) flags steps few many fit.1 new
once_from_test params n flags (AddTwo a b ∷ steps) few many fit new =
    once_from_test params (suc n) flags steps few many fit.1 new
once_from_test params n flags (TakeArg i ∷ steps) few many fit new =
    let parts = and_both (not (get_or flags i false)) (take_new (set flags i true) (step_values (suc n) steps)) new in
    let later =
    once_from_test params (suc n) (set flags i true) steps few (length-set flags i true ∙ many) fit.1 parts.1 in
    let low : i < length flags = omega (arith, many, fit.0) in
    let alone : list_any (takes i) steps ≡ false = later.1 i (get_or-set_same flags i true false low) in (
      both_and (not (list_any (takes i) steps)) (takes_once steps) (ap not alone) later.0,
      first_takes flags i steps (is_false (get_or flags i false) parts.0) later.1,
    )

-- and the other way round
pub test_from_once : (params n : ℕ) (flags : List Bool) (steps : List Step) → params ≤ 16 → length flags ≡ 16
    → StepsFit params n steps
    → takes_once steps ≡ true → TakeNone flags steps → take_new flags (step_values n steps) ≡ true
test_from_once params n flags [] few many fit once none = refl
test_from_once params n flags (MakeConst c ∷ steps) few many fit once none =
    test_from_once params (suc n) flags steps few many fit.1 once none
test_from_once params n flags (AddTwo a b ∷ steps) few many fit once none =
    test_from_once params (suc n) flags steps few many fit.1 once none
test_from_once params n flags (TakeArg i ∷ steps) few many fit once none =
    let parts = and_both (not (list_any (takes i) steps)) (takes_once steps) once in
    both_and (not (get_or flags i false)) (take_new (set flags i true) (step_values (suc n) steps))
    (first_is_new flags i steps none)
    (test_from_once params (suc n) (set flags i true) steps few (length-set flags i true ∙ many) fit.1 parts.1
    (later_take flags i steps parts.0 none))
