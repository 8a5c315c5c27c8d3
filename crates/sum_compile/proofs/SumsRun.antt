-- The lines of a narrow function's values bring each value to its place.
use Rattle.std.proofs.Common.{◌≡◌, ◌≢◌, ℕ, suc, ◌+◌, ◌-◌, ◌<◌, ◌≤◌, Bool, true, false, eqb, List, [], ◌∷◌, length, drop}
use Rattle.std.proofs.Common.{get_or, Some, slice_get, refl, sym, ap, subst, ◌∙◌, ◌⊎◌, inl, inr, arith}
use Rattle.std.specs.List.{flat_map}
use Rattle.std.proofs.lemmas.Bool.{eqb-true}
use Rattle.std.proofs.lemmas.Bool.Decides.{nat_tests}
use Rattle.std.proofs.lemmas.Option.{slice_get-get_or, slice_get_within}
use Rattle.gossa_base.specs.Words.{low}
use Rattle.gossa_base.specs.declared.ids.ValueId.{ValueId}
use Rattle.ssa_ir.specs.Inputs.{Inputs}
use Rattle.ssa_ir.specs.Run.{put}
use Rattle.listing.specs.declared.line.Place.{Place}
use Rattle.listing.specs.declared.line.Place.TheVariants.{Frame}
use Rattle.listing.specs.declared.code.Code.{Code}
use Rattle.listing.specs.Machine.{Machine, word_at}
use Rattle.sum_compile.specs.Narrow.{Step, TakeArg, MakeConst, AddTwo, vid, step_value, values_from, StepsFit, StepFits}
use Rattle.sum_compile.specs.Narrow.{IsAbove}
use Rattle.sum_compile.specs.Plain.{home_word, place_of, value_lines, add_lines}
use Rattle.sum_compile.proofs.StraightLemmas.{after, after_append, AllStraight, straight_append, drop_head, drop_tail}
use Rattle.sum_compile.proofs.MachineLemmas.{IsHeld, Apart, word_apart, sum_frame, sum_straight, put_same}
use Rattle.sum_compile.proofs.NarrowRun.{step_word}
use Rattle.sum_compile.proofs.PlacedLemmas.{values_of, step_place, place_of_step, homes_differ, step_has_home}

pub low_low : (x : ℕ) → low 64 (low 64 x) ≡ low 64 x
low_low x = omega arith

pub low_sum : (x y x' y' : ℕ) → low 64 x ≡ low 64 x' → low 64 y ≡ low 64 y' → low 64 (x + y) ≡ low 64 (x' + y')
low_sum x y x' y' p q = omega arith

-- a step whose value stands at its place before any sum is computed
abbrev pub IsEarly : Step → Type 0
IsEarly (TakeArg i) = Unit {0}
IsEarly (MakeConst c) = Unit {0}
IsEarly (AddTwo a b) = ⊥

-- the values of numbers below n, and those that stand from the beginning, have their words at their places
abbrev pub Good : Inputs → Code → (ℕ → ℕ) → List Step → (r n : ℕ) → Machine → Type 0
Good inputs code words all r n m =
    (i : ℕ) (s : Step) → slice_get all i ≡ Some s → (2 + i < n) ⊎ IsEarly s
    → low 64 (word_at inputs code (place_of (values_of all r) (vid (2 + i))) m) ≡ low 64 (words (2 + i))

-- each value's word is that of its step
abbrev pub IsWorded : Inputs → (ℕ → ℕ) → List Step → Type 0
IsWorded inputs words all =
    (i : ℕ) (s : Step) → slice_get all i ≡ Some s → low 64 (words (2 + i)) ≡ low 64 (step_word inputs words s)

step_in : (steps : List Step) (i : ℕ) → i < length steps → (s : Step) × (slice_get steps i ≡ Some s)
step_in steps i lt = (get_or steps i (TakeArg 0), slice_get-get_or steps i (TakeArg 0) lt)

place_held : (h : ℕ) (s : Step) → IsHeld (step_place h s)
place_held h (TakeArg i) = tt
place_held h (MakeConst c) = tt
place_held h (AddTwo a b) = tt

place_apart : (h k : ℕ) (s : Step) → (step_has_home s ≡ true → k ≢ h) → Apart h (step_place k s)
place_apart h k (TakeArg i) ne = ne refl
place_apart h k (MakeConst c) ne = tt
place_apart h k (AddTwo a b) ne = ne refl

-- a value that stands above is at its place
pub operand_word : (inputs : Inputs) (code : Code) (words : ℕ → ℕ) (all : List Step) (r n a : ℕ) (m : Machine)
    → IsAbove n a → n ≤ 2 + length all
    → Good inputs code words all r n m → low 64 (word_at inputs code (place_of (values_of all r) (vid a)) m)
    ≡ low 64 (words a)
operand_word inputs code words all r n a m above le good =
    let s = step_in all (a - 2) (omega (arith, above.behind_first, above.above)) in
    let number : 2 + (a - 2) ≡ a = omega (arith, above.behind_first) in
    let P : ℕ → Type 0 = λ k. low 64 (word_at inputs code (place_of (values_of all r) (vid k)) m) ≡ low 64 (words k) in
    subst P number (good (a - 2) s.0 s.1 (inl (omega (arith, above.above, number))))

operand_held : (all : List Step) (r n a : ℕ) → IsAbove n a → n ≤ 2 + length all
    → IsHeld (place_of (values_of all r) (vid a))
operand_held all r n a above le =
    let s = step_in all (a - 2) (omega (arith, above.behind_first, above.above)) in
    let number : 2 + (a - 2) ≡ a = omega (arith, above.behind_first) in
    let P : ℕ → Type 0 = λ k. IsHeld (place_of (values_of all r) (vid k)) in
    subst P number (subst IsHeld (sym (place_of_step all r (a - 2) s.0 s.1)) (place_held _ s.0))

equal_or_not : (i j : ℕ) (t : Bool) → eqb i j ≡ t → (i ≡ j) ⊎ (i ≢ j)
equal_or_not i j true t = inl (eqb-true i j t)
equal_or_not i j false t = inr (differ i j t)
  where
    differ : (i j : ℕ) → eqb i j ≡ false → i ≢ j
    differ i j f e = grind (arith, nat_tests)

earlier : (i j n : ℕ) (s : Step) → n ≡ 2 + i → j ≢ i → (2 + j < suc n) ⊎ IsEarly s → (2 + j < n) ⊎ IsEarly s
earlier i j n s e ne (inl lt) = inl (omega arith)
earlier i j n s e ne (inr early) = inr early

-- the lines of a sum bring its value to its place, and leave the others
good_sum : (inputs : Inputs) (code : Code) (words : ℕ → ℕ) (all : List Step) (r n i a b : ℕ) (m : Machine)
    → IsWorded inputs words all
    → n ≡ 2 + i → slice_get all i ≡ Some (AddTwo a b) → IsAbove n a → IsAbove n b → n ≤ 2 + length all
    → Good inputs code words all r n m
    → Good inputs code words all r (suc n)
    (after inputs code (add_lines (place_of (values_of all r)) (vid n) (vid a ∷ vid b ∷ [])) m)
good_sum inputs code words all r n i a b m worded e here above_a above_b le good j t p q =
    let at = place_of (values_of all r) in
    let h = home_word (values_of all r) (2 + i) in
    let m' = after inputs code (add_lines at (vid n) (vid a ∷ vid b ∷ [])) m in
    let x = word_at inputs code (at (vid a)) m in
    let y = word_at inputs code (at (vid b)) m in
    let stands : at (vid (2 + i)) ≡ Frame h = place_of_step all r i (AddTwo a b) here in
    let mine : at (vid n) ≡ Frame h = ap (λ k. at (vid k)) e ∙ stands in
    let frame : m'.frame ≡ put m.frame h (low 64 (x + y)) =
    sum_frame inputs code at (vid n) (vid a) (vid b) h m mine (operand_held all r n b above_b le) in
    elim (equal_or_not j i (eqb j i) refl) [
      | inl same ↦
          ap (λ k. low 64 (word_at inputs code (at (vid (2 + k))) m')) same
          ∙ ap (λ z. low 64 (word_at inputs code z m')) stands
          ∙ ap (λ f. low 64 (f h)) frame ∙ ap (low 64) (put_same m.frame h (low 64 (x + y)) h refl) ∙ low_low (x + y)
          ∙ low_sum x y (words a) (words b) (operand_word inputs code words all r n a m above_a le good)
          (operand_word inputs code words all r n b m above_b le good)
          ∙ sym (low_low (words a + words b)) ∙ sym (worded i (AddTwo a b) here)
          ∙ ap (λ k. low 64 (words (2 + k))) (sym same)
      | inr ne ↦
          let away : Apart h (step_place (home_word (values_of all r) (2 + j)) t) =
          place_apart h _ t (λ home. homes_differ all r j i t (AddTwo a b) p here ne home refl) in
          ap (low 64) (word_apart inputs code (at (vid (2 + j))) h (low 64 (x + y)) m m'
          (subst (Apart h) (sym (place_of_step all r j t p)) away) frame)
          ∙ good j t p (earlier i j n t e ne q)
    ]

-- a step that has no lines leaves its value where it stood
good_early : (inputs : Inputs) (code : Code) (words : ℕ → ℕ) (all : List Step) (r n i : ℕ) (s : Step) (m : Machine)
    → n ≡ 2 + i
    → slice_get all i ≡ Some s → IsEarly s → Good inputs code words all r n m → Good inputs code words all r (suc n) m
good_early inputs code words all r n i s m e here early good j t p q = elim (equal_or_not j i (eqb j i) refl) [
  | inl same ↦ good j t p (inr (subst IsEarly (same_step all i j s t same here p) early))
  | inr ne ↦ good j t p (earlier i j n t e ne q)
]
  where
    same_step : (all : List Step) (i j : ℕ) (s t : Step) → j ≡ i → slice_get all i ≡ Some s → slice_get all j ≡ Some t
        → s ≡ t
    same_step all i j s t e p q = let both : Some s ≡ Some t = sym p ∙ ap (slice_get all) (sym e) ∙ q in cc

good_at : (inputs : Inputs) (code : Code) (words : ℕ → ℕ) (all : List Step) (r n n' : ℕ) (m : Machine) → n ≡ n'
    → Good inputs code words all r n m → Good inputs code words all r n' m
good_at inputs code words all r n n' m e good = subst (λ k. Good inputs code words all r k m) e good

-- one step's lines, and its value is at its place
good_step : (inputs : Inputs) (code : Code) (words : ℕ → ℕ) (all : List Step) (params r n i : ℕ) (s : Step)
    (m : Machine) → IsWorded inputs words all
    → n ≡ 2 + i → slice_get all i ≡ Some s → StepFits params n s → n ≤ 2 + length all → Good inputs code words all r n m
    → Good inputs code words all r (suc n)
    (after inputs code (value_lines (place_of (values_of all r)) (step_value n s)) m)
good_step inputs code words all params r n i (TakeArg q) m worded e here fits le good =
    good_early inputs code words all r n i (TakeArg q) m e here tt good
good_step inputs code words all params r n i (MakeConst c) m worded e here fits le good =
    good_early inputs code words all r n i (MakeConst c) m e here tt good
good_step inputs code words all params r n i (AddTwo a b) m worded e here fits le good =
    good_sum inputs code words all r n i a b m worded e here fits.0 fits.1 le good

-- the lines of all values, and every value is at its place
pub sums_run : (inputs : Inputs) (code : Code) (words : ℕ → ℕ) (all : List Step) (params r n i : ℕ) (steps : List Step)
    (m : Machine)
    → IsWorded inputs words all → n ≡ 2 + i → drop i all ≡ steps → StepsFit params n steps
    → Good inputs code words all r n m
    → Good inputs code words all r (n + length steps)
    (after inputs code (flat_map (value_lines (place_of (values_of all r))) (values_from n steps r)) m)
sums_run inputs code words all params r n i [] m worded e d fits good =
    good_at inputs code words all r n (n + 0) m (omega arith) good
sums_run inputs code words all params r n i (s ∷ steps) m worded e d fits good =
    let at = place_of (values_of all r) in
    let here = drop_head all i s steps d in
    let lt = slice_get_within all i s here in
    let m1 = after inputs code (value_lines at (step_value n s)) m in
    let now = good_step inputs code words all params r n i s m worded e here fits.0 (omega arith) good in
    let later =
    sums_run inputs code words all params r (suc n) (suc i) steps m1 worded (omega arith) (drop_tail all i s steps d)
    fits.1 now in
    let long : suc n + length steps ≡ n + suc (length steps) = omega arith in
    subst (Good inputs code words all r (n + suc (length steps)))
    (sym (after_append inputs code (value_lines at (step_value n s))
    (flat_map (value_lines at) (values_from (suc n) steps r)) m))
    (good_at inputs code words all r (suc n + length steps) (n + suc (length steps)) _ long later)

-- the lines of a step's value only move and compute
step_straight : (at : ValueId → Place) (n : ℕ) (s : Step) → AllStraight (value_lines at (step_value n s))
step_straight at n (TakeArg i) = tt
step_straight at n (MakeConst c) = tt
step_straight at n (AddTwo a b) = sum_straight at (vid n) (vid a) (vid b)

pub sums_straight : (at : ValueId → Place) (n : ℕ) (steps : List Step) (r : ℕ)
    → AllStraight (flat_map (value_lines at) (values_from n steps r))
sums_straight at n [] r = tt
sums_straight at n (s ∷ steps) r =
    straight_append (value_lines at (step_value n s)) (flat_map (value_lines at) (values_from (suc n) steps r))
    (step_straight at n s) (sums_straight at (suc n) steps r)
