-- Where the values of a narrow function stand.
use Rattle.std.proofs.Common.{◌≡◌, ◌≢◌, ℕ, zero, suc, ◌+◌, ◌-◌, ◌<◌, ◌≤◌, Bool, true, false, cond, ltb, List, [], ◌∷◌}
use Rattle.std.proofs.Common.{length, get_or, take, Some, slice_get, refl, sym, ap, ◌∙◌, ◌⊎◌, inl, inr, arith}
use Rattle.std.specs.List.{count_by}
use Rattle.std.proofs.lemmas.Bool.Decides.{nat_tests}
use Rattle.std.proofs.lemmas.List.Sums.{count_by_more_yes, sum_by_more}
use Rattle.std.proofs.lemmas.Option.{get_or_from_slice_get, slice_get_within}
use Rattle.ssa_ir.specs.declared.func.Value.{Value}
use Rattle.listing.specs.declared.line.Place.{Place}
use Rattle.listing.specs.declared.line.Place.TheVariants.{Frame, Const as Constant}
use Rattle.sum_compile.specs.Narrow.{Step, TakeArg, MakeConst, AddTwo, vid, step_value, init_value, values_from}
use Rattle.sum_compile.specs.tables.Numbered.{NumberedFrom}
use Rattle.sum_compile.specs.Plain.{has_home, home_word, place_of, place_of_value, value_named}
use Rattle.sum_compile.proofs.NarrowLemmas.{values_numbered, length-values_from}
use Rattle.sum_compile.proofs.NumberedLemmas.{named_get, homes_before}

-- all values of a narrow function
abbrev pub values_of : List Step → ℕ → List Value
values_of steps r = init_value ∷ values_from 2 steps r

pub all_numbered : (steps : List Step) (r : ℕ) → NumberedFrom 1 (values_of steps r)
all_numbered steps r = (refl, values_numbered 2 steps r)

-- the place of a step's value, by the word of its home
abbrev pub step_place : ℕ → Step → Place
step_place h (TakeArg i) = Frame h
step_place h (MakeConst c) = Constant c
step_place h (AddTwo a b) = Frame h

-- whether a step's value has a home
abbrev pub step_has_home : Step → Bool
step_has_home (TakeArg i) = true
step_has_home (MakeConst c) = false
step_has_home (AddTwo a b) = true

-- the value of a step stands at its place among the values
pub step_at : (n : ℕ) (steps : List Step) (r i : ℕ) (s : Step) → slice_get steps i ≡ Some s
    → slice_get (values_from n steps r) i ≡ Some (step_value (n + i) s)
step_at n [] r i s e = cc
step_at n (t ∷ steps) r zero s e =
    let same : t ≡ s = cc in ap (λ x. Some (step_value n x)) same ∙ ap (λ k. Some (step_value k s)) (omega arith)
step_at n (t ∷ steps) r (suc i) s e = step_at (suc n) steps r i s e ∙ ap (λ k. Some (step_value k s)) (omega arith)

step_named : (steps : List Step) (r i : ℕ) (s : Step) → slice_get steps i ≡ Some s
    → value_named (values_of steps r) (vid (2 + i)) ≡ Some (step_value (2 + i) s)
step_named steps r i s e =
    sym (named_get 1 (values_of steps r) (vid (2 + i)) (suc i) (all_numbered steps r) (omega arith))
    ∙ step_at 2 steps r i s e

placed_step : (values : List Value) (k : ℕ) (s : Step)
    → place_of_value values (vid k) (Some (step_value k s)) ≡ step_place (home_word values k) s
placed_step values k (TakeArg i) = refl
placed_step values k (MakeConst c) = refl
placed_step values k (AddTwo a b) = refl

-- where the value of a step stands
pub place_of_step : (steps : List Step) (r i : ℕ) (s : Step) → slice_get steps i ≡ Some s
    → place_of (values_of steps r) (vid (2 + i)) ≡ step_place (home_word (values_of steps r) (2 + i)) s
place_of_step steps r i s e =
    ap (place_of_value (values_of steps r) (vid (2 + i))) (step_named steps r i s e)
    ∙ placed_step (values_of steps r) (2 + i) s

home_of_step : (k : ℕ) (s : Step) → has_home (step_value k s).op ≡ step_has_home s
home_of_step k (TakeArg i) = refl
home_of_step k (MakeConst c) = refl
home_of_step k (AddTwo a b) = refl

below_or_not : (i j : ℕ) (b : Bool) → ltb i j ≡ b → (i < j) ⊎ (j ≤ i)
below_or_not i j true e = inl (grind (arith, nat_tests))
below_or_not i j false e = inr (grind (arith, nat_tests))

nat_eq_or_lt : (i j : ℕ) → (i < j) ⊎ (j ≤ i)
nat_eq_or_lt i j = below_or_not i j (ltb i j) refl

strictly : (i j : ℕ) → i ≢ j → j ≤ i → j < i
strictly i j ne ge = omega arith

-- taking more counts no less
count_more : (p : Value → Bool) (xs : List Value) (i d : ℕ) → i + d ≤ length xs
    → count_by p (take i xs) ≤ count_by p (take (i + d) xs)
count_more p xs i zero h =
    let e : count_by p (take (i + 0) xs) ≡ count_by p (take i xs) =
    ap (λ k. count_by p (take k xs)) (omega arith) in omega arith
count_more p xs i (suc d) h =
    let more = sum_by_more (λ v. cond (p v) 1 0) xs (i + d) init_value (omega arith) in
    let e : count_by p (take (i + suc d) xs) ≡ count_by p (take (i + d + 1) xs) =
    ap (λ k. count_by p (take k xs)) (omega arith) in
    let before = count_more p xs i d (omega arith) in
    omega arith

-- the homes in front of a step's value
home_count : (steps : List Step) (r i : ℕ) (s : Step) → slice_get steps i ≡ Some s
    → home_word (values_of steps r) (2 + i) ≡ count_by (λ v. has_home v.op) (take (1 + i) (values_of steps r))
home_count steps r i s e =
    let lt = slice_get_within steps i s e in
    homes_before 1 (values_of steps r) (1 + i) (2 + i) (all_numbered steps r)
    (omega (arith, length-values_from 2 steps r)) (omega arith)

-- the home of a later value is a later word
home_later : (steps : List Step) (r i j : ℕ) (s t : Step) → slice_get steps i ≡ Some s → slice_get steps j ≡ Some t
    → i < j
    → step_has_home s ≡ true → home_word (values_of steps r) (2 + i) < home_word (values_of steps r) (2 + j)
home_later steps r i j s t e f lt home =
    let values = values_of steps r in
    let p : Value → Bool = λ v. has_home v.op in
    let jlt = slice_get_within steps j t f in
    let long = length-values_from 2 steps r in
    let there : slice_get values (suc i) ≡ Some (step_value (2 + i) s) = step_at 2 steps r i s e in
    let one_more : 1 + i ≡ suc i = omega arith in
    let homed : p (get_or values (1 + i) init_value) ≡ true =
    ap p (ap (λ k. get_or values k init_value) one_more
    ∙ get_or_from_slice_get values (suc i) (step_value (2 + i) s) init_value there)
    ∙ home_of_step (2 + i) s ∙ home in
    let one = count_by_more_yes p values (1 + i) init_value (omega arith) homed in
    let rest = count_more p values (1 + i + 1) (j - i - 1) (omega arith) in
    let e2 : count_by p (take (1 + i + 1 + (j - i - 1)) values) ≡ count_by p (take (1 + j) values) =
    ap (λ k. count_by p (take k values)) (omega arith) in
    omega (arith, home_count steps r i s e, home_count steps r j t f, one, rest, e2)

-- two values with homes have two
pub homes_differ : (steps : List Step) (r i j : ℕ) (s t : Step) → slice_get steps i ≡ Some s
    → slice_get steps j ≡ Some t → i ≢ j
    → step_has_home s ≡ true → step_has_home t ≡ true
    → home_word (values_of steps r) (2 + i) ≢ home_word (values_of steps r) (2 + j)
homes_differ steps r i j s t e f ne hs ht same = elim (nat_eq_or_lt i j) [
  | inl lt ↦ omega (arith, home_later steps r i j s t e f lt hs, same)
  | inr ge ↦ omega (arith, home_later steps r j i t s f e (strictly i j ne ge) ht, same)
]
