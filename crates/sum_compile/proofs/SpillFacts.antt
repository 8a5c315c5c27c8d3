-- The parameters of a narrow function: which are spilled, and from where.
use Rattle.std.proofs.Common.{◌≡◌, ◌≢◌, ℕ, zero, suc, ◌+◌, ◌<◌, ◌≤◌, Bool, true, false, not, ◌&&◌, ◌||◌, cond, eqb, ltb}
use Rattle.std.proofs.Common.{List, [], ◌∷◌, length, replicate, Option, None, Some, slice_get, IsTrue, refl, sym, ap}
use Rattle.std.proofs.Common.{subst, ◌∙◌, ◌⊎◌, inl, inr, arith}
use Rattle.std.specs.Option.{option_map}
use Rattle.std.specs.List.{find, list_any}
use Rattle.std.proofs.lemmas.Bool.{eqb-true}
use Rattle.std.proofs.lemmas.Bool.Decides.{nat_tests}
use Rattle.gossa_base.specs.declared.ids.ValueId.{ValueId}
use Rattle.ssa_ir.specs.declared.abi.AbiPlace.TheVariants.{Reg as InRegister, Word}
use Rattle.ssa_ir.specs.declared.types.Scalar.{Scalar}
use Rattle.ssa_ir.specs.declared.types.Scalar.TheVariants.{I64}
use Rattle.ssa_ir.specs.declared.func.Value.{Value}
use Rattle.ssa_ir.specs.ArgumentPlaces.{places_from}
use Rattle.listing.specs.declared.line.Place.{Place}
use Rattle.listing.specs.declared.line.Place.TheVariants.{Frame}
use Rattle.listing.specs.ListingRun.{parameter_at}
use Rattle.sum_compile.specs.Narrow.{Step, TakeArg, MakeConst, AddTwo, vid, step_value, values_from, takes, is_new}
use Rattle.sum_compile.specs.Narrow.{takes_once}
use Rattle.sum_compile.specs.Plain.{home_word, place_of, parameter_number, is_number, parameter, held_then}
use Rattle.sum_compile.specs.Plain.{parameters_from}
use Rattle.sum_compile.proofs.MachineLemmas.{EachSpills, SomeSpills}
use Rattle.sum_compile.proofs.PlacedLemmas.{values_of, place_of_step, homes_differ}

same_test : (i j : ℕ) → i ≡ j → eqb i j ≡ true
same_test i j e = grind (arith, nat_tests)

other_test : (i j : ℕ) → i ≢ j → eqb i j ≡ false
other_test i j ne = grind (arith, nat_tests)

pub below_test : (i j : ℕ) → i < j → ltb i j ≡ true
below_test i j lt = grind (arith, nat_tests)

both_true : (a b : Bool) → IsTrue (a && b) → IsTrue a × IsTrue b
both_true true b h = (refl, h)
both_true false b h = cc

or_true : (a : Bool) → (a || true) ≡ true
or_true true = refl
or_true false = refl

-- a step that takes a parameter is among those that take it
any_takes : (steps : List Step) (i q : ℕ) → slice_get steps i ≡ Some (TakeArg q) → list_any (takes q) steps ≡ true
any_takes [] i q e = cc
any_takes (s ∷ steps) zero q e =
    let same : s ≡ TakeArg q = cc in
    ap (λ x. takes q x || list_any (takes q) steps) same ∙ ap (λ b. b || list_any (takes q) steps) (same_test q q refl)
any_takes (s ∷ steps) (suc i) q e = ap (λ b. takes q s || b) (any_takes steps i q e) ∙ or_true (takes q s)

not_again : (b : Bool) → b ≡ true → IsTrue (not b) → ⊥
not_again true e h = cc
not_again false e h = cc

-- the first value that is parameter q
abbrev pub first_taking : ℕ → List Value → Option Value
first_taking q values = find (λ v. is_number q (parameter_number v.op v.aux)) values

hit : (v : Value) (rest : Option Value) (b : Bool) → b ≡ true
    → option_map (λ (u : Value). u.id) (cond b (Some v) rest) ≡ Some v.id
hit v rest b e = ap (λ t. option_map (λ (u : Value). u.id) (cond t (Some v) rest)) e

miss : (v : Value) (rest : Option Value) (b : Bool) → b ≡ false
    → option_map (λ (u : Value). u.id) (cond b (Some v) rest) ≡ option_map (λ u. u.id) rest
miss v rest b e = ap (λ t. option_map (λ (u : Value). u.id) (cond t (Some v) rest)) e

-- where each parameter is taken once, the value that takes it is the first
pub parameter_is : (n : ℕ) (steps : List Step) (r i q : ℕ) → IsTrue (takes_once steps)
    → slice_get steps i ≡ Some (TakeArg q)
    → parameter (values_from n steps r) q ≡ Some (vid (n + i))
parameter_is n [] r i q once e = cc
parameter_is n (TakeArg j ∷ steps) r zero q once e =
    let same : j ≡ q = cc in
    hit (step_value n (TakeArg j)) (first_taking q (values_from (suc n) steps r)) (eqb j q) (same_test j q same)
    ∙ ap (λ k. Some (vid k)) (omega arith)
parameter_is n (TakeArg j ∷ steps) r (suc i) q once e =
    let parts = both_true (is_new (TakeArg j) steps) (takes_once steps) once in
    let ne : j ≢ q =
    λ same. not_again (list_any (takes j) steps) (ap (λ k. list_any (takes k) steps) same ∙ any_takes steps i q e)
    parts.0 in
    miss (step_value n (TakeArg j)) (first_taking q (values_from (suc n) steps r)) (eqb j q) (other_test j q ne)
    ∙ parameter_is (suc n) steps r i q parts.1 e ∙ ap (λ k. Some (vid k)) (omega arith)
parameter_is n (MakeConst c ∷ steps) r zero q once e = cc
parameter_is n (MakeConst c ∷ steps) r (suc i) q once e =
    parameter_is (suc n) steps r i q once e ∙ ap (λ k. Some (vid k)) (omega arith)
parameter_is n (AddTwo a b ∷ steps) r zero q once e = cc
parameter_is n (AddTwo a b ∷ steps) r (suc i) q once e =
    parameter_is (suc n) steps r i q once e ∙ ap (λ k. Some (vid k)) (omega arith)

-- the step that a parameter comes from
pub record Taken (n : ℕ) (steps : List Step) (q : ℕ) (id : ValueId) : Type 0 where
  pub place : ℕ
  pub step : slice_get steps place ≡ Some (TakeArg q)
  pub named : id ≡ vid (n + place)

later_taken : (n : ℕ) (s : Step) (steps : List Step) (q : ℕ) (id : ValueId) → Taken (suc n) steps q id
    → Taken n (s ∷ steps) q id
later_taken n s steps q id t = record { place = suc t.place; step = t.step; named = t.named ∙ ap vid (omega arith) }

taken_by_test : (n j : ℕ) (steps : List Step) (r q : ℕ) (id : ValueId) (t : Bool) → eqb j q ≡ t
    → (option_map (λ (u : Value). u.id) (first_taking q (values_from (suc n) steps r)) ≡ Some id
    → Taken (suc n) steps q id)
    → option_map (λ (u : Value). u.id)
    (cond t (Some (step_value n (TakeArg j))) (first_taking q (values_from (suc n) steps r))) ≡ Some id
    → Taken n (TakeArg j ∷ steps) q id
taken_by_test n j steps r q id true t later e =
    let same : vid n ≡ id = cc in
    record { place = 0; step = ap (λ k. Some (TakeArg k)) (eqb-true j q t); named = sym same ∙ ap vid (omega arith) }
taken_by_test n j steps r q id false t later e = later_taken n (TakeArg j) steps q id (later e)

pub taken_from : (n : ℕ) (steps : List Step) (r q : ℕ) (id : ValueId) → parameter (values_from n steps r) q ≡ Some id
    → Taken n steps q id
taken_from n [] r q id e = cc
taken_from n (TakeArg j ∷ steps) r q id e =
    taken_by_test n j steps r q id (eqb j q) refl (taken_from (suc n) steps r q id) e
taken_from n (MakeConst c ∷ steps) r q id e = later_taken n (MakeConst c) steps q id (taken_from (suc n) steps r q id e)
taken_from n (AddTwo a b ∷ steps) r q id e = later_taken n (AddTwo a b) steps q id (taken_from (suc n) steps r q id e)

same_parameter : (i j q q' : ℕ) (steps : List Step) → i ≡ j → slice_get steps i ≡ Some (TakeArg q)
    → slice_get steps j ≡ Some (TakeArg q') → q ≡ q'
same_parameter i j q q' steps e p p' =
    let both : Some (TakeArg q) ≡ Some (TakeArg q') = sym p ∙ ap (slice_get steps) e ∙ p' in cc

equal_or_not : (i j : ℕ) (t : Bool) → eqb i j ≡ t → (i ≡ j) ⊎ (i ≢ j)
equal_or_not i j true t = inl (eqb-true i j t)
equal_or_not i j false t = inr (differ i j t)
  where
    differ : (i j : ℕ) → eqb i j ≡ false → i ≢ j
    differ i j f e = grind (arith, nat_tests)

-- a parameter that is spilled to the home of a step's value is that step's
one_home : (steps : List Step) (r i q j : ℕ) (id : ValueId) (t : Taken 2 steps j id)
    → slice_get steps i ≡ Some (TakeArg q)
    → home_word (values_of steps r) (2 + t.place) ≡ home_word (values_of steps r) (2 + i) → j ≡ q
one_home steps r i q j id t e same = elim (equal_or_not t.place i (eqb t.place i) refl) [
  | inl eq ↦ same_parameter t.place i j q steps eq t.step e
  | inr ne ↦ absurd (homes_differ steps r t.place i (TakeArg j) (TakeArg q) t.step e ne refl refl same)
]

each_then : (steps : List Step) (r i q x : ℕ) (regs : ℕ → ℕ) (j : ℕ) (o : Option ValueId) (rest : List (ℕ × ValueId))
    → parameter (values_of steps r) j ≡ o → slice_get steps i ≡ Some (TakeArg q) → (j ≡ q → regs j ≡ x)
    → EachSpills (place_of (values_of steps r)) regs (home_word (values_of steps r) (2 + i)) x rest
    → EachSpills (place_of (values_of steps r)) regs (home_word (values_of steps r) (2 + i)) x (held_then j o rest)
each_then steps r i q x regs j None rest p e same each = each
each_then steps r i q x regs j (Some id) rest p e same each =
    let t = taken_from 2 steps r j id p in
    let home = home_word (values_of steps r) (2 + t.place) in
    let stands : place_of (values_of steps r) id ≡ Frame home =
    ap (place_of (values_of steps r)) t.named ∙ place_of_step steps r t.place (TakeArg j) t.step in
    ((home, stands, λ here. same (one_home steps r i q j id t e here)), each)

-- every parameter that is spilled to the home of a step's value brings the word of that step's parameter
pub each_spills : (steps : List Step) (r i q x : ℕ) (regs : ℕ → ℕ) (j : ℕ) (types : List Scalar)
    → slice_get steps i ≡ Some (TakeArg q)
    → ((k : ℕ) → k ≡ q → regs k ≡ x)
    → EachSpills (place_of (values_of steps r)) regs (home_word (values_of steps r) (2 + i)) x
    (parameters_from (values_of steps r) j types)
each_spills steps r i q x regs j [] e same = tt
each_spills steps r i q x regs j (t ∷ types) e same =
    each_then steps r i q x regs j (parameter (values_of steps r) j) _ refl e (same j)
    (each_spills steps r i q x regs (suc j) types e same)

some_after : (at : ValueId → Place) (h j : ℕ) (o : Option ValueId) (rest : List (ℕ × ValueId)) → SomeSpills at h rest
    → SomeSpills at h (held_then j o rest)
some_after at h j None rest some = some
some_after at h j (Some id) rest some = inr some

-- some parameter is spilled to the home of a step's value
pub some_spills : (steps : List Step) (r i q j : ℕ) (types : List Scalar) → IsTrue (takes_once steps)
    → slice_get steps i ≡ Some (TakeArg q)
    → j ≤ q → q < j + length types
    → SomeSpills (place_of (values_of steps r)) (home_word (values_of steps r) (2 + i))
    (parameters_from (values_of steps r) j types)
some_spills steps r i q j [] once e le lt = absurd (omega arith)
some_spills steps r i q j (t ∷ types) once e le lt = elim (equal_or_not j q (eqb j q) refl) [
  | inl same ↦
      let here : parameter (values_of steps r) j ≡ Some (vid (2 + i)) =
      ap (parameter (values_of steps r)) same ∙ parameter_is 2 steps r i q once e in
      subst (λ o. SomeSpills (place_of (values_of steps r)) (home_word (values_of steps r) (2 + i))
      (held_then j o (parameters_from (values_of steps r) (suc j) types)))
      (sym here) (inl (place_of_step steps r i (TakeArg q) e))
  | inr ne ↦ some_after _ _ j (parameter (values_of steps r) j) _
      (some_spills steps r i q (suc j) types once e (omega arith) (omega arith))
]

-- parameter j of those that registers hold stands in register j
pub parameter_register : (a t w q i j : ℕ) → t + q ≤ a → j < q
    → parameter_at i (InRegister (t + j)) (places_from a t w (replicate q I64)) ≡ Some (i + j)
parameter_register a t w zero i j fits lt = absurd (omega arith)
parameter_register a t w (suc q) i zero fits lt =
    let tail = places_from a (t + 1) w (replicate q I64) in
    ap (λ b. parameter_at i (InRegister (t + 0))
    (cond b (InRegister t ∷ tail) (Word w ∷ places_from a t (w + 1) (replicate q I64)))) (below_test t a (omega arith))
    ∙ ap (λ b. cond b (Some i) (parameter_at (suc i) (InRegister (t + 0)) tail)) (same_test t (t + 0) (omega arith))
    ∙ ap Some (omega arith)
parameter_register a t w (suc q) i (suc j) fits lt =
    let tail = places_from a (t + 1) w (replicate q I64) in
    ap (λ b. parameter_at i (InRegister (t + suc j))
    (cond b (InRegister t ∷ tail) (Word w ∷ places_from a t (w + 1) (replicate q I64)))) (below_test t a (omega arith))
    ∙ ap (λ b. cond b (Some i) (parameter_at (suc i) (InRegister (t + suc j)) tail))
    (other_test t (t + suc j) (omega arith))
    ∙ ap (λ k. parameter_at (suc i) (InRegister k) tail) (omega arith)
    ∙ parameter_register a (t + 1) w q (suc i) j (omega arith) (omega arith) ∙ ap Some (omega arith)
