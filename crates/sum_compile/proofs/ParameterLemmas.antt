-- The table of parameters gives each its first value.
use Rattle.std.proofs.Common.{◌≡◌, ℕ, suc, ◌+◌, ◌<◌, Bool, true, false, cond, eqb, List, [], ◌∷◌, length, get_or, set}
use Rattle.std.proofs.Common.{slice_get, replicate, Option, None, Some, refl, sym, ap, ◌∙◌, ◌⊎◌, inl, inr, arith}
use Rattle.std.specs.Option.{option_map}
use Rattle.std.specs.List.{find}
use Rattle.std.proofs.lemmas.Bool.{eqb-true}
use Rattle.std.proofs.lemmas.Bool.Decides.{nat_tests}
use Rattle.std.proofs.lemmas.List.{get_or-set_same, get_or-set_other, get_or-replicate, length-set, length-replicate}
use Rattle.std.proofs.lemmas.Option.{slice_get-get_or, get_or_from_slice_get}
use Rattle.gossa_base.specs.declared.ids.ValueId.{ValueId}
use Rattle.ssa_ir.specs.declared.types.Scalar.{Scalar}
use Rattle.ssa_ir.specs.declared.func.Value.{Value}
use Rattle.sum_compile.specs.tables.Parameters.{noted_in, noted_at, noted, noted_all, held_from}
use Rattle.sum_compile.specs.Plain.{parameter_number, is_number, parameter, held_then, parameters_from}

-- the first that is there
abbrev or_else : Option ValueId → Option ValueId → Option ValueId
or_else None y = y
or_else (Some x) y = Some x

or_else_none : (x : Option ValueId) → or_else x None ≡ x
or_else_none None = refl
or_else_none (Some x) = refl

or_else_same : (x y : Option ValueId) (z : ValueId) → x ≡ Some z → x ≡ or_else x y
or_else_same None y z e = cc
or_else_same (Some x) y z e = refl

-- a value's number, where it is parameter i
abbrev here : ℕ → ValueId → Option ℕ → Option ValueId
here i id number = cond (is_number i number) (Some id) None

other_here : (i n : ℕ) (id : ValueId) → (n ≡ i → ⊥) → here i id (Some n) ≡ None
other_here i n id ne = ap (λ b. cond b (Some id) None) (other i n ne)
  where
    other : (i n : ℕ) → (n ≡ i → ⊥) → eqb n i ≡ false
    other i n ne = grind (arith, nat_tests)

same_here : (i n : ℕ) (id : ValueId) → n ≡ i → here i id (Some n) ≡ Some id
same_here i n id e = ap (λ b. cond b (Some id) None) (same i n e)
  where
    same : (i n : ℕ) → n ≡ i → eqb n i ≡ true
    same i n e = grind (arith, nat_tests)

-- two numbers are equal or not
differ : (n i : ℕ) → eqb n i ≡ false → n ≡ i → ⊥
differ n i f e = grind (arith, nat_tests)

by_test : (n i : ℕ) (b : Bool) → eqb n i ≡ b → (n ≡ i) ⊎ (n ≡ i → ⊥)
by_test n i true t = inl (eqb-true n i t)
by_test n i false f = inr (differ n i f)

nat_eq_or : (n i : ℕ) → (n ≡ i) ⊎ (n ≡ i → ⊥)
nat_eq_or n i = by_test n i (eqb n i) refl

-- what a note leaves at place i, by what stands at place n
note_in : (ids : List (Option ValueId)) (id : ValueId) (n i : ℕ) (o : Option (Option ValueId)) → slice_get ids n ≡ o
    → i < length ids
    → get_or (noted_in ids id n o) i None ≡ or_else (get_or ids i None) (here i id (Some n))
note_in ids id n i None e lt =
    sym (ap (or_else (get_or ids i None)) (other_here i n id (λ same. past ids n i e same lt))
    ∙ or_else_none (get_or ids i None))
  where
    past : (ids : List (Option ValueId)) (n i : ℕ) → slice_get ids n ≡ None → n ≡ i → i < length ids → ⊥
    past ids n i e same lt = let there = slice_get-get_or ids n None (omega arith) in cc
note_in ids id n i (Some (Some x)) e lt = elim (nat_eq_or n i) [
  | inl same ↦ or_else_same (get_or ids i None) (here i id (Some n)) x
      (ap (λ k. get_or ids k None) (sym same) ∙ get_or_from_slice_get ids n (Some x) None e)
  | inr other ↦ sym (ap (or_else (get_or ids i None)) (other_here i n id other) ∙ or_else_none (get_or ids i None))
]
note_in ids id n i (Some None) e lt = elim (nat_eq_or n i) [
  | inl same ↦
      ap (λ k. get_or (set ids k (Some id)) i None) same ∙ get_or-set_same ids i (Some id) None lt
      ∙ sym (ap (λ g. or_else g (here i id (Some n)))
      (ap (λ k. get_or ids k None) (sym same) ∙ get_or_from_slice_get ids n None None e) ∙ same_here i n id same)
  | inr other ↦
      get_or-set_other ids n i (Some id) None (λ e. other (sym e))
      ∙ sym (ap (or_else (get_or ids i None)) (other_here i n id other) ∙ or_else_none (get_or ids i None))
]

note_at : (ids : List (Option ValueId)) (id : ValueId) (number : Option ℕ) (i : ℕ) → i < length ids
    → get_or (noted_at ids id number) i None ≡ or_else (get_or ids i None) (here i id number)
note_at ids id None i lt = sym (or_else_none (get_or ids i None))
note_at ids id (Some n) i lt = note_in ids id n i (slice_get ids n) refl lt

length-note_in : (ids : List (Option ValueId)) (id : ValueId) (n : ℕ) (o : Option (Option ValueId))
    → length (noted_in ids id n o) ≡ length ids
length-note_in ids id n None = refl
length-note_in ids id n (Some (Some x)) = refl
length-note_in ids id n (Some None) = length-set ids n (Some id)

length-note_at : (ids : List (Option ValueId)) (id : ValueId) (number : Option ℕ)
    → length (noted_at ids id number) ≡ length ids
length-note_at ids id None = refl
length-note_at ids id (Some n) = length-note_in ids id n (slice_get ids n)

length-noted_all : (ids : List (Option ValueId)) (values : List Value) → length (noted_all ids values) ≡ length ids
length-noted_all ids [] = refl
length-noted_all ids (v ∷ values) =
    length-noted_all (noted ids v) values ∙ length-note_at ids v.id (parameter_number v.op v.aux)

first_of : (x : Option ValueId) (b : Bool) (v : Value) (rest : Option Value)
    → or_else (or_else x (cond b (Some v.id) None)) (option_map (λ u. u.id) rest)
    ≡ or_else x (option_map (λ u. u.id) (cond b (Some v) rest))
first_of (Some y) b v rest = refl
first_of None true v rest = refl
first_of None false v rest = refl

-- what the table has in the end: what stood there, or else the first value that is the parameter
noted_get : (ids : List (Option ValueId)) (values : List Value) (i : ℕ) → i < length ids
    → get_or (noted_all ids values) i None ≡ or_else (get_or ids i None) (parameter values i)
noted_get ids [] i lt = sym (or_else_none (get_or ids i None))
noted_get ids (v ∷ values) i lt =
    let number = parameter_number v.op v.aux in
    noted_get (noted ids v) values i (omega (arith, length-note_at ids v.id number))
    ∙ ap (λ g. or_else g (parameter values i)) (note_at ids v.id number i lt)
    ∙ first_of (get_or ids i None) (is_number i number) v (find (λ u. is_number i (parameter_number u.op u.aux)) values)

-- a table that has each parameter gives the registers that hold them
held_parameters : (values : List Value) (k : ℕ) (ids : List (Option ValueId)) (types : List Scalar)
    → length ids ≡ length types
    → ((j : ℕ) → j < length ids → get_or ids j None ≡ parameter values (k + j))
    → held_from k ids ≡ parameters_from values k types
held_parameters values k [] [] e h = refl
held_parameters values k [] (t ∷ types) e h = absurd (omega arith)
held_parameters values k (id ∷ ids) [] e h = absurd (omega arith)
held_parameters values k (id ∷ ids) (t ∷ types) e h =
    ap (λ o. held_then k o (held_from (suc k) ids)) (h 0 (omega arith) ∙ ap (parameter values) (omega arith))
    ∙ ap (held_then k (parameter values k))
    (held_parameters values (suc k) ids types (omega arith)
    (λ j lt. h (suc j) (omega arith) ∙ ap (parameter values) (omega arith)))

-- the parameters of a block, found in one pass
pub parameters_found : (values : List Value) (types : List Scalar)
    → held_from 0 (noted_all (replicate (length types) None) values) ≡ parameters_from values 0 types
parameters_found values types =
    let start : List (Option ValueId) = replicate (length types) None in
    held_parameters values 0 (noted_all start values) types
    (length-noted_all start values ∙ length-replicate (length types) None)
    (λ j lt. entry values (length types) j
    (omega (arith, length-noted_all start values, length-replicate {A = Option ValueId} (length types) None)))
  where
    entry : (values : List Value) (n j : ℕ) → j < n
        → get_or (noted_all (replicate n None) values) j None ≡ parameter values (0 + j)
    entry values n j lt =
        noted_get (replicate n None) values j (omega (arith, length-replicate {A = Option ValueId} n None))
        ∙ ap (λ g. or_else g (parameter values j)) (get_or-replicate n j None None lt)
        ∙ ap (parameter values) (omega arith)
