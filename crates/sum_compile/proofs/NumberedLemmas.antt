-- Values that are numbered in order: each is found by its number, and as many homes stand before it as there are
-- values with a home in front of it.
use Rattle.std.proofs.Common.{◌≡◌, ℕ, zero, suc, ◌+◌, ◌<◌, ◌≤◌, Bool, true, false, ◌&&◌, cond, eqb, ltb, List, [], ◌∷◌}
use Rattle.std.proofs.Common.{◌++◌, length, get_or, take, map, Option, Some, None, unwrap_or, slice_get, refl, sym, ap}
use Rattle.std.proofs.Common.{◌∙◌, arith}
use Rattle.std.specs.Option.{option_map}
use Rattle.std.specs.List.{count_by}
use Rattle.std.proofs.lemmas.Bool.Decides.{nat_tests}
use Rattle.std.proofs.lemmas.Bool.{eqb-true}
use Rattle.std.proofs.lemmas.List.{take_more, map-append}
use Rattle.std.proofs.lemmas.List.Sums.{sum_by-cons, sum_by_more}
use Rattle.gossa_base.specs.declared.ids.ValueId.{ValueId}
use Rattle.ssa_ir.specs.declared.func.Value.{Value}
use Rattle.listing.specs.declared.line.Place.{Place}
use Rattle.sum_compile.specs.tables.Numbered.{NumberedFrom}
use Rattle.listing.specs.declared.line.Place.TheVariants.{Home}
use Rattle.sum_compile.specs.tables.Places.{place_by_number, place_in}
use Rattle.sum_compile.specs.Plain.{has_home, home_word, value_named, place_by_op, place_of_value, place_of}

pub same_number : (a b : ℕ) → a ≡ b → eqb a b ≡ true
same_number a b h = grind (arith, nat_tests)

pub other_number : (a b : ℕ) → a < b → eqb a b ≡ false
other_number a b h = grind (arith, nat_tests)

above_number : (a b : ℕ) → b < a → eqb a b ≡ false
above_number a b h = grind (arith, nat_tests)

lower : (a b : ℕ) → a < b → ltb a b ≡ true
lower a b h = grind (arith, nat_tests)

not_lower : (a b : ℕ) → b ≤ a → ltb a b ≡ false
not_lower a b h = grind (arith, nat_tests)

-- the value at place i has the number n + i
pub number_at : (n : ℕ) (values : List Value) (i : ℕ) (d : Value) → NumberedFrom n values → i < length values
    → (get_or values i d).id.0 ≡ n + i
number_at n [] i d h lt = absurd (omega arith)
number_at n (v ∷ values) zero d h lt = omega (arith, h.0)
number_at n (v ∷ values) (suc i) d h lt = omega (arith, number_at (suc n) values i d h.1 (omega arith))

-- it is found by its number
pub named_at : (n : ℕ) (values : List Value) (i : ℕ) (d : Value) → NumberedFrom n values → i < length values
    → value_named values (get_or values i d).id ≡ Some (get_or values i d)
named_at n [] i d h lt = absurd (omega arith)
named_at n (v ∷ values) zero d h lt =
    ap (λ b. cond b (Some v) (value_named values v.id)) (same_number v.id.0 v.id.0 refl)
named_at n (v ∷ values) (suc i) d h lt =
    let there = number_at (suc n) values i d h.1 (omega arith) in
    let u = get_or values i d in
    ap (λ b. cond b (Some v) (value_named values u.id)) (other_number v.id.0 u.id.0 (omega (arith, h.0, there)))
    ∙ named_at (suc n) values i d h.1 (omega arith)

-- one more value in front, lower or not
lower_first : (k : ℕ) (v : Value) (values : List Value) → v.id.0 < k
    → home_word (v ∷ values) k ≡ cond (has_home v.op) 1 0 + home_word values k
lower_first k v values lt = sum_by-cons (λ u. cond (ltb u.id.0 k && has_home u.op) 1 0) v values
    ∙ ap (λ b. cond (b && has_home v.op) 1 0 + home_word values k) (lower v.id.0 k lt)

higher_first : (k : ℕ) (v : Value) (values : List Value) → k ≤ v.id.0 → home_word (v ∷ values) k ≡ home_word values k
higher_first k v values le = sum_by-cons (λ u. cond (ltb u.id.0 k && has_home u.op) 1 0) v values
    ∙ ap (λ b. cond (b && has_home v.op) 1 0 + home_word values k) (not_lower v.id.0 k le) ∙ omega arith

-- no value from a number on counts as lower
pub none_lower : (n k : ℕ) (values : List Value) → NumberedFrom n values → k ≤ n → home_word values k ≡ 0
none_lower n k [] h le = refl
none_lower n k (v ∷ values) h le =
    higher_first k v values (omega (arith, h.0)) ∙ none_lower (suc n) k values h.1 (omega arith)

-- the homes of lower numbers are those in front
pub homes_before : (n : ℕ) (values : List Value) (i k : ℕ) → NumberedFrom n values → i ≤ length values → n + i ≡ k
    → home_word values k ≡ count_by (λ v. has_home v.op) (take i values)
homes_before n values zero k h le e = none_lower n k values h (omega arith)
homes_before n [] (suc i) k h le e = absurd (omega arith)
homes_before n (v ∷ values) (suc i) k h le e =
    lower_first k v values (omega (arith, h.0))
    ∙ ap (λ m. cond (has_home v.op) 1 0 + m) (homes_before (suc n) values i k h.1 (omega arith) (omega arith))
    ∙ sym (sum_by-cons (λ u. cond (has_home u.op) 1 0) v (take i values))

-- where the value at place i stands, by the homes in front of it
pub place_at : (values : List Value) (i : ℕ) (d : Value) → NumberedFrom 1 values → i < length values
    → place_of values (get_or values i d).id
    ≡ place_by_op (count_by (λ v. has_home v.op) (take i values)) (get_or values i d).id (get_or values i d).aux
    (get_or values i d).op
place_at values i d h lt =
    let u = get_or values i d in
    ap (place_of_value values u.id) (named_at 1 values i d h lt)
    ∙ ap (λ w. place_by_op w u.id u.aux u.op)
    (homes_before 1 values i u.id.0 h (omega arith) (sym (number_at 1 values i d h lt)))

-- one more value is placed
pub placed_more : (values : List Value) (i w : ℕ) (v : Value) (done : List Place) → NumberedFrom 1 values
    → i < length values
    → v ≡ get_or values i v → done ≡ map (λ u. place_of values u.id) (take i values)
    → w ≡ count_by (λ u. has_home u.op) (take i values)
    → done ++ place_by_op w v.id v.aux v.op ∷ [] ≡ map (λ u. place_of values u.id) (take (i + 1) values)
placed_more values i w v done h lt is e f =
    let u = get_or values i v in
    let at : Value → Place = λ x. place_of values x.id in
    let here : at u ≡ place_by_op w u.id u.aux u.op =
    place_at values i v h lt ∙ ap (λ k. place_by_op k u.id u.aux u.op) (sym f) in
    let mine : place_by_op w v.id v.aux v.op ≡ at u = ap (λ x. place_by_op w x.id x.aux x.op) is ∙ sym here in
    ap (λ l. l ++ place_by_op w v.id v.aux v.op ∷ []) e ∙ ap (λ p. map at (take i values) ++ p ∷ []) mine
    ∙ sym (ap (map at) (take_more values i v lt) ∙ map-append at (take i values) (u ∷ []))

-- one more value is counted
pub counted_more : (values : List Value) (i w : ℕ) (v : Value) → i < length values → v ≡ get_or values i v
    → w ≡ count_by (λ u. has_home u.op) (take i values)
    → w + cond (has_home v.op) 1 0 ≡ count_by (λ u. has_home u.op) (take (i + 1) values)
counted_more values i w v lt is f =
    ap (λ k. k + cond (has_home v.op) 1 0) f
    ∙ ap (λ x. count_by (λ u. has_home u.op) (take i values) + cond (has_home x.op) 1 0) is
    ∙ sym (sum_by_more (λ u. cond (has_home u.op) 1 0) values i v lt)

-- values numbered from n on have none of a lower number
none_named : (n : ℕ) (values : List Value) (id : ValueId) → NumberedFrom n values → id.0 < n
    → value_named values id ≡ None
none_named n [] id h lt = refl
none_named n (v ∷ values) id h lt =
    ap (λ b. cond b (Some v) (value_named values id)) (above_number v.id.0 id.0 (omega (arith, h.0)))
    ∙ none_named (suc n) values id h.1 (omega arith)

pub unnamed_zero : (values : List Value) (id : ValueId) → NumberedFrom 1 values → id.0 ≡ 0
    → None ≡ value_named values id
unnamed_zero values id h z = sym (none_named 1 values id h (omega arith))

-- the value of a number stands at its place, if it is there
pub named_get : (n : ℕ) (values : List Value) (id : ValueId) (i : ℕ) → NumberedFrom n values → id.0 ≡ n + i
    → slice_get values i ≡ value_named values id
named_get n [] id i h e = refl
named_get n (v ∷ values) id zero h e =
    sym (ap (λ b. cond b (Some v) (value_named values id)) (same_number v.id.0 id.0 (omega (arith, h.0))))
named_get n (v ∷ values) id (suc i) h e =
    named_get (suc n) values id i h.1 (omega arith)
    ∙ sym (ap (λ b. cond b (Some v) (value_named values id)) (other_number v.id.0 id.0 (omega (arith, h.0))))

pub same_id : (a b : ValueId) → a.0 ≡ b.0 → a ≡ b
same_id a b e = λ i. record { 0 = e i }

found_first : (u : Value) (id : ValueId) (rest : Option Value) (v : Value) (b : Bool) → eqb u.id.0 id.0 ≡ b
    → (rest ≡ Some v → v.id ≡ id)
    → cond b (Some u) rest ≡ Some v → v.id ≡ id
found_first u id rest v true t later f =
    let same : u ≡ v = cc in ap (λ x. x.id) (sym same) ∙ same_id u.id id (eqb-true u.id.0 id.0 t)
found_first u id rest v false t later f = later f

-- a value that is found by a number has it
named_id : (values : List Value) (id : ValueId) (v : Value) → value_named values id ≡ Some v → v.id ≡ id
named_id [] id v e = cc
named_id (u ∷ values) id v e =
    found_first u id (value_named values id) v (eqb u.id.0 id.0) refl (named_id values id v) e

map_get : {X Y : Type 0} (f : X → Y) (xs : List X) (n : ℕ) (d : Y)
    → get_or (map f xs) n d ≡ unwrap_or (option_map f (slice_get xs n)) d
map_get f [] n d = refl
map_get f (x ∷ xs) zero d = refl
map_get f (x ∷ xs) (suc n) d = map_get f xs n d

-- where a value that was found stands
found_place : (values : List Value) (id : ValueId) (o : Option Value) → value_named values id ≡ o
    → unwrap_or (option_map (λ v. place_of values v.id) o) (Home id) ≡ place_of values id
found_place values id None e = sym (ap (place_of_value values id) e)
found_place values id (Some v) e = ap (place_of values) (named_id values id v e)

by_number : (values : List Value) (id : ValueId) (n : ℕ) → id.0 ≡ n → NumberedFrom 1 values
    → place_by_number (map (λ v. place_of values v.id) values) id n ≡ place_of values id
by_number values id zero e h = ap (place_of_value values id) (unnamed_zero values id h e)
by_number values id (suc n) e h =
    map_get (λ v. place_of values v.id) values n (Home id)
    ∙ ap (λ o. unwrap_or (option_map (λ v. place_of values v.id) o) (Home id)) (named_get 1 values id n h (omega arith))
    ∙ found_place values id (value_named values id) refl

-- the table of places gives each value its place
pub table_places : (values : List Value) → NumberedFrom 1 values
    → place_in (map (λ v. place_of values v.id) values) ≡ place_of values
table_places values h = λ i id. by_number values id id.0 refl h i
