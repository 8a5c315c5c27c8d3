-- The table of values: entries of different numbers are put in as they stand, and a number's place leads to its value.
use Rattle.std.proofs.Common.{◌≡◌, ◌≢◌, ℕ, zero, suc, ◌<◌, ◌++◌, Bool, true, false, cond, eqb, List, [], ◌∷◌, length}
use Rattle.std.proofs.Common.{map, drop, get_or, slice_get, find, Option, None, Some, refl, sym, ap, subst, ◌∙◌}
use Rattle.std.proofs.Common.{append_assoc, arith}
use Rattle.std.specs.List.{flat_map}
use Rattle.std.specs.Map.{keys_of, lookup}
use Rattle.std.proofs.lemmas.Bool.{eqb-true}
use Rattle.std.proofs.lemmas.Bool.Decides.{nat_tests}
use Rattle.std.proofs.lemmas.List.{append-nil, map-append}
use Rattle.gossa_base.specs.declared.ids.ValueId.{ValueId}
use Rattle.indexmap.specs.IndexMap.{insert_entry, insert_all}
use Rattle.ssa_ir.specs.declared.func.Block.{Block}
use Rattle.ssa_ir.specs.declared.func.Func.{Func}
use Rattle.ssa_ir.specs.declared.func.Value.{Value}
use Rattle.ssa_ir.specs.Lookups.{is_numbered, value_of}
use Rattle.ssa_ir.specs.WellFormed.{Differ, WellFormedFunc}
use Rattle.ssa_tables.specs.Places.{places_in, places_from, places_of, place_in}
use Rattle.ssa_tables.specs.declared.values.Place.{Place}

-- ---- putting in

-- the numbers of values
abbrev numbers : List Value → List ℕ
numbers values = map (λ v. v.id.0) values

-- a number that differs from all these differs from the one behind ks
apart : (ks : List ℕ) (x k : ℕ) (more : List ℕ)
    → ((j : ℕ) → j < length (ks ++ k ∷ more) → x ≢ get_or (ks ++ k ∷ more) j 0) → x ≢ k
apart [] x k more h = h zero (omega arith)
apart (y ∷ ks) x k more h = apart ks x k more (λ j within. h (suc j) (omega (arith, within)))

differ_behind : (x : ℕ) (xs : List ℕ) → Differ (x ∷ xs) → Differ xs
differ_behind x xs h = λ i j d before within. h (suc i) (suc j) d (omega (arith, before)) (omega (arith, within))

-- a number that isn't there goes last
last_in : (done : List (ℕ × Place)) (k : ℕ) (place : Place) (more : List ℕ) → Differ (keys_of done ++ k ∷ more)
    → insert_entry eqb done k place ≡ done ++ (k, place) ∷ []
last_in [] k place more h = refl
last_in (e ∷ done) k place more h =
    go (eqb k e.0) refl (last_in done k place more (differ_behind e.0 (keys_of done ++ k ∷ more) h))
  where
    other : e.0 ≢ k
    other = apart (keys_of done) e.0 k more (λ j within. h zero (suc j) 0 (omega arith) (omega (arith, within)))

    go : (b : Bool) → eqb k e.0 ≡ b → insert_entry eqb done k place ≡ done ++ (k, place) ∷ []
        → cond b ((e.0, place) ∷ done) (e ∷ insert_entry eqb done k place) ≡ e ∷ (done ++ (k, place) ∷ [])
    go true same rest = absurd (other (sym (eqb-true k e.0 same)))
    go false same rest = ap (λ l. e ∷ l) rest

-- entries of different numbers are put in as they stand
all_in : (places done : List (ℕ × Place)) → Differ (keys_of (done ++ places))
    → insert_all eqb done places ≡ done ++ places
all_in [] done h = sym (append-nil done)
all_in (e ∷ places) done h =
    ap (λ l. insert_all eqb l places) last
    ∙ all_in places (done ++ e ∷ []) (subst (λ l. Differ (keys_of l)) (sym joined) h)
    ∙ joined
  where
    joined : (done ++ e ∷ []) ++ places ≡ done ++ e ∷ places
    joined = append_assoc done (e ∷ []) places

    last : insert_entry eqb done e.0 e.1 ≡ done ++ e ∷ []
    last =
        last_in done e.0 e.1 (keys_of places) (subst Differ (map-append (λ (p : ℕ × Place). p.0) done (e ∷ places)) h)

keys_in : (block i : ℕ) (values : List Value) → keys_of (places_in block i values) ≡ numbers values
keys_in block i [] = refl
keys_in block i (v ∷ values) = ap (λ l. v.id.0 ∷ l) (keys_in block (suc i) values)

keys_from : (b : ℕ) (blocks : List Block) → keys_of (places_from b blocks) ≡ numbers (flat_map (λ x. x.values) blocks)
keys_from b [] = refl
keys_from b (x ∷ blocks) =
    map-append (λ (p : ℕ × Place). p.0) (places_in b 0 x.values) (places_from (suc b) blocks)
    ∙ (λ i. keys_in b 0 x.values i ++ keys_from (suc b) blocks i)
    ∙ sym (map-append (λ (v : Value). v.id.0) x.values (flat_map (λ y. y.values) blocks))

-- the places of a well-formed function's values are put in as they stand
pub all_places : (f : Func) → WellFormedFunc f → insert_all eqb [] (places_of f) ≡ places_of f
all_places f well_formed = all_in (places_of f) [] (subst Differ (sym (keys_from 0 f.blocks)) well_formed.values_differ)

-- ---- looking up

eqb_swap : (a b : ℕ) → eqb a b ≡ eqb b a
eqb_swap a b = grind (arith, nat_tests)

-- the place of a number is what the map has for it
pub same_place : (places : List (ℕ × Place)) (id : ValueId) → lookup (eqb id.0) places ≡ place_in places id
same_place [] id = refl
same_place ((n, place) ∷ places) id = λ i. cond (eqb_swap id.0 n i) (Some place) (same_place places id i)

-- the value at a place
abbrev pub at_index : Option Block → ℕ → Option Value
at_index None i = None
at_index (Some b) i = slice_get b.values i

abbrev pub at_place : List Block → Option Place → Option Value
at_place blocks None = None
at_place blocks (Some p) = at_index (slice_get blocks p.block) p.index

-- what stands first behind the first n
first_left : {X : Type 0} (n : ℕ) (all : List X) (x : X) (xs : List X) → drop n all ≡ x ∷ xs
    → slice_get all n ≡ Some x
first_left zero all x xs is = ap (λ l. slice_get l 0) is
first_left (suc n) [] x xs is = cc
first_left (suc n) (a ∷ all) x xs is = first_left n all x xs is

rest_left : {X : Type 0} (n : ℕ) (all : List X) (x : X) (xs : List X) → drop n all ≡ x ∷ xs → drop (suc n) all ≡ xs
rest_left zero all x xs is = ap (λ l. drop 1 l) is
rest_left (suc n) [] x xs is = cc
rest_left (suc n) (a ∷ all) x xs is = rest_left n all x xs is

module _ (blocks : List Block) (id : ValueId) where
  -- the first value of a number stands at its place, in a block and what follows
  leads_in : (n : ℕ) (b : Block) → slice_get blocks n ≡ Some b → (i : ℕ) (values : List Value)
      → drop i b.values ≡ values → (more : List Value) (places : List (ℕ × Place))
      → find (is_numbered id) more ≡ at_place blocks (place_in places id)
      → find (is_numbered id) (values ++ more) ≡ at_place blocks (place_in (places_in n i values ++ places) id)
  leads_in n b is i [] left more places rest = rest
  leads_in n b is i (v ∷ values) left more places rest =
      go (eqb v.id.0 id.0) (leads_in n b is (suc i) values (rest_left i b.values v values left) more places rest)
    where
      go : (t : Bool)
          → find (is_numbered id) (values ++ more)
          ≡ at_place blocks (place_in (places_in n (suc i) values ++ places) id)
          → cond t (Some v) (find (is_numbered id) (values ++ more))
          ≡ at_place blocks
          (cond t (Some (record { block = n; index = i })) (place_in (places_in n (suc i) values ++ places) id))
      go true later = sym (ap (λ x. at_index x i) is ∙ first_left i b.values v values left)
      go false later = later

  leads_from : (n : ℕ) (left : List Block) → drop n blocks ≡ left
      → find (is_numbered id) (flat_map (λ b. b.values) left) ≡ at_place blocks (place_in (places_from n left) id)
  leads_from n [] is = refl
  leads_from n (b ∷ left) is =
      leads_in n b (first_left n blocks b left is) 0 b.values refl (flat_map (λ x. x.values) left)
      (places_from (suc n) left)
      (leads_from (suc n) left (rest_left n blocks b left is))

-- the value of a number stands at its place
pub leads_to : (f : Func) (id : ValueId) → value_of f id ≡ at_place f.blocks (place_in (places_of f) id)
leads_to f id = leads_from f.blocks id 0 f.blocks refl

module _ (f : Func) (id : ValueId) (table : List (ℕ × Place)) (of_func : table ≡ places_of f) where
  at_its_place : (o : Option Place) → place_in table id ≡ o → value_of f id ≡ at_place f.blocks o
  at_its_place o is = leads_to f id ∙ ap (at_place f.blocks) (ap (λ t. place_in t id) (sym of_func) ∙ is)

  -- what a look-up of the place, then of its block, then of the value there gives
  pub without_place : place_in table id ≡ None → None ≡ value_of f id
  without_place is = sym (at_its_place None is)

  pub without_block : (p : Place) → place_in table id ≡ Some p → slice_get f.blocks p.block ≡ None
      → None ≡ value_of f id
  without_block p is none = sym (at_its_place (Some p) is ∙ ap (λ b. at_index b p.index) none)

  pub value_there : (p : Place) (b : Block) → place_in table id ≡ Some p → slice_get f.blocks p.block ≡ Some b
      → slice_get b.values p.index ≡ value_of f id
  value_there p b is block_is = sym (at_its_place (Some p) is ∙ ap (λ o. at_index o p.index) block_is)
