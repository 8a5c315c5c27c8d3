-- What is noted of selects, one after the other, answers what the check of calls asks.
use Rattle.std.proofs.Common.{◌≡◌, ℕ, ◌+◌, ◌<◌, length, get_or, take, ℤ, Bool, true, false, cond, ◌&&◌, ◌||◌, nat_lt}
use Rattle.std.proofs.Common.{List, [], ◌∷◌, ◌++◌, map, fold, Option, None, Some, MatchOption, refl, sym, ap, subst}
use Rattle.std.proofs.Common.{◌∙◌, append_assoc, if◌then◌else◌, arith, int_eq}
use Rattle.std.specs.List.{list_any}
use Rattle.std.specs.Cmp.{nat_eq_equiv, signed_Decides}
use Rattle.std.specs.Map.{lookup}
use Rattle.std.proofs.lemmas.Bool.{and_parts, eqb-true, lt-ltb}
use Rattle.std.proofs.lemmas.Bool.Decides.{nat_tests}
use Rattle.std.proofs.lemmas.List.{map_more}
use Rattle.std.proofs.lemmas.List.Folds.{list_any-append}
use Rattle.gossa_base.specs.declared.ids.ValueId.{ValueId}
use Rattle.ssa_ir.specs.declared.func.Func.{Func}
use Rattle.ssa_ir.specs.declared.func.Value.{Value}
use Rattle.ssa_ir.specs.FirstOrder.{same_value, selects}
use Rattle.ssa_ir.specs.OpKinds.{is_follower}
use Rattle.ssa_ir.specs.Lookups.{values_of}
use Rattle.ssa_check.specs.declared.callees.SelectKey.{SelectKey}
use Rattle.ssa_check.specs.declared.callees.SelectTable.{SelectTable}
use Rattle.ssa_check.specs.CalleeCheck.{has_lower_twin, has_memory_select}
use Rattle.ssa_ir.specs.Classes.{is_memory}
use Rattle.ssa_check.specs.tables.Selects.{picks_by, picks_of, is_index_of, is_below, is_key, says_memory, says_lowest}
use Rattle.ssa_check.specs.tables.Selects.{TellsOf}
use Rattle.ssa_check.specs.tables.Lowest.{lower_where}
use Rattle.ssa_check.specs.ValueChecks.{is_lower}

-- ---- tests

or_false : (b : Bool) → (b || false) ≡ b
or_false true = refl
or_false false = refl

or_assoc : (a b c : Bool) → ((a || b) || c) ≡ (a || (b || c))
or_assoc true b c = refl
or_assoc false b c = refl

and_assoc : (a b c : Bool) → ((a && b) && c) ≡ (a && (b && c))
and_assoc true b c = refl
and_assoc false b c = refl

-- one of two, and more
either_and : (p q t : Bool) → ((p && t) || (q && t)) ≡ ((p || q) && t)
either_and true true true = refl
either_and true true false = refl
either_and true false true = refl
either_and true false false = refl
either_and false true true = refl
either_and false true false = refl
either_and false false true = refl
either_and false false false = refl

-- ---- what selects name

-- some argument of one select
some_arg : (id : ValueId) (test : Value → Bool) (s : Value) (args : List ValueId)
    → list_any (λ (pick : ValueId × Value). same_value id pick.0 && test pick.1) (map (λ a. (a, s)) args)
    ≡ (list_any (same_value id) args && test s)
some_arg id test s [] = refl
some_arg id test s (a ∷ args) =
    ap (λ b. (same_value id a && test s) || b) (some_arg id test s args)
    ∙ either_and (same_value id a) (list_any (same_value id) args) (test s)

-- some argument of one value, if it is a select
some_pick_by : (id : ValueId) (test : Value → Bool) (s : Value) (is : Bool)
    → list_any (λ (pick : ValueId × Value). same_value id pick.0 && test pick.1)
    (if is then map (λ a. (a, s)) s.args else [])
    ≡ (is && list_any (same_value id) s.args && test s)
some_pick_by id test s true = some_arg id test s s.args
some_pick_by id test s false = refl

-- some select of these values names the value and passes
some_pick : (id : ValueId) (test : Value → Bool) (values : List Value)
    → list_any (λ (pick : ValueId × Value). same_value id pick.0 && test pick.1) (picks_of values)
    ≡ list_any (λ s. selects id s && test s) values
some_pick id test [] = refl
some_pick id test (s ∷ values) =
    let named : ValueId × Value → Bool = λ pick. same_value id pick.0 && test pick.1 in
    list_any-append named (picks_by s) (picks_of values)
    ∙ (λ i. some_pick_by id test s (is_follower s.op) i || some_pick id test values i)

-- ---- the lowest of selects

lower_is_below : (b : Bool) (r : Option ℕ) (m n : ℕ)
    → is_below (lower_where b r m) n ≡ (is_below r n || (b && nat_lt m n))
lower_is_below false r m n = sym (or_false (is_below r n))
lower_is_below true None m n = refl
lower_is_below true (Some k) m n = grind (arith, nat_tests)

-- the lowest that counts is below a number where one that counts is
lowest_is_below : {X : Type 0} (test : X → Bool) (number : X → ℕ) (n : ℕ) (xs : List X) (r : Option ℕ)
    → is_below (fold (λ lowest x. lower_where (test x) lowest (number x)) r xs) n
    ≡ (is_below r n || list_any (λ x. test x && nat_lt (number x) n) xs)
lowest_is_below test number n [] r = sym (or_false (is_below r n))
lowest_is_below test number n (x ∷ xs) r =
    lowest_is_below test number n xs (lower_where (test x) r (number x))
    ∙ ap (λ b. b || list_any (λ y. test y && nat_lt (number y) n) xs) (lower_is_below (test x) r (number x) n)
    ∙ or_assoc (is_below r n) (test x && nat_lt (number x) n) (list_any (λ y. test y && nat_lt (number y) n) xs)

-- ---- what the table answers

pub memory_select : (f : Func) (v : Value) (t : SelectTable) → TellsOf (picks_of (values_of f)) t
    → says_memory t v.id ≡ has_memory_select f v
memory_select f v t tells = tells.memory v.id ∙ some_pick v.id is_memory (values_of f)

pub lower_twin : (f : Func) (call : ValueId) (v : Value) (t : SelectTable) → TellsOf (picks_of (values_of f)) t
    → is_below (says_lowest t call v.aux) v.id.0 ≡ has_lower_twin f call v
lower_twin f call v t tells =
    let indexed : ValueId × Value → Bool = λ pick. is_index_of call v.aux pick in
    let test : Value → Bool = λ s. int_eq s.aux v.aux && is_lower s v in
    ap (λ r. is_below r v.id.0) (tells.lowest call v.aux)
    ∙ lowest_is_below indexed (λ pick. pick.1.id.0) v.id.0 (picks_of (values_of f)) None
    ∙ (λ i. list_any
    (λ (pick : ValueId × Value). and_assoc (same_value call pick.0) (int_eq pick.1.aux v.aux) (is_lower pick.1 v) i)
    (picks_of (values_of f)))
    ∙ some_pick call test (values_of f)
    ∙ (λ i. list_any (λ s. sym (and_assoc (selects call s) (int_eq s.aux v.aux) (is_lower s v)) i) (values_of f))

-- ---- one argument after the other

pub picks_more : (s : Value) (args : List ValueId) (i : ℕ) (id : ValueId) (first before after : SelectTable)
    → i < length args → id ≡ get_or args i id
    → ((picks : List (ValueId × Value)) → TellsOf picks first
    → TellsOf (picks ++ map (λ a. (a, s)) (take i args)) before)
    → ((picks : List (ValueId × Value)) → TellsOf picks before → TellsOf (picks ++ (id, s) ∷ []) after)
    → (picks : List (ValueId × Value)) → TellsOf picks first
    → TellsOf (picks ++ map (λ a. (a, s)) (take (i + 1) args)) after
picks_more s args i id first before after lt is so_far one picks tells =
    let pair : ValueId → ValueId × Value = λ a. (a, s) in
    let next : map pair (take (i + 1) args) ≡ map pair (take i args) ++ (id, s) ∷ []
    = map_more pair args i id lt ∙ ap (λ a. map pair (take i args) ++ (a, s) ∷ []) (sym is) in
    let same : (picks ++ map pair (take i args)) ++ (id, s) ∷ [] ≡ picks ++ map pair (take (i + 1) args)
    = append_assoc picks (map pair (take i args)) ((id, s) ∷ []) ∙ ap (λ l. picks ++ l) (sym next) in
    subst (λ l. TellsOf l after) same (one (picks ++ map pair (take i args)) (so_far picks tells))

-- ---- the lowest select of an index

abbrev key : ValueId → ℤ → SelectKey
key id index = record { value = id; index = index }

-- where the key is the same, so are the value and the index
same_key : (id other : ValueId) (a index : ℤ) → is_key id a (key other index) ≡ true → key id a ≡ key other index
same_key id other a index e =
    let parts = and_parts (same_value id other) (int_eq a index) e in
    let value : id ≡ other = λ i. record { 0 = eqb-true id.0 other.0 parts.0 i } in
    λ i. record { value = value i; index = (signed_Decides a index).0 parts.1 i }

-- a number lower than what is there takes its place
takes_place : (r : Option ℕ) (n : ℕ) → MatchOption r (Unit {0}) (λ m. n < m) → Some n ≡ lower_where true r n
takes_place None n h = refl
takes_place (Some m) n h = ap (λ b. Some (if b then n else m)) (sym (lt-ltb n m h))

module _ (id : ValueId) (s : Value) (a : ℤ) (same : a ≡ s.aux) (old new : List (SelectKey × ℕ)) (r : Option ℕ)
    (found : r ≡ lookup (is_key id a) old) (higher : MatchOption r (Unit {0}) (λ m. s.id.0 < m))
    (put : (q : SelectKey) → lookup (is_key q.value q.index) new
    ≡ cond (is_key id a q) (Some s.id.0) (lookup (is_key q.value q.index) old)) where
  is_same_index : (other : ValueId) (index : ℤ) → is_index_of other index (id, s) ≡ is_key id a (key other index)
  is_same_index other index = λ i. nat_eq_equiv.symm other.0 id.0 i && int_eq (sym same i) index

  by_test : (other : ValueId) (index : ℤ) (b : Bool) → is_key id a (key other index) ≡ b
      → cond b (Some s.id.0) (lookup (is_key other index) old)
      ≡ lower_where b (lookup (is_key other index) old) s.id.0
  by_test other index false e = refl
  by_test other index true e =
      takes_place r s.id.0 higher
      ∙ ap (λ o. lower_where true o s.id.0)
      (found ∙ ap (λ (k : SelectKey). lookup (is_key k.value k.index) old) (same_key id other a index e))

  pub lowest_put : (other : ValueId) (index : ℤ)
      → lookup (is_key other index) new
      ≡ lower_where (is_index_of other index (id, s)) (lookup (is_key other index) old) s.id.0
  lowest_put other index =
      put (key other index)
      ∙ by_test other index (is_key id a (key other index)) refl
      ∙ ap (λ b. lower_where b (lookup (is_key other index) old) s.id.0) (sym (is_same_index other index))
