-- What the lowest number of some values tells of all of them.
use Rattle.std.proofs.Common.{◌≡◌, ℕ, nat_lt, Bool, true, false, ◌&&◌, ◌||◌, if◌then◌else◌, List, [], ◌∷◌, Option, None}
use Rattle.std.proofs.Common.{Some, is_some, refl, sym, ap, ◌∙◌, arith}
use Rattle.std.specs.List.{list_any}
use Rattle.std.proofs.lemmas.Bool.Decides.{nat_tests}
use Rattle.ssa_ir.specs.declared.func.Func.{Func}
use Rattle.ssa_ir.specs.declared.func.Value.{Value}
use Rattle.ssa_ir.specs.Lookups.{values_of}
use Rattle.ssa_check.specs.tables.ParameterTables.{lowest_of, is_init_value, is_below}
use Rattle.ssa_check.specs.tables.Lowest.{lower_where}
use Rattle.ssa_check.specs.ValueChecks.{has_init}

or_false : (a : Bool) → a ≡ (a || false)
or_false true = refl
or_false false = refl

or_assoc : (a b c : Bool) → ((a || b) || c) ≡ (a || (b || c))
or_assoc true b c = refl
or_assoc false b c = refl

lower_below : (k m n : ℕ) (b : Bool) → nat_lt k m ≡ b → nat_lt (if b then k else m) n ≡ (nat_lt m n || nat_lt k n)
lower_below k m n true e = grind (arith, nat_tests)
lower_below k m n false e = grind (arith, nat_tests)

below_more : (before : Option ℕ) (t : Bool) (k n : ℕ)
    → is_below (lower_where t before k) n ≡ (is_below before n || (t && nat_lt k n))
below_more before false k n = or_false (is_below before n)
below_more None true k n = refl
below_more (Some m) true k n = lower_below k m n (nat_lt k m) refl

below_from : (test : Value → Bool) (values : List Value) (before : Option ℕ) (n : ℕ)
    → is_below (lowest_of test before values) n
    ≡ (is_below before n || list_any (λ u. test u && nat_lt u.id.0 n) values)
below_from test [] before n = or_false (is_below before n)
below_from test (v ∷ values) before n =
    below_from test values (lower_where (test v) before v.id.0) n
    ∙ ap (λ b. b || list_any (λ u. test u && nat_lt u.id.0 n) values) (below_more before (test v) v.id.0 n)
    ∙ or_assoc (is_below before n) (test v && nat_lt v.id.0 n) (list_any (λ u. test u && nat_lt u.id.0 n) values)

-- the lowest number is below another one where some value's is
pub below_lowest : (test : Value → Bool) (values : List Value) (n : ℕ)
    → is_below (lowest_of test None values) n ≡ list_any (λ u. test u && nat_lt u.id.0 n) values
below_lowest test values n = below_from test values None n

some_lower : (before : Option ℕ) (t : Bool) (k : ℕ) → is_some (lower_where t before k) ≡ (is_some before || t)
some_lower before false k = or_false (is_some before)
some_lower None true k = refl
some_lower (Some m) true k = refl

some_from : (test : Value → Bool) (values : List Value) (before : Option ℕ)
    → is_some (lowest_of test before values) ≡ (is_some before || list_any test values)
some_from test [] before = or_false (is_some before)
some_from test (v ∷ values) before =
    some_from test values (lower_where (test v) before v.id.0)
    ∙ ap (λ b. b || list_any test values) (some_lower before (test v) v.id.0)
    ∙ or_assoc (is_some before) (test v) (list_any test values)

-- there is a lowest number where there is some value
pub some_lowest : (test : Value → Bool) (values : List Value)
    → is_some (lowest_of test None values) ≡ list_any test values
some_lowest test values = some_from test values None

-- the function has an InitMem where there is a lowest one
pub has_init_is : (f : Func) (lowest : Option ℕ) → lowest ≡ lowest_of is_init_value None (values_of f)
    → has_init f ≡ is_some lowest
has_init_is f lowest is = sym (some_lowest is_init_value (values_of f)) ∙ ap is_some (sym is)
