-- The class of the last of values, and the check of classes from its test.
use Rattle.std.proofs.Common.{◌≡◌, ℕ, zero, suc, ◌-◌, Bool, true, false, not, List, [], ◌∷◌, length, slice_get, Option}
use Rattle.std.proofs.Common.{Some, MatchOption, refl, ap, arith}
use Rattle.std.proofs.lemmas.Option.{slice_get_within}
use Rattle.gossa_base.specs.declared.ids.ValueId.{ValueId}
use Rattle.ssa_ir.specs.declared.func.Func.{Func}
use Rattle.ssa_ir.specs.declared.func.SsaUnit.{SsaUnit}
use Rattle.ssa_check.specs.declared.refusal.Check.TheVariants.{Types}
use Rattle.ssa_check.specs.Failing.{at_value, Meets, LeastPlace}
use Rattle.ssa_check.specs.OpTypes.{class_at, classes_of, last_of}
use Rattle.ssa_check.specs.tables.Lowest.{lowest_value}
use Rattle.ssa_check.specs.ValueChecks.{types_hold}
use Rattle.ssa_check.proofs.PlaceLemmas.{value_place}

class_of_last : (f : Func) (args : List ValueId) (n : ℕ) (id : ValueId) → suc n ≡ length args
    → slice_get args n ≡ Some id → last_of (classes_of f args) ≡ class_at f id
class_of_last f [] n id count is = absurd (omega (arith, count))
class_of_last f (a ∷ []) zero id count is = ap (class_at f) (cc is)
class_of_last f (a ∷ []) (suc n) id count is = absurd (omega (arith, count))
class_of_last f (a ∷ b ∷ args) zero id count is = absurd (omega (arith, count))
class_of_last f (a ∷ b ∷ args) (suc n) id count is = class_of_last f (b ∷ args) n id (omega (arith, count)) is

-- the class of the last value
pub last_class : (f : Func) (args : List ValueId) (id : ValueId) → slice_get args (length args - 1) ≡ Some id
    → last_of (classes_of f args) ≡ class_at f id
last_class f args id is =
    class_of_last f args (length args - 1) id (omega (arith, slice_get_within args (length args - 1) id is)) is

failing : (t : Bool) → not t ≡ true → t ≡ false
failing true h = cc
failing false h = refl

-- the value of the lowest number that fails the test is the least at which the check fails
pub types_place : (u : SsaUnit) (f : Func) (r : Option ℕ) → r ≡ lowest_value (λ b v. not (types_hold f v)) f
    → MatchOption (at_value r) (Meets Types u f) (LeastPlace Types u f)
types_place u f r is =
    value_place Types u f (λ b v. not (types_hold f v)) (λ no. no) (λ b no. no) (λ b v. failing (types_hold f v))
    (λ b v fails. ap not fails) r is
