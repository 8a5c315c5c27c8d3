-- The check of calls and their selects from its test.
use Rattle.std.proofs.Common.{◌≡◌, ℕ, not, Option, MatchOption, ap}
use Rattle.std.proofs.lemmas.Bool.{not-true}
use Rattle.ssa_ir.specs.declared.func.Func.{Func}
use Rattle.ssa_ir.specs.declared.func.SsaUnit.{SsaUnit}
use Rattle.ssa_check.specs.declared.refusal.Check.TheVariants.{Callee}
use Rattle.ssa_check.specs.CalleeCheck.{callee_holds}
use Rattle.ssa_check.specs.Failing.{at_value, Meets, LeastPlace}
use Rattle.ssa_check.specs.tables.Lowest.{lowest_value}
use Rattle.ssa_check.proofs.PlaceLemmas.{value_place}

-- the value of the lowest number that fails the test is the least at which the check fails
pub callee_place : (u : SsaUnit) (f : Func) (r : Option ℕ) → r ≡ lowest_value (λ b v. not (callee_holds u f b v)) f
    → MatchOption (at_value r) (Meets Callee u f) (LeastPlace Callee u f)
callee_place u f r is =
    value_place Callee u f (λ b v. not (callee_holds u f b v)) (λ no. no) (λ b no. no)
    (λ b v fails. not-true (callee_holds u f b v) fails) (λ b v fails. ap not fails) r is
