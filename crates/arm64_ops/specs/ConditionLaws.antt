-- What holds of all conditions and flags.
use Rattle.std.specs.Prelude.{◌≡◌, ℕ, ℤ, ◌≤◌, not}
use Rattle.ssa_ir.specs.declared.op.CondCode.{CondCode}
use Rattle.ssa_ir.specs.declared.op.Op.TheVariants.{Arm64CMP, Arm64CMPW}
use Rattle.ssa_ir.specs.Conditions.{compares, flags_of_difference, holds, inverse, packed}
use Rattle.ssa_ir.specs.Evaluation.{eval}

-- the inverse of the inverse is the condition
abbrev pub InverseIsAnInvolution : Type 0
InverseIsAnInvolution = (c : CondCode) → inverse (inverse c) ≡ c

-- the inverse holds exactly where the condition doesn't
abbrev pub InverseHoldsElsewhere : Type 0
InverseHoldsElsewhere = (c : CondCode) (flags : ℕ) → holds (inverse c) flags ≡ not (holds c flags)

-- after the flags of a - b, at every width, a condition is the comparison of a and b that it names
abbrev pub ConditionsCompare : Type 0
ConditionsCompare =
    (k a b : ℕ) → 1 ≤ k → k ≤ 64 → (c : CondCode) → holds c (packed (flags_of_difference k a b)) ≡ compares c k a b

-- so it is after CMP at 64 bits
abbrev pub ConditionsCompareAfterCMP : Type 0
ConditionsCompareAfterCMP =
    (c : CondCode) (aux : ℤ) (a b x flags : ℕ) → holds c (eval Arm64CMP aux a b x flags) ≡ compares c 64 a b

-- and after CMPW at 32
abbrev pub ConditionsCompareAfterCMPW : Type 0
ConditionsCompareAfterCMPW =
    (c : CondCode) (aux : ℤ) (a b x flags : ℕ) → holds c (eval Arm64CMPW aux a b x flags) ≡ compares c 32 a b
