-- The lowest number of the values of a block that wait for each other in a circle.
use Rattle.std.specs.Prelude.{◌≡◌, ◌≢◌, ℕ, ◌≤◌, true, List, length, Option, None, Some}
use Rattle.std.specs.List.{All, AllPairs, Any}
use Rattle.ssa_ir.specs.declared.func.Value.{Value}
use Rattle.ssa_ir.specs.Cycles.{OnCycle}
use Rattle.ssa_ir.specs.OpKinds.{is_follower}

-- no number stands twice, and a select names one value
pub record HasItems (block : List Value) : Type 0 where
  pub numbers_differ : AllPairs (λ (v w : Value). v.id.0 ≢ w.id.0) block
  pub selects_one : All (λ (v : Value). is_follower v.op ≡ true → length v.args ≡ 1) block

-- the least of the numbers that are so, if there is one
abbrev pub IsLeast : Option ℕ → (ℕ → Type 0) → Type 0
IsLeast None Is = (n : ℕ) → Is n → ⊥
IsLeast (Some m) Is = Is m × ((n : ℕ) → Is n → m ≤ n)

-- the number of a value of the block that is on a cycle
abbrev pub IsOnCycle : (block : List Value) → ℕ → Type 0
IsOnCycle block n = Any (λ (v : Value). (v.id.0 ≡ n) × OnCycle block v) block
