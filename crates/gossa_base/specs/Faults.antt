-- Counts of faults.
use Rattle.std.specs.Prelude.{ℕ, ◌+◌, ◌-◌, ◌^◌, ◌<◌, ◌≤◌, ◌⊎◌, min, Result, Ok, Err}

-- the count rose, or stands at the last number of its type
abbrev pub Faulted : ℕ → ℕ → Type 0
Faulted before after = (before < after) ⊎ (2 ^ 64 - 1 ≤ after)

-- one more fault; the count stays at its last number
abbrev pub fault_after : ℕ → ℕ
fault_after n = min (n + 1) (2 ^ 64 - 1)

-- the count behind a call: one more fault where it failed, and else the same
abbrev pub faults_after : {A E : Type 0} → ℕ → Result A E → ℕ
faults_after n (Ok _) = n
faults_after n (Err _) = fault_after n
