-- What is known where no limit is passed.
use Rattle.std.proofs.Common.{◌≡◌, ℕ, ◌<◌, ◌≤◌, Bool, true, false, nat_lt, nat_le, Option, None, Some, if◌then◌else◌}
use Rattle.std.proofs.Common.{refl}
use Rattle.std.specs.Option.{option_or}
use Rattle.std.proofs.lemmas.Bool.{ltb-false, leb-false}
use Rattle.ssa_lines.specs.Limits.{over, full}
use Rattle.ssa_lines.specs.declared.refusal.LimitKind.{LimitKind}

pub not_over : (limit count : ℕ) (kind : LimitKind) → over limit count kind ≡ None → count ≤ limit
not_over limit count kind h = go (nat_lt limit count) refl h
  where
    go : (b : Bool) → nat_lt limit count ≡ b → (if b then Some kind else None) ≡ None → count ≤ limit
    go true e past = cc
    go false e past = ltb-false limit count e

pub not_full : (limit count : ℕ) (kind : LimitKind) → full limit count kind ≡ None → count < limit
not_full limit count kind h = go (nat_le limit count) refl h
  where
    go : (b : Bool) → nat_le limit count ≡ b → (if b then Some kind else None) ≡ None → count < limit
    go true e past = cc
    go false e past = leb-false limit count e

-- where of two options neither is there
pub neither : {X : Type 0} (a b : Option X) → option_or a b ≡ None → (a ≡ None) × (b ≡ None)
neither None b h = (refl, h)
neither (Some x) b h = cc
