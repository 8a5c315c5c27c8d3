-- Limits of a text that a line passes.
use Rattle.std.specs.Prelude.{ℕ, nat_le, nat_lt, if◌then◌else◌, Option, None, Some}
use Rattle.ssa_lines.specs.declared.refusal.LimitKind.{LimitKind}
use Rattle.ssa_lines.specs.declared.refusal.TextFault.{TextFault}
use Rattle.ssa_lines.specs.declared.refusal.TextFault.TheVariants.{Limit}

-- a limit that a count is above
abbrev pub over : ℕ → ℕ → LimitKind → Option LimitKind
over limit count kind = if nat_lt limit count then Some kind else None

-- a limit that is reached, so that one more passes it
abbrev pub full : ℕ → ℕ → LimitKind → Option LimitKind
full limit count kind = if nat_le limit count then Some kind else None

abbrev pub limit_of : ℕ → Option LimitKind → Option TextFault
limit_of line None = None
limit_of line (Some kind) = Some (Limit kind line)
