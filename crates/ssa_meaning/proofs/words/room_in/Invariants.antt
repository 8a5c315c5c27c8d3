use Rattle.std.proofs.Common.{◌<◌, ◌≤◌, ◌^◌, take}
use Rattle.std.specs.List.{All}
use Rattle.ssa_ir.specs.declared.func.Value.{Value}
use Rattle.ssa_meaning.proofs.words.room_in.Given as goal

-- the number is above those of the values so far
abbrev pub invariant-loop-value : goal.invariant-loop-value
invariant-loop-value l =
    All (λ (v : Value). v.id.0 < l.room) (take l.value-index l.value-items) × (l.least ≤ l.room) × (l.room ≤ 2 ^ 32)
