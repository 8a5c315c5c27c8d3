use Rattle.std.proofs.Common.{◌<◌, ◌≤◌, ◌^◌, take}
use Rattle.std.specs.List.{All}
use Rattle.ssa_ir.specs.declared.func.Block.{Block}
use Rattle.ssa_ir.specs.declared.func.Value.{Value}
use Rattle.ssa_meaning.proofs.words.room_for.Given as goal

-- the number is above those of the values of the blocks so far
abbrev pub invariant-loop-block : goal.invariant-loop-block
invariant-loop-block l =
    All (λ (b : Block). All (λ (v : Value). v.id.0 < l.room) b.values) (take l.block-index l.block-items)
    × (l.room ≤ 2 ^ 32)
