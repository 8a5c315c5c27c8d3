use Rattle.std.proofs.Common.{◌≡◌, ◌||◌, drop}
use Rattle.std.specs.List.{list_any}
use Rattle.ssa_ir.specs.OpKinds.{reads_memory, is_result}
use Rattle.ssa_ir.specs.MemoryChains.{is_inner}
use Rattle.ssa_check.proofs.memory.uses_memory.Given as goal

-- some value left uses memory where some value of all does
abbrev pub invariant-loop-value : goal.invariant-loop-value
invariant-loop-value l =
    list_any (λ v. is_inner v || reads_memory v.op || is_result v.op) (drop l.value-index l.value-items)
    ≡ list_any (λ v. is_inner v || reads_memory v.op || is_result v.op) l.block.values
