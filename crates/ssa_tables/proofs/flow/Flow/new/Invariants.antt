use Rattle.std.proofs.Common.{◌≡◌, map, take}
use Rattle.ssa_tables.specs.Blocks.{place_of}
use Rattle.ssa_tables.proofs.flow.Flow.new.Given as goal

-- the places of the predecessors of the blocks so far
abbrev pub invariant-loop-block : goal.invariant-loop-block
invariant-loop-block l =
    map (λ preds. preds.items) l.preds.items
    ≡ map (λ b. map (place_of l.table) b.preds) (take l.block-index l.block-items)
