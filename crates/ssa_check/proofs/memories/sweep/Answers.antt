use Rattle.std.proofs.Common.{ℕ, ◌<◌, Bool, List, length, arith}
use Rattle.ssa_check.specs.declared.memories.Leaves.{Leaves}
use Rattle.ssa_check.specs.declared.memories.Passed.{Passed}
use Rattle.ssa_check.proofs.MemorySweepLemmas.{changed_step, unchanged_step}
use Rattle.ssa_check.proofs.memories.sweep.Goals.{then-update, else-update}
use Rattle.ssa_check.proofs.memories.sweep.Goals as goal

pub loop-block-preserved : goal.loop-block-preserved
loop-block-preserved c =
    let preds : List (List ℕ) = c.args.flow.now in
    let leaves : List Leaves = c.args.leaves.now in
    let k : ℕ = c.loop-block.block in
    let mid : List Passed = c.loop-block.passed in
    let new : List Passed = c.update.new.passed in
    let before : Bool = c.loop-block.changed in
    let now : Bool = c.if-update.changed in
    let is : k < length preds =
    omega (arith, c.loop-block-test.true, c.len-block-end.ensures, c.loop-block.auto.block-end) in
    elim c.if-update.branch [
      | then-update w ↦
          changed_step preds leaves k c.args.passed.now mid new is c.requires.one_each before c.update.result now
          w.if-update.true w.changed-is c.loop-block.invariant c.update.ensures
      | else-update w ↦
          unchanged_step preds leaves k c.args.passed.now mid new is c.requires.one_each before c.update.result now
          w.if-update.false w.changed-is c.loop-block.invariant c.update.ensures
    ]
