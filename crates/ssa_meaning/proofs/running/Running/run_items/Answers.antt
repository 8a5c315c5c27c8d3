use Rattle.std.proofs.Common.{None, Some, ◌∙◌}
use Rattle.ssa_ir.specs.declared.case.Case.{Case}
use Rattle.ssa_ir.specs.Inputs.{inputs_of}
use Rattle.ssa_ir.specs.Lookups.{sig_of}
use Rattle.ssa_ir.specs.Run.{generic}
use Rattle.ssa_meaning.specs.tables.Running.{state_of}
use Rattle.ssa_meaning.proofs.StepItemLemmas.{item_then_by}
use Rattle.ssa_meaning.proofs.running.Running.run_items.Goals as goal

pub returns-in-Some-clause-ran : goal.returns-in-Some-clause-ran
returns-in-Some-clause-ran c = λ go.
    let case : Case = c.args.given.now.case.now in
    c.loop-item.invariant.ran go
    ∙ item_then_by (generic (sig_of c.args.given.now.unit.now)) (inputs_of case) c.args.block.now.values
    c.args.items.now
    c.loop-item.item-index c.item-item.result (state_of case c.loop-item.self) (state_of case c.run_item.new.self)
    c.loop-item.self.calls c.run_item.new.self.calls _ (Some c.in-Some.end) go c.loop-item-test.true c.item-item.is
    c.in-Some.is
    c.in_ok-end.ensures.ran

pub loop-item-preserved : goal.loop-item-preserved
loop-item-preserved c =
    let case : Case = c.args.given.now.case.now in
    record {
      ran = λ go. c.loop-item.invariant.ran go
          ∙ item_then_by (generic (sig_of c.args.given.now.unit.now)) (inputs_of case) c.args.block.now.values
          c.args.items.now
          c.loop-item.item-index c.item-item.result (state_of case c.loop-item.self) (state_of case c.run_item.new.self)
          c.loop-item.self.calls c.run_item.new.self.calls _ None go c.loop-item-test.true c.item-item.is
          c.in_default.is
          c.in_ok-end.ensures.ran;
      room = c.in_ok-end.ensures.room ∙ c.loop-item.invariant.room;
    }
