use Rattle.std.proofs.Common.{◌≡◌, drop}
use Rattle.std.specs.List.{flat_map}
use Rattle.ssa_ir.specs.declared.case.Shown.{Shown}
use Rattle.ssa_ir.specs.FirstOrder.{first_order}
use Rattle.ssa_ir.specs.Inputs.{inputs_of}
use Rattle.ssa_ir.specs.Lookups.{sig_of}
use Rattle.ssa_ir.specs.Run.{State, generic, run_values}
use Rattle.block_order.specs.Items.{item_values}
use Rattle.ssa_meaning.specs.tables.Ran.{behind}
use Rattle.ssa_meaning.specs.tables.Running.{room_of, state_of}
use Rattle.ssa_meaning.proofs.running.Running.run_items.Given as goal

-- what was shown so far, and then the items that are left, are all
abbrev pub invariant-loop-item : goal.invariant-loop-item
invariant-loop-item l = record {
  ran : (go : State → Shown)
      → behind l.fn.self.calls (run_values (generic (sig_of l.given.unit.now))
      (inputs_of l.given.case.now) l.block.values
      (first_order l.block.values) (state_of l.given.case.now l.fn.self) go)
      ≡ behind l.self.calls (run_values (generic (sig_of l.given.unit.now)) (inputs_of l.given.case.now) l.block.values
      (flat_map (item_values l.block.values) (drop l.item-index l.items)) (state_of l.given.case.now l.self) go);
  room : room_of l.self.words ≡ room_of l.fn.self.words;
}
