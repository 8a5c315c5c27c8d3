use Rattle.std.proofs.Common.{◌≡◌, ◌<◌, ◌-◌, length, Some, slice_get}
use Rattle.ssa_ir.specs.declared.func.Block.{Block}
use Rattle.ssa_ir.specs.Inputs.{inputs_of}
use Rattle.ssa_ir.specs.Lookups.{sig_of}
use Rattle.ssa_ir.specs.Run.{generic, run, turns}
use Rattle.ssa_meaning.specs.tables.Ran.{behind}
use Rattle.ssa_meaning.specs.tables.Running.{room_of, state_of}
use Rattle.ssa_meaning.proofs.running.Running.run_turns.Given as goal

-- what was shown so far, and then the turns that are left, are the run
abbrev pub invariant-loop-turn : goal.invariant-loop-turn
invariant-loop-turn l = record {
  within : l.block < length l.func.blocks;
  room : room_of l.self.words ≡ room_of l.fn.self.words;
  ran : (b : Block) → slice_get l.func.blocks l.block ≡ Some b
      → run (generic (sig_of l.given.unit.now)) (inputs_of l.given.case.now) l.func l.given.case.now.bound
      ≡ behind l.self.calls (turns (generic (sig_of l.given.unit.now)) (inputs_of l.given.case.now) l.func
      (l.given.case.now.bound - l._turn) b l.edge (state_of l.given.case.now l.self));
}
