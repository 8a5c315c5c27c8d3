use Rattle.std.proofs.Common.{◌≡◌, ◌+◌, ◌-◌, ℕ, List, Option, Some, slice_get, sym, ap, subst, ◌∙◌, arith}
use Rattle.ssa_ir.specs.declared.case.CallShown.{CallShown}
use Rattle.ssa_ir.specs.declared.case.Case.{Case}
use Rattle.ssa_ir.specs.declared.case.End.TheVariants.{Going}
use Rattle.ssa_ir.specs.declared.func.Block.{Block}
use Rattle.ssa_ir.specs.declared.func.Func.{Func}
use Rattle.ssa_ir.specs.Inputs.{Inputs, inputs_of}
use Rattle.ssa_ir.specs.Lookups.{sig_of}
use Rattle.ssa_ir.specs.Run.{Form, State, generic, turns}
use Rattle.ssa_meaning.specs.declared.control.Onward.TheVariants.{Enters, Ended}
use Rattle.ssa_meaning.specs.tables.Onward.{IsWithin}
use Rattle.ssa_meaning.specs.tables.Ran.{behind}
use Rattle.ssa_meaning.specs.tables.Running.{state_of}
use Rattle.ssa_meaning.proofs.TurnLemmas.{enters_next, item_there, shown_end, turn_taken}
use Rattle.ssa_meaning.proofs.running.Running.run_turns.Goals as goal

pub loop-turn-preserved : goal.loop-turn-preserved
loop-turn-preserved c =
    let case : Case = c.args.given.now.case.now in
    record {
      within = subst (IsWithin c.args.func.now) c.in-Enters.is c.in_ok-way.ensures.within;
      room = c.in_ok-way.ensures.room ∙ c.loop-turn.invariant.room;
      ran = λ next there.
          turn_taken (generic (sig_of c.args.given.now.unit.now)) (inputs_of case) c.args.func.now _ case.bound
          c.loop-turn._turn c.loop-turn.block c.loop-turn.edge (state_of case c.loop-turn.self)
          (state_of case c.run_turn.new.self) c.loop-turn.self.calls c.run_turn.new.self.calls _
          (Enters c.in-Enters.way)
          c.loop-turn-test.true c.loop-turn.invariant.within c.loop-turn.invariant.ran c.in_ok-way.ensures.turned
          c.in-Enters.is
          ∙ enters_next (generic (sig_of c.args.given.now.unit.now)) (inputs_of case) c.args.func.now
          (case.bound - (c.loop-turn._turn + 1)) next c.in-Enters.way (state_of case c.run_turn.new.self)
          c.run_turn.new.self.calls c.requires.well_formed there;
    }

pub returns-in-Ended : goal.returns-in-Ended
returns-in-Ended c =
    let case : Case = c.args.given.now.case.now in
    shown_end c.run_turn.new.self.calls c.in-Ended.end
    ∙ sym
    (turn_taken (generic (sig_of c.args.given.now.unit.now)) (inputs_of case) c.args.func.now _ case.bound
    c.loop-turn._turn c.loop-turn.block c.loop-turn.edge (state_of case c.loop-turn.self)
    (state_of case c.run_turn.new.self) c.loop-turn.self.calls c.run_turn.new.self.calls _ (Ended c.in-Ended.end)
    c.loop-turn-test.true c.loop-turn.invariant.within c.loop-turn.invariant.ran c.in_ok-way.ensures.turned
    c.in-Ended.is)

pub returns : goal.returns
returns c =
    let case : Case = c.args.given.now.case.now in
    let form : Form = generic (sig_of c.args.given.now.unit.now) in
    let inputs : Inputs = inputs_of case in
    let f : Func = c.args.func.now in
    let edge : Option ℕ = c.loop-turn.edge in
    let s : State = state_of case c.loop-turn.self in
    let calls : List CallShown = c.loop-turn.self.calls in
    let here : (b : Block) × (slice_get f.blocks c.loop-turn.block ≡ Some b)
    = item_there f.blocks c.loop-turn.block c.loop-turn.invariant.within in
    let none : case.bound - c.loop-turn._turn ≡ 0 = omega (arith, c.loop-turn-test.false) in
    shown_end calls Going
    ∙ sym (c.loop-turn.invariant.ran here.0 here.1 ∙ ap (λ k. behind calls (turns form inputs f k here.0 edge s)) none)
