use Rattle.std.proofs.Common.{◌≡◌, List, None, Some, subst, ap, ◌∙◌}
use Rattle.ssa_ir.specs.declared.case.CallShown.{CallShown}
use Rattle.ssa_ir.specs.declared.case.Case.{Case}
use Rattle.ssa_ir.specs.declared.func.Block.{Block}
use Rattle.ssa_ir.specs.declared.func.Func.{Func}
use Rattle.ssa_ir.specs.FirstOrder.{first_order}
use Rattle.ssa_ir.specs.Inputs.{Inputs, inputs_of}
use Rattle.ssa_ir.specs.Lookups.{sig_of}
use Rattle.ssa_ir.specs.Run.{Callees, State, generic, run_values, run_control, run_block}
use Rattle.ssa_meaning.specs.tables.Onward.{Further, onward_shown, Turned}
use Rattle.ssa_meaning.specs.tables.Ran.{behind, Ran, next_of}
use Rattle.ssa_meaning.specs.tables.Running.{state_of}
use Rattle.ssa_meaning.proofs.StepLemmas.{ok_as}
use Rattle.ssa_meaning.proofs.TurnLemmas.{block_ran}
use Rattle.ssa_meaning.proofs.running.Running.run_block.Goals as goal

pub returns-in-Some-clause-turned : goal.returns-in-Some-clause-turned
returns-in-Some-clause-turned c =
    let case : Case = c.args.given.now.case.now in
    let callees : Callees = sig_of c.args.given.now.unit.now in
    let inputs : Inputs = inputs_of case in
    let b : Block = c.args.block.now in
    let m : State = state_of case c.enter.new.self in
    let t : State = state_of case c.run_items.new.self in
    let ran : Ran (run_values (generic callees) inputs b.values (first_order b.values) m) c.enter.new.self.calls
    c.run_items.new.self.calls (next_of (Some c.in-Some.end)) t
    = subst (λ o. Ran (run_values (generic callees) inputs b.values (first_order b.values) m) c.enter.new.self.calls
    c.run_items.new.self.calls (next_of o) t) c.in-Some.is c.in_ok-end.ensures.ran in
    λ go. block_ran callees inputs c.args.func.now b c.args.edge
    (state_of case c.args.self.now) m t c.args.self.now.calls
    c.enter.new.self.calls c.run_items.new.self.calls (Some c.in-Some.end) go (c.in_ok-enter.ensures.state case)
    c.in_ok-enter.ensures.calls ran

pub returns-clause-turned : goal.returns-clause-turned
returns-clause-turned c =
    let case : Case = c.args.given.now.case.now in
    let callees : Callees = sig_of c.args.given.now.unit.now in
    let inputs : Inputs = inputs_of case in
    let f : Func = c.args.func.now in
    let b : Block = c.args.block.now in
    let s : State = state_of case c.args.self.now in
    let m : State = state_of case c.enter.new.self in
    let t : State = state_of case c.run_items.new.self in
    let before : List CallShown = c.args.self.now.calls in
    let after : List CallShown = c.run_items.new.self.calls in
    let ran : Ran (run_values (generic callees) inputs b.values
    (first_order b.values) m) c.enter.new.self.calls after (next_of None) t
    = subst (λ o. Ran (run_values (generic callees) inputs b.values
    (first_order b.values) m) c.enter.new.self.calls after
    (next_of o) t) c.in_default.is c.in_ok-end.ensures.ran in
    ok_as c.leave.result
    (λ o. (k : Callees) (d : Case) (go : Further) → run_control (generic k) f go b b.kind
    (state_of d c.run_items.new.self)
    ≡ onward_shown f o go (state_of d c.run_items.new.self))
    (λ o. Turned f (λ go. run_block (generic callees) inputs f go b c.args.edge s) before after o t)
    (λ o left go. block_ran callees inputs f b c.args.edge s m t before c.enter.new.self.calls after None go
    (c.in_ok-enter.ensures.state case) c.in_ok-enter.ensures.calls ran
    ∙ ap (behind after) (left callees case go))
    c.leave.ensures.left
