use Rattle.std.proofs.Common.{List, refl, ap, ◌∙◌}
use Rattle.ssa_ir.specs.declared.case.Case.{Case}
use Rattle.ssa_ir.specs.declared.func.Value.{Value}
use Rattle.ssa_ir.specs.declared.role.Role.TheVariants.{Loads, ChecksNil}
use Rattle.ssa_ir.specs.Inputs.{Inputs, inputs_of}
use Rattle.ssa_ir.specs.Lookups.{sig_of}
use Rattle.ssa_ir.specs.Roles.{role}
use Rattle.ssa_ir.specs.Run.{Form, State, generic, run_role, with_word, loaded_word}
use Rattle.ssa_meaning.specs.tables.Ran.{Ran, next_of}
use Rattle.ssa_meaning.specs.tables.Running.{state_of}
use Rattle.ssa_meaning.proofs.StepLemmas.{ran_on, ran_as, ok_as}
use Rattle.ssa_meaning.proofs.running.Running.run_value.Goals as goal

pub returns-in-Loads-clause-ran : goal.returns-in-Loads-clause-ran
returns-in-Loads-clause-ran c =
    let case : Case = c.args.given.now.case.now in
    let s : State = state_of case c.args.self.now in
    let v : Value = c.args.value.now in
    ran_on (generic (sig_of c.args.given.now.unit.now)) (inputs_of case) c.args.values.now v Loads s
    (state_of case c.put-in-Loads.new.self) (with_word s v.id.0 (loaded_word v s)) c.args.self.now.calls
    c.put-in-Loads.new.self.calls (λ go. refl) c.in-Loads.ensures
    (c.put-in-Loads.ensures.state case ∙ ap (with_word s v.id.0)
    (c.loaded-word.ensures case)) c.put-in-Loads.ensures.calls

pub returns-in-ChecksNil-clause-ran : goal.returns-in-ChecksNil-clause-ran
returns-in-ChecksNil-clause-ran c =
    let case : Case = c.args.given.now.case.now in
    let form : Form = generic (sig_of c.args.given.now.unit.now) in
    let inputs : Inputs = inputs_of case in
    let block : List Value = c.args.values.now in
    let s : State = state_of case c.args.self.now in
    let t : State = state_of case c.check_nil.new.self in
    let v : Value = c.args.value.now in
    let before = c.args.self.now.calls in
    let after = c.check_nil.new.self.calls in
    ok_as c.check_nil.result
    (λ over. (f : Form) (i : Inputs) (vs : List Value) (k : Case)
    → Ran (run_role f i vs v ChecksNil (state_of k c.args.self.now))
    before after (next_of over) (state_of k c.check_nil.new.self))
    (λ over. Ran (run_role form inputs block v (role v.op) s) before after (next_of over) t)
    (λ over part. ran_as form inputs block v ChecksNil s t before after (next_of over) c.in-ChecksNil.ensures
    (part form inputs block case))
    c.check_nil.ensures.ran
