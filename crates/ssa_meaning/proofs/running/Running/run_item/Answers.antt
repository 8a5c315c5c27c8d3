use Rattle.std.proofs.Common.{◌≡◌, List, get_or, subst, ap, ◌∙◌}
use Rattle.std.proofs.lemmas.Option.{get_or_from_slice_get}
use Rattle.ssa_ir.specs.declared.case.Case.{Case}
use Rattle.ssa_ir.specs.declared.func.Value.{Value}
use Rattle.ssa_ir.specs.Inputs.{Inputs, inputs_of}
use Rattle.ssa_ir.specs.Lookups.{sig_of}
use Rattle.ssa_ir.specs.Roles.{role}
use Rattle.ssa_ir.specs.Run.{Form, State, generic, run_role, run_values}
use Rattle.block_order.specs.Items.{item_values}
use Rattle.ssa_meaning.specs.tables.Ran.{Ran, next_of}
use Rattle.ssa_meaning.specs.tables.Running.{state_of}
use Rattle.ssa_meaning.proofs.StepItemLemmas.{item_ran}
use Rattle.ssa_meaning.proofs.StepLemmas.{ok_as}
use Rattle.ssa_meaning.proofs.running.Running.run_item.Goals as goal

pub returns-clause-ran : goal.returns-clause-ran
returns-clause-ran c =
    let case : Case = c.args.given.now.case.now in
    let form : Form = generic (sig_of c.args.given.now.unit.now) in
    let inputs : Inputs = inputs_of case in
    let block : List Value = c.args.block.now.values in
    let item = c.args.item.now in
    let s : State = state_of case c.args.self.now in
    let t : State = state_of case c.run_value.new.self in
    let before = c.args.self.now.calls in
    let after = c.run_value.new.self.calls in
    let seen : List Value = c.as_slice-values.result.now in
    let taken : Value = c.index-values-item.result in
    let v : Value = c.requires.item.value in
    let same : taken ≡ v
    = c.index-values-item.is ∙ ap (λ l. get_or l item.value taken) c.as_slice-values.ensures
    ∙ get_or_from_slice_get block item.value v taken c.requires.item.at in
    ok_as c.run_value.result
    (λ over. Ran (run_role form inputs seen taken (role taken.op) s) before after (next_of over) t)
    (λ over. Ran (run_values form inputs block (item_values block item) s) before after (next_of over) t)
    (λ over part. item_ran form inputs block item v s t before after
    (next_of over) c.requires.item.at c.requires.item.selects
    (subst (λ w. Ran (run_role form inputs block w (role w.op) s) before after (next_of over) t) same
    (subst (λ b. Ran (run_role form inputs b taken (role taken.op) s) before after
    (next_of over) t) c.as_slice-values.ensures part)))
    c.run_value.ensures.ran
