use Rattle.std.proofs.Common.{◌≡◌, ◌+◌, List, ◌∷◌, ◌++◌, [], map, drop, slice_get, Some, sym, ap, ◌∙◌}
use Rattle.std.specs.Option.{option_copied}
use Rattle.gossa_base.specs.Memory.{write_pieces}
use Rattle.ssa_ir.specs.declared.case.Case.{Case}
use Rattle.ssa_ir.specs.declared.case.Reply.{Reply}
use Rattle.ssa_ir.specs.Inputs.{Answer, inputs_of, answer_of, pieces_of}
use Rattle.ssa_ir.specs.Lookups.{sig_of}
use Rattle.ssa_ir.specs.Run.{Form, State, generic, shown_of}
use Rattle.ssa_meaning.specs.tables.MemoryChanges.{memory_of, since_of}
use Rattle.ssa_meaning.specs.tables.Running.{state_of}
use Rattle.gossa_base.proofs.ListPlaces.{item_copied}
use Rattle.ssa_meaning.proofs.StepLemmas.{taken_from, call_goes_on}
use Rattle.ssa_meaning.proofs.running.Running.run_call.Goals as goal

pub returns-clause-ran : goal.returns-clause-ran
returns-clause-ran c =
    let case : Case = c.args.given.now.case.now in
    let form : Form = generic (sig_of c.args.given.now.unit.now) in
    let old = c.args.self.now in
    let call = c.args.call.now in
    let s : State = state_of case old in
    let reply : Reply = c.in-Some.reply.now in
    let a : Answer = answer_of reply in
    let rest : List Answer = drop (old.taken + 1) (map answer_of case.replies) in
    let there : slice_get case.replies old.taken ≡ Some reply
    = ap (λ l. slice_get l old.taken) (sym c.as_slice.ensures)
    ∙ sym (item_copied c.as_slice.result.now old.taken c.get.result c.get.ensures.lookup)
    ∙ ap option_copied c.in-Some.is in
    let memory : memory_of c.answer-2.new.self ≡ write_pieces s.memory a.writes
    = c.in_ok-answer.ensures.memory ∙ ap (λ l. write_pieces s.memory (pieces_of l)) c.as_slice-2.ensures in
    let since : since_of c.answer-2.new.self ≡ write_pieces s.memory a.writes
    = c.in_ok-answer.ensures.since ∙ ap (λ l. write_pieces s.memory (pieces_of l)) c.as_slice-2.ensures in
    let shown : c.push.new.self ≡ old.calls ++ shown_of form call s ∷ []
    = c.in_ok-push.ensures.ok ∙ ap (λ x. old.calls ++ x ∷ []) c.in_ok-shown.ensures in
    call_goes_on form (inputs_of case) c.args.values.now call s _ old.calls c.push.new.self a rest
    (taken_from answer_of case.replies old.taken reply there) shown
    (λ i. record { words = λ n. c.answer.ensures.words n i; memory = memory i; since = since i; answers = rest })
