use Rattle.std.proofs.Common.{◌≡◌, ◌<◌, List, Some, length, get_or, slice_get, refl, sym, ap, subst, ◌∙◌}
use Rattle.std.proofs.lemmas.Option.{slice_get_read}
use Rattle.ssa_ir.specs.declared.case.CallShown.{CallShown}
use Rattle.ssa_ir.specs.declared.case.Case.{Case}
use Rattle.ssa_ir.specs.declared.func.Block.{Block}
use Rattle.ssa_ir.specs.declared.func.Func.{Func}
use Rattle.ssa_ir.specs.Inputs.{Inputs, inputs_of}
use Rattle.ssa_ir.specs.Lookups.{sig_of}
use Rattle.ssa_ir.specs.Run.{Form, State, generic, run_block}
use Rattle.ssa_meaning.specs.declared.ready.ReadyBlock.{ReadyBlock}
use Rattle.ssa_meaning.specs.tables.Onward.{Turned}
use Rattle.ssa_meaning.specs.tables.Running.{room_of, state_of}
use Rattle.ssa_meaning.proofs.StepLemmas.{ok_as}
use Rattle.ssa_meaning.proofs.TurnLemmas.{runnable}
use Rattle.ssa_meaning.proofs.running.Running.run_turn.Goals as goal

pub run_block-requires-clause-runnable : goal.run_block-requires-clause-runnable
run_block-requires-clause-runnable c =
    let f : Func = c.args.func.now in
    let block : Block = c.index-as_slice-index.result in
    let there : slice_get f.blocks c.args.index ≡ Some block
    = slice_get_read f.blocks (length f.blocks) c.args.index block refl c.requires.within
    (c.index-as_slice-index.is ∙ ap (λ l. get_or l c.args.index block) c.as_slice.ensures) in
    runnable f c.args.index (room_of c.args.self.now.words) block c.requires.well_formed c.requires.room there

pub run_block-requires-clause-ready : goal.run_block-requires-clause-ready
run_block-requires-clause-ready c =
    let f : Func = c.args.func.now in
    let block : Block = c.index-as_slice-index.result in
    let readied : List ReadyBlock = c.args.ready.now.blocks.items in
    let there : slice_get f.blocks c.args.index ≡ Some block
    = slice_get_read f.blocks (length f.blocks) c.args.index block refl c.requires.within
    (c.index-as_slice-index.is ∙ ap (λ l. get_or l c.args.index block) c.as_slice.ensures) in
    let within : c.args.index < length readied = subst (λ n. c.args.index < n)
    (sym c.requires.ready.blocks) c.requires.within in
    let made : slice_get readied c.args.index ≡ Some c.index.result.now
    = slice_get_read readied (length readied) c.args.index c.index.result.now refl within c.index.ensures in
    c.requires.ready.each c.args.index block c.index.result.now there made

pub returns-clause-turned : goal.returns-clause-turned
returns-clause-turned c =
    let case : Case = c.args.given.now.case.now in
    let form : Form = generic (sig_of c.args.given.now.unit.now) in
    let inputs : Inputs = inputs_of case in
    let f : Func = c.args.func.now in
    let block : Block = c.index-as_slice-index.result in
    let s : State = state_of case c.args.self.now in
    let t : State = state_of case c.run_block.new.self in
    let before : List CallShown = c.args.self.now.calls in
    let after : List CallShown = c.run_block.new.self.calls in
    let there : slice_get f.blocks c.args.index ≡ Some block
    = slice_get_read f.blocks (length f.blocks) c.args.index block refl c.requires.within
    (c.index-as_slice-index.is ∙ ap (λ l. get_or l c.args.index block) c.as_slice.ensures) in
    let found : (b : Block) → slice_get f.blocks c.args.index ≡ Some b → block ≡ b
    = λ b at. let e : Some block ≡ Some b = sym there ∙ at in cc in
    ok_as c.run_block.result
    (λ o. Turned f (λ go. run_block form inputs f go block c.args.edge s) before after o t)
    (λ o. (b : Block) → slice_get f.blocks c.args.index ≡ Some b
    → Turned f (λ go. run_block form inputs f go b c.args.edge s) before after o t)
    (λ o turned b at. subst (λ x. Turned f (λ go. run_block form inputs f go x c.args.edge s) before after o t)
    (found b at) turned)
    c.run_block.ensures.turned
