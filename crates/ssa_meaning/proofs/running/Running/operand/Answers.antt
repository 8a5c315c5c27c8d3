use Rattle.std.proofs.Common.{ap, sym, ◌∙◌}
use Rattle.std.specs.Option.{option_copied}
use Rattle.ssa_meaning.specs.tables.Running.{words_of}
use Rattle.gossa_base.proofs.ListPlaces.{item_copied}
use Rattle.ssa_meaning.proofs.StepLemmas.{operand_at, word_of_argument}
use Rattle.ssa_meaning.proofs.running.Running.operand.Goals as goal

pub returns-in-Some : goal.returns-in-Some
returns-in-Some c =
    let words = words_of c.args.self.now.words in
    let args = c.args.args.now in
    c.word.ensures
    ∙ sym (operand_at words args c.args.i
    ∙ ap (word_of_argument words) (sym (item_copied args c.args.i c.get.result c.get.ensures.lookup))
    ∙ ap (λ r. word_of_argument words (option_copied r)) c.in-Some.is)

pub returns-in-None : goal.returns-in-None
returns-in-None c =
    let words = words_of c.args.self.now.words in
    let args = c.args.args.now in
    sym (operand_at words args c.args.i
    ∙ ap (word_of_argument words) (sym (item_copied args c.args.i c.get.result c.get.ensures.lookup))
    ∙ ap (λ r. word_of_argument words (option_copied r)) c.in-None.is)
