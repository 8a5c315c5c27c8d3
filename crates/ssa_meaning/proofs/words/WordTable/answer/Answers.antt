use Rattle.std.proofs.Common.{◌∙◌, arith}
use Rattle.ssa_ir.specs.Inputs.{answer_of}
use Rattle.block_order.specs.Items.{values_at}
use Rattle.ssa_meaning.specs.tables.Puts.{puts, select_word_of}
use Rattle.ssa_meaning.specs.tables.Running.{words_of}
use Rattle.ssa_meaning.proofs.SelectLemmas.{puts_one, puts_done, selects_put}
use Rattle.ssa_meaning.proofs.words.WordTable.answer.Goals as goal

pub loop-index-preserved : goal.loop-index-preserved
loop-index-preserved c = (
  puts_one (select_word_of (answer_of c.args.reply.now)) c.args.values.now c.args.indexes.now c.loop-index.index-index
      (words_of c.loop-index.self) (words_of c.answer_at.new.self)
      (puts (select_word_of (answer_of c.args.reply.now)) (values_at c.args.values.now c.args.indexes.now)
      (words_of c.args.self.now))
      (omega (arith, c.loop-index-test.true)) c.answer_at.ensures.words c.loop-index.invariant.0,
  c.answer_at.ensures.room ∙ c.loop-index.invariant.1,
)

pub returns-clause-words : goal.returns-clause-words
returns-clause-words c =
    selects_put c.args.values.now c.args.call (answer_of c.args.reply.now) c.args.indexes.now (words_of c.args.self.now)
    (words_of c.loop-index.self)
    c.requires.apart c.requires.selects
    (puts_done (select_word_of (answer_of c.args.reply.now)) c.args.values.now c.args.indexes.now
    c.loop-index.index-index
    (words_of c.loop-index.self)
    (puts (select_word_of (answer_of c.args.reply.now)) (values_at c.args.values.now c.args.indexes.now)
    (words_of c.args.self.now))
    (omega (arith, c.loop-index-test.false)) c.loop-index.invariant.0)
