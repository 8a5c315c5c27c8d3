use Rattle.std.proofs.Common.{slice_index_or, ap, ◌∙◌, arith}
use Rattle.ssa_meaning.specs.tables.Running.{words_of}
use Rattle.ssa_meaning.specs.tables.Puts.{put_all}
use Rattle.ssa_meaning.proofs.WordLemmas.{put_one}
use Rattle.ssa_meaning.proofs.words.WordTable.put_entering.Goals as goal

pub loop-index-preserved : goal.loop-index-preserved
loop-index-preserved c =
    let same = c.loop-index.invariant.2 in (
      put_one c.args.self.now.entering.items c.loop-index.index c.index.result.now (words_of c.loop-index.self)
          (words_of c.put.new.self)
          (put_all c.args.self.now.entering.items (words_of c.args.self.now))
          (omega (arith, c.loop-index-test.true, c.len-index-end.ensures, c.loop-index.auto))
          (c.index.ensures ∙ ap (λ e. slice_index_or e.items c.loop-index.index c.index.result.now) same)
          c.put.ensures.words c.loop-index.invariant.0,
      c.put.ensures.room ∙ c.loop-index.invariant.1,
      c.put.ensures.entering ∙ same,
    )
