use Rattle.std.proofs.Common.{◌∙◌}
use Rattle.ssa_text.proofs.ReaderLemmas.{named_block}
use Rattle.ssa_text.proofs.gathered.Gathered.has_whole_block.Goals as goal

pub returns : goal.returns
returns c = c.has_block.ensures ∙ named_block c.args.self.now.func c.args.id c.requires.whole
