use Rattle.std.proofs.Common.{take, ap}
use Rattle.ssa_meaning.specs.tables.Running.{words_of}
use Rattle.ssa_meaning.proofs.StepLemmas.{past_end, shown_to_end}
use Rattle.ssa_meaning.proofs.running.Running.words_shown.Goals as goal

pub returns-in_default : goal.returns-in_default
returns-in_default c =
    let shown = take c.saturating_sub.result c.args.args.now in
    let past = past_end shown c.loop-i.i c.get.result c.get.ensures.lookup c.in_default.is in
    shown_to_end c.loop-i.words (λ id. words_of c.args.self.now.words id.0) c.args.types.now shown c.args.args.now
    c.loop-i.i past (ap (λ n. take n c.args.args.now) c.saturating_sub.ensures) c.loop-i.invariant
