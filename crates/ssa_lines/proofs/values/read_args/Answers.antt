use Rattle.std.proofs.Common.{ap, ◌∙◌}
use Rattle.ssa_lines.specs.declared.forms.Spelled.TheVariants.{Fits}
use Rattle.ssa_lines.proofs.ArgLemmas.{args_from, from_first}
use Rattle.ssa_lines.proofs.values.read_args.Goals as goal

pub loop-word-init : goal.loop-word-init
loop-word-init c =
    ap (λ args. args_from (Fits args) c.args.words.now) c.new.ensures ∙ from_first c.args.words.now
