use Rattle.std.proofs.Common.{false, ap, ◌∙◌}
use Rattle.std.specs.Option.{option_map}
use Rattle.ssa_lines.proofs.FormLemmas.{blocks_behind, numbers_in, begun_blocks}
use Rattle.ssa_lines.proofs.read_forms.read_blocks.Goals as goal

pub loop-word-init : goal.loop-word-init
loop-word-init c =
    let words = c.args.words.now in
    ap (λ blocks. option_map (blocks_behind false blocks) (numbers_in words)) c.new-blocks.ensures
    ∙ begun_blocks words c.requires
