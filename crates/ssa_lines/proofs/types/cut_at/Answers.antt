use Rattle.std.proofs.Common.{◌==◌, sym, ◌∙◌}
use Rattle.ssa_lines.proofs.TypeLemmas.{none_found, cut_found}
use Rattle.ssa_lines.proofs.types.cut_at.Goals as goal

pub returns-in_default : goal.returns-in_default
returns-in_default c = none_found (λ b. b == c.args.byte) c.args.text.now (sym c.first_place.ensures ∙ c.in_default.is)

pub returns : goal.returns
returns c =
    cut_found (λ b. b == c.args.byte) c.args.text.now c.in-Some.place (sym c.first_place.ensures ∙ c.in-Some.is)
