use Rattle.std.proofs.Common.{[], get_or, ap, ◌∙◌}
use Rattle.ssa_ir.proofs.OpPlaceLemmas.{names, named_there}
use Rattle.ssa_ir.proofs.op.Op.name.Goals as goal

-- the table has each name at its op's place
pub returns : goal.returns
returns c = c.text_at.ensures ∙ ap (λ n. get_or names n []) c.place.ensures ∙ named_there c.args.self
