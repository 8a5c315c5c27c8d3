use Rattle.ssa_ir.proofs.OpNameLemmas.{named_among_all, op_of_its_name}
use Rattle.ssa_ir.proofs.op.Op.named.Goals as goal

pub returns-clause-exact : goal.returns-clause-exact
returns-clause-exact c = named_among_all c.args.name.now c.find.result c.find.ensures

pub returns-clause-value : goal.returns-clause-value
returns-clause-value c =
    op_of_its_name c.args.name.now c.find.result (named_among_all c.args.name.now c.find.result c.find.ensures)
