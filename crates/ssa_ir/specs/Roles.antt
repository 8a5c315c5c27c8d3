-- What each op is to a run.
use Rattle.ssa_ir.specs.declared.op.Op.{Op}
use Rattle.ssa_ir.specs.declared.role.Role.{Role}
use Rattle.ssa_ir.specs.OpFacts.{facts}

abbrev pub role : Op → Role
role op = (facts op).role
