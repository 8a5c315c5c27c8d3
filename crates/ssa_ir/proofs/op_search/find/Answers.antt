use Rattle.std.proofs.Common.{rules, Ok, Err, Ordering}
use Rattle.std.specs.Cmp.Lexicographic.{slice_cmp}
use Rattle.std.specs.Ordering.{nat_cmp}
use Rattle.std.proofs.lemmas.Fn.{always_returns_same}
use Rattle.ssa_ir.specs.declared.op.Op.{Op}
use Rattle.ssa_ir.specs.declared.op.Op.TheVariants.{Add}
use Rattle.ssa_ir.specs.declared.op.Width.TheVariants.{W8}
use Rattle.ssa_ir.specs.OpNames.{op_name}
use Rattle.ssa_ir.proofs.OpNameLemmas.{searched}
use Rattle.ssa_ir.proofs.op_search.find.Goals as goal

-- the closure compares an op's name with the name
pub returns-in-Ok : goal.returns-in-Ok
returns-in-Ok c =
    let compares : Op → Ordering = λ op. slice_cmp nat_cmp (op_name op) c.args.name.now in
    let position = c.in-Ok.ensures.position compares (always_returns_same _ _ _ (λ a r g called. search rules)) in
    searched c.args.ops.now c.args.name.now (Ok c.in-Ok.place) position (Add W8)

pub returns-in-Err : goal.returns-in-Err
returns-in-Err c =
    let compares : Op → Ordering = λ op. slice_cmp nat_cmp (op_name op) c.args.name.now in
    let position = c.in-Err.ensures.position compares (always_returns_same _ _ _ (λ a r g called. search rules)) in
    searched c.args.ops.now c.args.name.now (Err c.in-Err.field-0) position
