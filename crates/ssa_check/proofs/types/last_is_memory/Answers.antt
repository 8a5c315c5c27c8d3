use Rattle.std.proofs.Common.{sym, ap, ◌∙◌}
use Rattle.std.specs.Option.{option_copied}
use Rattle.ssa_ir.specs.declared.classes.Class.TheVariants.{Memory}
use Rattle.ssa_ir.specs.Classes.{same_class}
use Rattle.ssa_check.proofs.TypeLemmas.{last_class}
use Rattle.ssa_check.proofs.types.last_is_memory.Goals as goal

pub returns-in-Some : goal.returns-in-Some
returns-in-Some c =
    c.same_class.ensures
    ∙ ap (λ k. same_class k Memory)
    (c.class_at.ensures
    ∙ sym (last_class c.args.tables.now c.args.args.now c.in-Some.id.now
    (sym c.last.ensures.value ∙ ap option_copied c.in-Some.is)))
