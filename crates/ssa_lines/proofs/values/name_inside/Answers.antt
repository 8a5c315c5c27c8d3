use Rattle.std.proofs.Common.{◌≡◌, false, cond, codes, take, drop, nat_eq, sym, ap, ◌∙◌}
use Rattle.std.specs.Cmp.Lexicographic.{pointwise}
use Rattle.std.proofs.lemmas.Cmp.{nat_list_eq_equiv}
use Rattle.ssa_lines.specs.ValueForms.{checked_name, call_name}
use Rattle.ssa_lines.proofs.values.name_inside.Goals as goal

pub returns-in-None-clause-value : goal.returns-in-None-clause-value
returns-in-None-clause-value c =
    let front : pointwise nat_eq (codes "AuxCall{") (take 8 c.args.inside.now) ≡ false =
    nat_list_eq_equiv.symm (codes "AuxCall{") (take 8 c.args.inside.now) ∙ c.in-None.ensures.cases in
    c.checked_name.ensures.value
    ∙ sym (ap (λ b. cond b (call_name (drop 8 c.args.inside.now)) (checked_name c.args.inside.now)) front)
