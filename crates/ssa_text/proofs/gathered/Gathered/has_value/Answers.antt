use Rattle.std.proofs.Common.{◌==◌, ℕ, ap, ◌∙◌}
use Rattle.std.specs.List.{list_any}
use Rattle.ssa_ir.specs.declared.func.Value.{Value}
use Rattle.ssa_text.specs.Reading.{values_so_far}
use Rattle.ssa_lines.proofs.TableLemmas.{list_any_map}
use Rattle.ssa_text.proofs.gathered.Gathered.has_value.Goals as goal

-- the table has the numbers of the values
pub returns : goal.returns
returns c =
    let number : Value → ℕ = λ v. v.id.0 in
    c.contains.ensures
    ∙ ap (list_any (λ m. m == c.args.n)) c.requires.tables.3
    ∙ list_any_map number (λ m. m == c.args.n) (values_so_far c.args.self.now.func)
